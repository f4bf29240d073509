-- K6: how many bits of each plane's byte a store changed, plane 0 first. By computation, from the request's words: the counting itself, each store, each mode and function,
-- each mask, the offset that is looked at, each refusal, and a picture that does not match its planes.
use Prim.Native.Nat.{ℕ, ◌+◌, ◌%◌}
use mathlib.Core.Path.{◌≡◌, refl}
use mathlib.Core.Bool.{true, false}
use mathlib.Core.List.{List, [], ◌∷◌, ◌++◌}
use lib.ListN.{replicate}
use Rattle.machine.specs.Memory.{mem}
use Rattle.machine_types.specs.Start.{fresh_gc, fresh_seq}
use Rattle.machine.specs.Calls.{write_u8, plane_set, plane_and, plane_or, deplane, seq_plane_set, seq_plane_and, seq_plane_or, cpu_read, cpu_write}
use Rattle.machine.specs.Step.{State, state, Call, vram, direct, cpu}
use Rattle.machine.proofs.Computed.{computed}
use Rattle.machine.proofs.AccessCounts.{odd}
use Rattle.machine.proofs.Worked.{in_plane, gc_to, seq_to, says_from, says, each, painted, case10, case11}

-- ---- what is stored, and over what

-- byte x over another, in plane p at offset 2
over : ℕ → ℕ → ℕ → List ℕ
unfolding says
over old p x = says (vram (write_u8 p 2 old) ∷ []) (vram (plane_set p 2 x) ∷ [])

-- plane p has 0F at 4, and 3F at another offset
two_bytes : ℕ → ℕ → List Call
two_bytes p at = vram (write_u8 p at 0x3F) ∷ vram (write_u8 p 4 0x0F) ∷ []

-- .. which is 4 + p, and its neighbour the same; a Memory Mode with chain-four, Map Mask 0
chained_to : ℕ → ℕ → List Call
unfolding two_bytes gc_to seq_to
chained_to mode p = two_bytes p (4 + p) ++ (two_bytes ((p + 1) % 4) (4 + p) ++ (gc_to 6 4 ++ (gc_to 8 0xFF ++ seq_to 4 mode)))

-- the sequencer's three stores under chain-four at 4 + p, into the plane that this offset chooses, and into its neighbour
chained : ℕ → ℕ → List ℕ
unfolding says chained_to
chained mode p = says (chained_to mode p) (of_plane p ++ of_plane ((p + 1) % 4))
  where
    of_plane : ℕ → List Call
    of_plane q = direct (seq_plane_and q (4 + p) true 5) ∷ direct (seq_plane_or q (4 + p) false 0xF5) ∷ direct (seq_plane_set q (4 + p) false 0x0A) ∷ []

-- what is painted, latches loaded at offset 0, Set/Reset 5; Mode, Data Rotate and Bit Mask so. Then a write of x
drawn : ℕ → ℕ → ℕ → ℕ → ℕ → List ℕ
unfolding says painted gc_to
drawn mode rotate mask address x =
    says (painted ++ (cpu (cpu_read 0xA0000 false) ∷ (gc_to 0 5 ++ (gc_to 5 mode ++ (gc_to 3 rotate ++ gc_to 8 mask))))) (cpu (cpu_write address false x) ∷ [])

-- two bytes of 0 a plane, and a picture of nines
unmade : State
unmade = state fresh_gc fresh_seq (mem (0 ∷ 0 ∷ []) (0 ∷ 0 ∷ []) (0 ∷ 0 ∷ []) (0 ∷ 0 ∷ []) (replicate 16 9))

-- what a store says over it, sequential and through a Map Mask, and the picture that it leaves
over_unmade : ℕ → Call → List ℕ
unfolding unmade says_from seq_to computed
over_unmade mask c = let set = seq_to 4 4 ++ seq_to 2 mask in says_from unmade set (c ∷ []) ++ (computed unmade (set ++ (c ∷ []))).final.memory.picture

-- planes of two bytes and of one
misshapen : State
misshapen = state fresh_gc fresh_seq (mem (0 ∷ 0 ∷ []) (0 ∷ []) (0 ∷ 0 ∷ []) (0 ∷ 0 ∷ []) (replicate 16 0))

-- the four planes
four : List ℕ
four = 0 ∷ 1 ∷ 2 ∷ 3 ∷ []

-- ---- the rules

pub changing : List (List ℕ)
unfolding over two_bytes chained_to chained drawn over_unmade misshapen odd four says says_from painted each gc_to seq_to case10 case11
changing =
    -- the counting: each bit set, each cleared; 0 to 8 of them in each plane
    each (over 0 0) (1 ∷ 2 ∷ 4 ∷ 8 ∷ 16 ∷ 32 ∷ 64 ∷ 128 ∷ [])
    ∷ each (over 0xFF 1) (0xFE ∷ 0xFD ∷ 0xFB ∷ 0xF7 ∷ 0xEF ∷ 0xDF ∷ 0xBF ∷ 0x7F ∷ [])
    ∷ each (λ p. each (over 0x5A p) (0x5A ∷ 0x5B ∷ 0x59 ∷ 0x5D ∷ 0x55 ∷ 0x45 ∷ 0x65 ∷ 0x25 ∷ 0xA5 ∷ [])) four
    -- case 11's write, and the same again; case 10's
    ∷ says [] (case11 ++ (cpu (cpu_write 0xA0000 false 5) ∷ []))
    ∷ says [] case10
    -- vram's stores: the byte put down counts, and not the one handed in
    ∷ says (vram (write_u8 2 3 0x7F) ∷ [])
    (vram (plane_and 2 3 0x9F) ∷ vram (plane_and 2 3 0x9F) ∷ vram (plane_or 2 3 0x70) ∷ vram (write_u8 2 3 0x80) ∷ vram (plane_set 2 3 0x81) ∷ vram (deplane 3) ∷ [])
    -- the sequencer's, through Map Mask 4; what it stops answers 0
    ∷ says (vram (write_u8 2 3 0x7F) ∷ (seq_to 4 4 ++ seq_to 2 4))
    (direct (seq_plane_and 2 3 true 0x9F) ∷ direct (seq_plane_and 2 3 true 0x9F) ∷ direct (seq_plane_or 2 3 true 0x70) ∷ direct (seq_plane_set 2 3 true 0x80)
    ∷ direct (seq_plane_set 0 3 true 0xFF) ∷ direct (seq_plane_or 1 3 true 0xFF) ∷ direct (seq_plane_and 3 3 true 0) ∷ [])
    -- .. under its odd/even: planes 0 and 2, then 1 and 3
    ∷ each (λ p. says (seq_to 2 15) (direct (seq_plane_set p 3 false 0xFF) ∷ direct (seq_plane_set p 4 true 0xFF) ∷ [])) four
    -- .. under chain-four: of the offset with its low two bits clear, and 0 where another plane is named
    ∷ (each (chained 12) four ++ each (chained 8) four)
    -- the processor's writes: mode 0 by each function, and through Bit Mask 3C; modes 1, 2 and 3
    ∷ each (λ n. drawn 0 n 0xFF 0xA0000 0x0F) (0 ∷ 8 ∷ 0x10 ∷ 0x18 ∷ [])
    ∷ drawn 0 0 0x3C 0xA0000 0x0F
    ∷ each (λ x. drawn 1 0 0xFF x 0) (0xA0000 ∷ 0xA0002 ∷ [])
    ∷ drawn 2 0 0xFF 0xA0000 5
    ∷ each (drawn 3 4 0x3C 0xA0000) (0xF0 ∷ 0 ∷ [])
    -- .. through Map Mask 6; under the sequencer's odd/even and the controller's, each with every plane in Map Mask; a0 clear, then set
    ∷ says (painted ++ seq_to 2 6) (cpu (cpu_write 0xA0000 false 0xFF) ∷ [])
    ∷ says (painted ++ seq_to 4 0) (cpu (cpu_write 0xA0000 false 0xFF) ∷ cpu (cpu_write 0xA0001 false 0xFF) ∷ [])
    ∷ says (painted ++ gc_to 5 0x10) (cpu (cpu_write 0xA0000 false 0xFF) ∷ cpu (cpu_write 0xA0001 false 0xFF) ∷ [])
    -- .. under chain-four, and where chain odd/even leads A0005 to offset 4
    ∷ each (λ mode. each (λ p. says (chained_to mode p) (cpu (cpu_write (0xA0004 + p) false 0xFF) ∷ [])) four) (12 ∷ 8 ∷ [])
    ∷ says (two_bytes 0 5 ++ (two_bytes 1 5 ++ (two_bytes 2 5 ++ (two_bytes 3 5 ++ (gc_to 6 6 ++ (gc_to 8 0xFF ++ (seq_to 4 4 ++ seq_to 2 15))))))) (cpu (cpu_write 0xA0005 false 0xFF) ∷ [])
    -- every refusal: 4 and 3, 2 and 3, 6, 1
    ∷ says painted (vram (write_u8 4 0 0) ∷ vram (plane_set 0 8 0) ∷ vram (plane_and 4 0 0) ∷ vram (plane_or 3 8 0xFF) ∷ direct (seq_plane_set 4 0 false 0) ∷ direct (seq_plane_and 0 8 false 0)
    ∷ direct (seq_plane_or 7 0 false 0xFF) ∷ cpu (cpu_write 0xB0000 false 0) ∷ cpu (cpu_write 0xA0008 false 0) ∷ [])
    ∷ says_from odd [] (direct (seq_plane_set 0 0 false 1) ∷ direct (seq_plane_and 0 0 false 1) ∷ direct (seq_plane_or 0 0 false 1) ∷ cpu (cpu_write 0xA0000 false 1) ∷ [])
    ∷ says_from misshapen []
    (vram (write_u8 0 0 1) ∷ vram (plane_set 0 0 1) ∷ vram (plane_and 0 0 1) ∷ vram (plane_or 0 0 1) ∷ direct (seq_plane_set 0 0 false 1) ∷ cpu (cpu_write 0xA0000 false 1) ∷ [])
    -- a picture that does not match: a store that changes no bit remakes its eight pixels, one that the mask stopped everywhere none
    ∷ (over_unmade 15 (vram (plane_or 1 1 0)) ++ (over_unmade 15 (direct (seq_plane_and 3 1 false 0xFF)) ++ over_unmade 15 (cpu (cpu_write 0xA0001 false 0xFF))))
    ∷ (over_unmade 0 (direct (seq_plane_and 3 1 false 0xFF)) ++ over_unmade 0 (cpu (cpu_write 0xA0001 false 0xFF)))
    ∷ []

-- an accepted store that changed n bits of plane p alone
abbrev stored : ℕ → ℕ → List ℕ
stored p n = 0 ∷ in_plane p n

-- one that was refused with a number
abbrev refused : ℕ → List ℕ
refused n = n ∷ 0 ∷ 0 ∷ 0 ∷ 0 ∷ []

pub changing_said : List (List ℕ)
unfolding each four
changing_said =
    each (stored 0) (replicate 8 1)
    ∷ each (stored 1) (replicate 8 1)
    ∷ each (λ p. each (stored p) (0 ∷ 1 ∷ 2 ∷ 3 ∷ 4 ∷ 5 ∷ 6 ∷ 7 ∷ 8 ∷ [])) four
    ∷ (replicate 20 0 ++ (0 ∷ 8 ∷ 0 ∷ 8 ∷ 0 ∷ 0 ∷ 0 ∷ 0 ∷ 0 ∷ 0 ∷ []))
    ∷ (replicate 12 0 ++ (0 ∷ 0 ∷ 8 ∷ 0 ∷ 0 ∷ []))
    ∷ (each (stored 2) (2 ∷ 0 ∷ 2 ∷ 8 ∷ 1 ∷ []) ++ (0 ∷ 0 ∷ []))
    ∷ each (stored 2) (2 ∷ 0 ∷ 2 ∷ 8 ∷ 0 ∷ 0 ∷ 0 ∷ [])
    ∷ (stored 0 8 ++ (stored 0 0 ++ (stored 1 0 ++ (stored 1 8 ++ (stored 2 8 ++ (stored 2 0 ++ (stored 3 0 ++ stored 3 8)))))))
    ∷ each (λ mode. each (λ p. each (stored p) (2 ∷ 4 ∷ 8 ∷ 0 ∷ 0 ∷ 0 ∷ [])) four) (12 ∷ 8 ∷ [])
    ∷ each (λ n. 0 ∷ replicate 4 n) (4 ∷ 1 ∷ 3 ∷ 4 ∷ [])
    ∷ (0 ∷ 3 ∷ 3 ∷ 1 ∷ 1 ∷ [])
    ∷ (0 ∷ 0 ∷ 0 ∷ 0 ∷ 0 ∷ 0 ∷ 2 ∷ 2 ∷ 2 ∷ 2 ∷ [])
    ∷ (0 ∷ 6 ∷ 2 ∷ 6 ∷ 2 ∷ [])
    ∷ (0 ∷ 2 ∷ 0 ∷ 1 ∷ 1 ∷ 0 ∷ 0 ∷ 0 ∷ 0 ∷ 0 ∷ [])
    ∷ (0 ∷ 0 ∷ 6 ∷ 6 ∷ 0 ∷ [])
    ∷ (0 ∷ 6 ∷ 0 ∷ 6 ∷ 0 ∷ 0 ∷ 0 ∷ 7 ∷ 0 ∷ 7 ∷ [])
    ∷ (0 ∷ 6 ∷ 0 ∷ 6 ∷ 0 ∷ 0 ∷ 0 ∷ 7 ∷ 0 ∷ 7 ∷ [])
    ∷ each (λ mode. each (λ p. stored p 4) four) (12 ∷ 8 ∷ [])
    ∷ (0 ∷ 4 ∷ 4 ∷ 4 ∷ 4 ∷ [])
    ∷ each refused (4 ∷ 3 ∷ 4 ∷ 3 ∷ 4 ∷ 3 ∷ 4 ∷ 2 ∷ 3 ∷ [])
    ∷ each refused (replicate 4 6)
    ∷ each refused (replicate 6 1)
    ∷ each (λ n. replicate 5 n ++ (replicate 8 9 ++ replicate 8 n)) (replicate 3 0)
    ∷ each (λ n. replicate 5 n ++ replicate 16 9) (replicate 2 0)
    ∷ []

pub change-rules : changing ≡ changing_said
unfolding changing changing_said
change-rules = refl
