-- K3's rules on the show that serves every shift mode, worked out from the request's words. By computation.
use Prim.Native.Nat.{ℕ, ◌^◌, ◌-◌}
use mathlib.Core.Path.{◌≡◌, refl}
use mathlib.Core.List.{List, [], ◌∷◌, ◌++◌, map}
use lib.ListN.{replicate}
use Rattle.machine_types.specs.Start.{fresh_gc, fresh_seq}
use Rattle.machine.specs.Memory.{mem}
use Rattle.machine.specs.Calls.{write_u8, show_pixels}
use Rattle.machine.specs.Step.{State, state, Call, vram, cpu}
use Rattle.machine.proofs.Worked.{start_of, gc_to, seq_to, says_from, says, each}
use Rattle.machine.proofs.AccessCounts.{counting, masking, planes_of}

-- ---- what is shown

-- 12, 34, 56, 78 in the planes' first bytes, 1B in plane 1's next
worked : List Call
worked = vram (write_u8 0 0 0x12) ∷ vram (write_u8 1 0 0x34) ∷ vram (write_u8 2 0 0x56) ∷ vram (write_u8 3 0 0x78) ∷ vram (write_u8 1 1 0x1B) ∷ []

-- 9A, BC, DE, F0 at offset 5, plane 1's 1B at 6; all else 0, at offset 4 too
at_five : List Call
at_five = vram (write_u8 0 5 0x9A) ∷ vram (write_u8 1 5 0xBC) ∷ vram (write_u8 2 5 0xDE) ∷ vram (write_u8 3 5 0xF0) ∷ vram (write_u8 1 6 0x1B) ∷ []

-- FF in the planes' last bytes
at_end : List Call
at_end = vram (write_u8 0 7 0xFF) ∷ vram (write_u8 1 7 0xFF) ∷ vram (write_u8 2 7 0xFF) ∷ vram (write_u8 3 7 0xFF) ∷ []

-- two bytes a plane, and a picture that is not theirs, of pixels above 15
unmatched : State
unmatched =
    state fresh_gc fresh_seq
    (mem (0x12 ∷ 0 ∷ []) (0x34 ∷ 0x1B ∷ []) (0x56 ∷ 0 ∷ []) (0x78 ∷ 0 ∷ []) (replicate 8 0xFF ++ (0x81 ∷ 0x82 ∷ 0x83 ∷ 0x84 ∷ 0x85 ∷ 0x86 ∷ 0x87 ∷ 0x88 ∷ [])))

-- shows of some offsets
shows : List ℕ → List Call
shows os = map (λ o. cpu (show_pixels o)) os

-- Mode for Chain4, CGACompatible, Standard and Unused
modes : List ℕ
modes = 0x40 ∷ 0x20 ∷ 0 ∷ 0x60 ∷ []

-- ---- the rules

pub shown : List (List ℕ)
unfolding worked at_five at_end unmatched shows modes counting masking planes_of says says_from each gc_to seq_to
shown =
    -- by each mode: four bits a pixel, two bits a pixel, the picture's
    each (λ m. says (worked ++ gc_to 5 m) (shows (0 ∷ []))) modes
    -- Map Mask 0, chain-four, map select 3, chain odd/even and the controller's odd/even change nothing
    ∷ each (λ m. says (worked ++ (seq_to 2 0 ++ (seq_to 4 12 ++ (gc_to 4 3 ++ (gc_to 6 2 ++ gc_to 5 m))))) (shows (0 ∷ []))) (0x50 ∷ 0x30 ∷ 0x10 ∷ 0x70 ∷ [])
    -- under chain-four the planes are read at the offset as it stands, and at the next as that stands
    ∷ each (λ q. each (λ m. says (at_five ++ (seq_to 4 q ++ gc_to 5 m)) (shows (5 ∷ 4 ∷ []))) (0x40 ∷ 0x20 ∷ [])) (8 ∷ 12 ∷ [])
    -- the last offset but one, the last, the one past it, the greatest: 5 at the last in CGACompatible alone, and eight zeros then
    ∷ each (λ m. says (at_end ++ gc_to 5 m) (shows (6 ∷ 7 ∷ 8 ∷ (2 ^ 64 - 1) ∷ []))) modes
    -- one byte a plane: no show in CGACompatible; two: one
    ∷ each (λ m. says_from (start_of 1) (gc_to 5 m) (shows (0 ∷ 1 ∷ []))) modes
    ∷ each (λ m. says_from (start_of 2) (gc_to 5 m) (shows (0 ∷ 1 ∷ 2 ∷ []))) modes
    -- 6 of either record before 1, and 1 before 5: Set/Reset 16, Map Mask 16, a plane of seven bytes, offset 9
    ∷ says_from (state (counting 5 16) fresh_seq (planes_of 7)) [] (shows (9 ∷ []))
    ∷ says_from (state (counting 5 0) (masking 16) (planes_of 7)) [] (shows (9 ∷ []))
    ∷ each (λ m. says_from (state (counting 5 0) fresh_seq (planes_of 7)) (gc_to 5 m) (shows (9 ∷ []))) modes
    -- the picture as it stands, whole bytes; the other two modes do not look at it
    ∷ each (λ m. says_from unmatched (gc_to 5 m) (shows (0 ∷ []))) (0x40 ∷ 0x20 ∷ [])
    ∷ each (λ m. says_from unmatched (gc_to 5 m) (shows (0 ∷ 1 ∷ []))) (0 ∷ 0x60 ∷ [])
    ∷ []

-- a number, and eight zeros
abbrev blank_of : ℕ → List ℕ
blank_of n = n ∷ replicate 8 0

-- what the worked example shows, by each mode
worked_said : List ℕ
worked_said =
    (0 ∷ 1 ∷ 2 ∷ 3 ∷ 4 ∷ 5 ∷ 6 ∷ 7 ∷ 8 ∷ [])
    ++ ((0 ∷ 0 ∷ 1 ∷ 0 ∷ 2 ∷ 0 ∷ 1 ∷ 2 ∷ 3 ∷ [])
    ++ ((0 ∷ 0 ∷ 0xC ∷ 0xA ∷ 0xF ∷ 8 ∷ 6 ∷ 5 ∷ 0 ∷ []) ++ (0 ∷ 0 ∷ 0xC ∷ 0xA ∷ 0xF ∷ 8 ∷ 6 ∷ 5 ∷ 0 ∷ [])))

-- offsets 5 and 4 in Chain4, then in CGACompatible
five_said : List ℕ
five_said =
    (0 ∷ 9 ∷ 0xA ∷ 0xB ∷ 0xC ∷ 0xD ∷ 0xE ∷ 0xF ∷ 0 ∷ [])
    ++ (blank_of 0 ++ ((0 ∷ 2 ∷ 1 ∷ 2 ∷ 2 ∷ 0 ∷ 1 ∷ 2 ∷ 3 ∷ []) ++ (0 ∷ 0 ∷ 0 ∷ 0 ∷ 0 ∷ 2 ∷ 3 ∷ 3 ∷ 0 ∷ [])))

-- offsets 6, 7, 8 and the greatest, where CGACompatible answers the first alone
end_said : List ℕ
unfolding each
end_said =
    blank_of 0 ++ ((0 ∷ replicate 8 15) ++ (blank_of 5 ++ (blank_of 5
    ++ ((0 ∷ 0 ∷ 0 ∷ 0 ∷ 0 ∷ 3 ∷ 3 ∷ 3 ∷ 3 ∷ []) ++ (each blank_of (5 ∷ 5 ∷ 5 ∷ [])
    ++ (each (λ n. blank_of n ++ ((n ∷ replicate 8 15) ++ (blank_of 5 ++ blank_of 5))) (0 ∷ 0 ∷ [])))))))

pub shown_said : List (List ℕ)
unfolding worked_said five_said end_said each
shown_said =
    worked_said
    ∷ worked_said
    ∷ (five_said ++ five_said)
    ∷ end_said
    ∷ each blank_of (0 ∷ 5 ∷ 5 ∷ 5 ∷ 0 ∷ 5 ∷ 0 ∷ 5 ∷ [])
    ∷ each blank_of (0 ∷ 0 ∷ 5 ∷ 0 ∷ 5 ∷ 5 ∷ 0 ∷ 0 ∷ 5 ∷ 0 ∷ 0 ∷ 5 ∷ [])
    ∷ blank_of 6
    ∷ blank_of 6
    ∷ each blank_of (1 ∷ 1 ∷ 1 ∷ 1 ∷ [])
    ∷ ((0 ∷ 1 ∷ 2 ∷ 3 ∷ 4 ∷ 5 ∷ 6 ∷ 7 ∷ 8 ∷ []) ++ (0 ∷ 0 ∷ 1 ∷ 0 ∷ 2 ∷ 0 ∷ 1 ∷ 2 ∷ 3 ∷ []))
    ∷ each (λ n. (n ∷ replicate 8 0xFF) ++ (n ∷ 0x81 ∷ 0x82 ∷ 0x83 ∷ 0x84 ∷ 0x85 ∷ 0x86 ∷ 0x87 ∷ 0x88 ∷ [])) (0 ∷ 0 ∷ [])
    ∷ []

pub show-rules : shown ≡ shown_said
unfolding shown shown_said
show-rules = refl
