-- K4's rules on the processor's reads and peeks under chain-four, worked out from the request's words. As in AccessRules, of which they are a part, by computation.
use Prim.Native.Nat.{ℕ}
use mathlib.Core.Path.{◌≡◌, refl}
use mathlib.Core.Bool.{Bool, true, false}
use mathlib.Core.List.{List, [], ◌∷◌, ◌++◌}
use lib.ListN.{replicate}
use Rattle.machine.specs.Calls.{read_u8, peek_u8, read_glyph, read_linear, serialize_linear, write_u8, seq_cpu_read_u8, seq_peek_u8, seq_read_linear, seq_serialize_linear}
use Rattle.machine.specs.Calls.{cpu_read, cpu_peek, cpu_write, serialize}
use Rattle.machine.specs.Step.{Call, vram, direct, cpu}
use Rattle.machine.proofs.Computed.{computed}
use Rattle.machine.proofs.Worked.{start_of, start, gc_to, seq_to, says_from, says, each, tops, counters}

-- 10 11 12 13 in the planes at offset 4, F0 CC AA 00 at 5; the 64K window, map select 2, Memory Mode so: 4 is sequential, 8 chain-four, 12 both
coloured : ℕ → List Call
unfolding gc_to seq_to
coloured memory_mode =
    gc_to 6 4
    ++ (gc_to 4 2
    ++ (seq_to 4 memory_mode
    ++ (vram (write_u8 0 4 0x10)
    ∷ vram (write_u8 1 4 0x11)
    ∷ vram (write_u8 2 4 0x12)
    ∷ vram (write_u8 3 4 0x13)
    ∷ vram (write_u8 0 5 0xF0)
    ∷ vram (write_u8 1 5 0xCC)
    ∷ vram (write_u8 2 5 0xAA)
    ∷ [])))

-- a read and a peek of each address
looks : Bool → List ℕ → List Call
looks page [] = []
looks page (x ∷ xs) = cpu (cpu_read x page) ∷ cpu (cpu_peek x page) ∷ looks page xs

-- the four latches after calls
latches : List Call → List ℕ
unfolding start computed
latches cs = (computed start cs).final.gc.latches

-- addresses that end in each of the four pairs of low bits
low_bits : List ℕ
low_bits = 0xA0004 ∷ 0xA0005 ∷ 0xA0006 ∷ 0xA0007 ∷ []

-- chain-four is Memory Mode's bit 3, whatever its bit 2
chain_fours : List ℕ
chain_fours = 12 ∷ 8 ∷ []

-- K4: with chain-four set latches load at the offset with its low two bits clear, and a selected-plane read or a peek answers from plane offset mod 4 there
pub chain_four_reads : List (List ℕ)
unfolding says_from says tops counters coloured looks latches low_bits chain_fours each gc_to
chain_four_reads =
    -- each pair of low bits
    each (λ m. says (coloured m) (looks false low_bits)) chain_fours
    -- map select and GC odd/even are ignored
    ∷ each (λ n. says (coloured 12 ++ (gc_to 5 0x10 ++ gc_to 4 n)) (looks false (0xA0005 ∷ 0xA0006 ∷ []))) (0 ∷ 1 ∷ 2 ∷ 3 ∷ [])
    ∷ each (λ n. says (coloured 8 ++ gc_to 4 n) (looks false (0xA0005 ∷ 0xA0006 ∷ []))) (0 ∷ 1 ∷ 2 ∷ 3 ∷ [])
    -- chain odd/even: the offset's bit 0 is the page bit, or bit 16 of the address, and it chooses the plane; a0 does not
    ∷ each (λ m. says (coloured m ++ gc_to 6 6) (looks false low_bits ++ looks true low_bits)) chain_fours
    ∷ each (λ m. says (coloured m ++ gc_to 6 2) (looks true (0xA0005 ∷ 0xB0004 ∷ 0xA0007 ∷ 0xB0006 ∷ []))) chain_fours
    -- the other windows
    ∷ each (λ m. says (coloured m ++ gc_to 6 0) (looks false (0xA0005 ∷ 0xB0006 ∷ [])) ++ says (coloured m ++ gc_to 6 14) (looks true (0xB8005 ∷ 0xB8006 ∷ []))) chain_fours
    -- all four latches, plane by plane; a peek loads none
    ∷ each (λ m. each (λ x. latches (coloured m ++ (cpu (cpu_read x false) ∷ []))) low_bits) chain_fours
    ∷ each (λ m. latches (coloured m ++ (cpu (cpu_peek 0xA0005 false) ∷ []))) chain_fours
    -- a compare read of colour 0 compares what it loaded, whatever plane the offset names: Don't Care 1, 2, 4, 8, F, 0
    ∷ each (λ m. each (λ n. says (coloured m ++ (gc_to 5 8 ++ gc_to 7 n)) (cpu (cpu_read 0xA0005 false) ∷ [])) (1 ∷ 2 ∷ 4 ∷ 8 ∷ 0xF ∷ 0 ∷ [])) chain_fours
    -- a copy by latches, from 5 to 2
    ∷ tops (coloured 12 ++ (gc_to 5 1 ++ (cpu (cpu_read 0xA0005 false) ∷ cpu (cpu_write 0xA0002 false 0) ∷ [])))
    -- each read counts, in its mode, and no peek
    ∷ counters (coloured 12 ++ (looks false low_bits ++ (gc_to 5 8 ++ looks false (0xA0005 ∷ []))))
    -- shows and direct plane reads keep their plane and offset
    ∷ each (λ m. says (coloured m) (vram (read_u8 2 5) ∷ vram (peek_u8 2 5) ∷ vram (read_glyph 5) ∷ direct (seq_cpu_read_u8 2 5 true) ∷ direct (seq_peek_u8 2 5 true) ∷ [])) chain_fours
    ∷ each (λ m. says (coloured m) (vram (read_linear 40) ∷ direct (seq_read_linear 40) ∷ vram (serialize_linear 5) ∷ direct (seq_serialize_linear 5) ∷ cpu (serialize 5) ∷ [])) chain_fours
    -- with chain-four clear a read answers from the map select's plane and a peek from plane 0, at the offset
    ∷ each (λ m. says (coloured m) (looks false (0xA0005 ∷ []))) (4 ∷ 0 ∷ [])
    -- .. and under GC odd/even it is a0 that leads map select 2 to plane 2 or 3, where chain odd/even gives the offset another bit 0
    ∷ each (λ m. says (coloured m ++ (gc_to 5 0x10 ++ gc_to 6 6)) (looks true (0xA0004 ∷ []) ++ looks false (0xA0005 ∷ []))) (4 ∷ 0 ∷ [])
    -- refusal 3 looks at the offset before its low bits are cleared: of six bytes a plane 5 is read at 4, and 6 is refused, though 4 is within
    ∷ each (λ m. says_from (start_of 6) (coloured m) (looks false (0xA0005 ∷ 0xA0006 ∷ []) ++ (cpu (cpu_write 0xA0006 false 0) ∷ []))) chain_fours
    ∷ []

-- an accepted read and an accepted peek that answer the same, one byte after the other
both_said : List ℕ → List ℕ
unfolding each
both_said = each (λ x. 0 ∷ x ∷ 0 ∷ x ∷ [])

-- said once of Memory Mode 12, once of 8
abbrev twice : List ℕ → List ℕ
twice l = l ++ l

-- a show of offset 5: 0, and F0 CC AA 00 as pixels
abbrev shown : List ℕ
shown = 0 ∷ 7 ∷ 3 ∷ 5 ∷ 1 ∷ 6 ∷ 2 ∷ 4 ∷ 0 ∷ []

-- from the request's words: 4 to 7 answer 10 11 12 13, what the planes have at 4
pub chain_four_said : List (List ℕ)
unfolding both_said each
chain_four_said =
    twice (both_said (0x10 ∷ 0x11 ∷ 0x12 ∷ 0x13 ∷ []))
    ∷ twice (twice (both_said (0x11 ∷ 0x12 ∷ [])))
    ∷ twice (twice (both_said (0x11 ∷ 0x12 ∷ [])))
    ∷ twice (both_said (0x10 ∷ 0x10 ∷ 0x12 ∷ 0x12 ∷ 0x11 ∷ 0x11 ∷ 0x13 ∷ 0x13 ∷ []))
    ∷ twice (both_said (0x10 ∷ 0x11 ∷ 0x12 ∷ 0x13 ∷ []))
    ∷ twice (both_said (0x11 ∷ 0x12 ∷ 0x11 ∷ 0x12 ∷ []))
    ∷ twice (twice (twice (0x10 ∷ 0x11 ∷ 0x12 ∷ 0x13 ∷ [])))
    ∷ replicate 8 0
    ∷ twice (0 ∷ 0xEF ∷ 0 ∷ 0xEE ∷ 0 ∷ 0xED ∷ 0 ∷ 0xEC ∷ 0 ∷ 0xEC ∷ 0 ∷ 0xFF ∷ [])
    ∷ (0 ∷ 0 ∷ 0 ∷ 0 ∷ 0x12 ∷ 0 ∷ 0 ∷ 0 ∷ [])
    ∷ (0 ∷ 0 ∷ 0 ∷ 0 ∷ 4 ∷ 1 ∷ 0 ∷ [])
    ∷ twice (0 ∷ 0xAA ∷ 0 ∷ 0xAA ∷ 0 ∷ 0xAA ∷ 0 ∷ 0xAA ∷ 0 ∷ 0xAA ∷ [])
    ∷ twice (0 ∷ 7 ∷ 0 ∷ 7 ∷ (shown ++ (shown ++ shown)))
    ∷ twice (0 ∷ 0xAA ∷ 0 ∷ 0xF0 ∷ [])
    ∷ twice (0 ∷ 0xAA ∷ 0 ∷ 0xF0 ∷ 0 ∷ 0x13 ∷ 0 ∷ 0x10 ∷ [])
    ∷ twice (0 ∷ 0x11 ∷ 0 ∷ 0x11 ∷ 3 ∷ 0 ∷ 3 ∷ 0 ∷ 3 ∷ 0 ∷ 0 ∷ 0 ∷ 0 ∷ [])
    ∷ []

pub chain-four-rules : chain_four_reads ≡ chain_four_said
unfolding chain_four_reads chain_four_said
chain-four-rules = refl
