-- Document 01's rules on the processor's accesses that no case of the twelve reaches: windows, planes, masks, modes, counters; with K4's on reads under chain-four,
-- which ChainFour has. As in RegisterRules, by computation.
use Prim.Native.Nat.{ℕ}
use mathlib.Core.Path.{◌≡◌, refl, ap₂}
use mathlib.Core.Bool.{false}
use mathlib.Core.List.{List, [], ◌∷◌, ◌++◌}
use lib.ListN.{replicate}
use Rattle.machine.specs.Calls.{write_u8, gc_reset, gc_read_data, cpu_read, cpu_peek, cpu_write, serialize}
use Rattle.machine.specs.Step.{Call, vram, graphics, cpu}
use Rattle.machine.proofs.Worked.{gc_to, seq_to, says, leads, each, tops, counters, painted, firsts, case11}
use Rattle.machine.proofs.ChainFour.{chain_four_reads, chain_four_said, chain-four-rules}

-- so many writes and reads under a Mode
accessed : ℕ → ℕ → ℕ → List Call
unfolding gc_to
accessed mode w r = gc_to 5 mode ++ (replicate w (cpu (cpu_write 0xA0000 false 0)) ++ replicate r (cpu (cpu_read 0xA0000 false)))

-- over what is painted, latches loaded at offset 0: Set/Reset 5, and Mode, Enable, Data Rotate and Bit Mask so
shading : ℕ → ℕ → ℕ → ℕ → List Call
unfolding gc_to painted
shading mode enable rotate mask =
    painted ++ (cpu (cpu_read 0xA0000 false) ∷ (gc_to 0 5 ++ (gc_to 5 mode ++ (gc_to 1 enable ++ (gc_to 3 rotate ++ gc_to 8 mask)))))

-- IBM's write mode 3: byte F0 turned by 4 is 0F, and Bit Mask 3C leaves 0C of it as the mask
shaded : ℕ → List Call
unfolding shading
shaded mode = shading mode 0 4 0x3C

-- document 01's, and K1's
pub accesses : List (List ℕ)
unfolding says tops painted counters accessed shading shaded each gc_to seq_to leads firsts case11
accesses =
    -- the windows' other ends
    leads 0 (0x9FFFF ∷ 0xA0000 ∷ 0xC0000 ∷ [])
    ∷ leads 4 (0xA0000 ∷ [])
    ∷ leads 12 (0xB7FFF ∷ 0xB8000 ∷ [])
    -- 128K, chain set: bit 16 in bit 0, the rest as it stands
    ∷ leads 2 (0xA1236 ∷ 0xB1235 ∷ [])
    -- refusal 9 in CGA and Chain4 alone
    ∷ each (λ m. says (gc_to 5 m) (cpu (serialize 7) ∷ [])) (0x20 ∷ 0x40 ∷ [])
    ∷ says (gc_to 5 0x60) (cpu (serialize 7) ∷ [])
    -- selected-plane reads: map select 0 to 3; with GC odd/even its bit 0 replaced by a0
    ∷ each (λ n. says (painted ++ gc_to 4 n) (cpu (cpu_read 0xA0000 false) ∷ [])) (0 ∷ 1 ∷ 2 ∷ 3 ∷ [])
    ∷ each (λ n. says (painted ++ (gc_to 5 0x10 ++ gc_to 4 n)) (cpu (cpu_read 0xA0000 false) ∷ cpu (cpu_read 0xA0001 false) ∷ [])) (0 ∷ 1 ∷ 2 ∷ 3 ∷ [])
    -- writes under GC odd/even: planes 0 and 2, or 1 and 3 with a0
    ∷ tops (painted ++ (gc_to 5 0x10 ++ (cpu (cpu_write 0xA0000 false 0xFF) ∷ cpu (cpu_write 0xA0001 false 0xFF) ∷ [])))
    -- each mode under the sequencer's odd/even: the same planes, by its mask
    ∷ each (λ m. tops (painted ++ (seq_to 4 0 ++ (gc_to 5 m ++ (cpu (cpu_read 0xA0000 false) ∷ cpu (cpu_write 0xA0000 false 0xFF) ∷ cpu (cpu_write 0xA0001 false 0xFF) ∷ []))))) (0 ∷ 1 ∷ 2 ∷ [])
    -- each mode through Map Mask 6, sequential and under GC odd/even; each mode under chain-four: plane 1 alone, at 0
    ∷ each (λ m. tops (painted ++ (seq_to 2 6 ++ (gc_to 5 m ++ (cpu (cpu_read 0xA0000 false) ∷ cpu (cpu_write 0xA0001 false 0xFF) ∷ []))))) (0 ∷ 1 ∷ 2 ∷ 0x10 ∷ 0x11 ∷ 0x12 ∷ [])
    ∷ each (λ m. tops (painted ++ (seq_to 4 12 ++ (gc_to 5 m ++ (cpu (cpu_read 0xA0001 false) ∷ cpu (cpu_write 0xA0001 false 0xFF) ∷ []))))) (0 ∷ 1 ∷ 2 ∷ [])
    -- mode 0: an enabled Set/Reset bit replaces the byte; mode 1 stores latches; a peek loads no latch
    ∷ tops (painted ++ (gc_to 0 4 ++ (gc_to 1 5 ++ (cpu (cpu_write 0xA0000 false 0xF0) ∷ []))))
    ∷ tops (painted ++ (gc_to 5 1 ++ (gc_to 8 0 ++ (cpu (cpu_read 0xA0000 false) ∷ cpu (cpu_write 0xA0001 false 0xF0) ∷ []))))
    ∷ tops (painted ++ (gc_to 5 1 ++ (cpu (cpu_peek 0xA0000 false) ∷ cpu (cpu_write 0xA0001 false 0xF0) ∷ [])))
    ∷ says (painted ++ gc_to 4 3) (cpu (cpu_peek 0xA0000 false) ∷ cpu (cpu_peek 0xA0001 false) ∷ [])
    -- mode 3 by each function, Enable 0, then F
    ∷ each (λ n. tops (shading 3 0 n 0x3C ++ (cpu (cpu_write 0xA0000 false 0xF0) ∷ []))) (4 ∷ 0x0C ∷ 0x14 ∷ 0x1C ∷ [])
    ∷ each (λ n. tops (shading 3 15 n 0x3C ++ (cpu (cpu_write 0xA0000 false 0xF0) ∷ []))) (4 ∷ 0x0C ∷ 0x14 ∷ 0x1C ∷ [])
    -- 1D turned right by 3 is A3; a byte 00 stores the latches
    ∷ each (λ v. tops (shading 3 0 3 0xFF ++ (cpu (cpu_write 0xA0001 false v) ∷ cpu (cpu_write 0xA0000 false 0x1D) ∷ []))) (0x1D ∷ 0 ∷ [])
    -- the same registers in modes 0 and 2, byte 5A: Bit Mask alone is the mask, and mode 2 does not rotate
    ∷ each (λ m. tops (shaded m ++ (cpu (cpu_write 0xA0000 false 0x5A) ∷ []))) (0 ∷ 2 ∷ [])
    -- mode 3 under GC odd/even, under the sequencer's, under chain-four (plane 2 alone, at 0), through Map Mask 6, and stopped by Map Mask 0
    ∷ tops (shaded 0x13 ++ (cpu (cpu_write 0xA0000 false 0xF0) ∷ cpu (cpu_write 0xA0001 false 0xF0) ∷ []))
    ∷ tops (shaded 3 ++ (seq_to 4 0 ++ (cpu (cpu_write 0xA0000 false 0xF0) ∷ cpu (cpu_write 0xA0001 false 0xF0) ∷ [])))
    ∷ tops (shaded 3 ++ (seq_to 4 12 ++ (cpu (cpu_write 0xA0002 false 0xF0) ∷ [])))
    ∷ each (λ n. tops (shaded 3 ++ (seq_to 2 n ++ (cpu (cpu_write 0xA0001 false 0xF0) ∷ [])))) (6 ∷ 0 ∷ [])
    -- each write is counted, where the mask stops every plane too, and Bit Mask reads back as it was
    ∷ counters (shaded 3 ++ (cpu (cpu_write 0xA0000 false 0xF0) ∷ (seq_to 2 0 ++ (cpu (cpu_write 0xA0000 false 0xF0) ∷ []))))
    ∷ says (shaded 3 ++ (cpu (cpu_write 0xA0000 false 0xF0) ∷ [])) (graphics gc_read_data ∷ [])
    -- `reset` clears the latches too
    ∷ tops (painted ++ (cpu (cpu_read 0xA0000 false) ∷ graphics gc_reset ∷ (gc_to 6 4 ++ (gc_to 5 1 ++ (cpu (cpu_write 0xA0001 false 0xF0) ∷ [])))))
    -- case 11 over a plane 3 that holds C3: Map Mask 7 leaves it alone, and bit 3 of the pixels is its
    ∷ firsts (vram (write_u8 3 0 0xC3) ∷ case11)
    -- each access raises its mode's counter and no other, no peek and no show any
    ∷ counters (gc_to 6 4 ++ (accessed 0 1 5 ++ (accessed 1 2 0 ++ (accessed 2 3 0 ++ (accessed 3 4 0 ++ (accessed 8 0 6 ++ (cpu (cpu_peek 0xA0000 false) ∷ cpu (serialize 0) ∷ [])))))))
    ∷ []

-- the function alone, And, Or, Xor, of Set/Reset 5 and latches 11, 22, 44, 88 where the mask 0C has a 1
functions_said : List ℕ
functions_said =
    (0x1D ∷ 1 ∷ 0x22 ∷ 2 ∷ 0x4C ∷ 4 ∷ 0x80 ∷ 8 ∷ []) ++ ((0x11 ∷ 1 ∷ 0x22 ∷ 2 ∷ 0x44 ∷ 4 ∷ 0x80 ∷ 8 ∷ [])
    ++ ((0x1D ∷ 1 ∷ 0x22 ∷ 2 ∷ 0x4C ∷ 4 ∷ 0x88 ∷ 8 ∷ []) ++ (0x1D ∷ 1 ∷ 0x22 ∷ 2 ∷ 0x48 ∷ 4 ∷ 0x88 ∷ 8 ∷ [])))

pub accesses_said : List (List ℕ)
unfolding functions_said
accesses_said =
    (2 ∷ 0 ∷ 0 ∷ 0 ∷ 0 ∷ 0 ∷ 2 ∷ 0 ∷ 0 ∷ [])
    ∷ (0 ∷ 0 ∷ 0 ∷ [])
    ∷ (2 ∷ 0 ∷ 0 ∷ 0 ∷ 0 ∷ 0 ∷ [])
    ∷ (0 ∷ 0x1236 ∷ 0 ∷ 0 ∷ 0x1235 ∷ 1 ∷ [])
    ∷ (9 ∷ 9 ∷ [])
    ∷ replicate 9 0
    ∷ (0 ∷ 0x11 ∷ 0 ∷ 0x22 ∷ 0 ∷ 0x44 ∷ 0 ∷ 0x88 ∷ [])
    ∷ (0 ∷ 0x11 ∷ 0 ∷ 2 ∷ 0 ∷ 0x11 ∷ 0 ∷ 2 ∷ 0 ∷ 0x44 ∷ 0 ∷ 8 ∷ 0 ∷ 0x44 ∷ 0 ∷ 8 ∷ [])
    ∷ (0xFF ∷ 1 ∷ 0x22 ∷ 0xFF ∷ 0xFF ∷ 4 ∷ 0x88 ∷ 0xFF ∷ [])
    ∷ ((0xFF ∷ 1 ∷ 0x22 ∷ 0xFF ∷ 0xFF ∷ 4 ∷ 0x88 ∷ 0xFF ∷ []) ++ ((0x11 ∷ 1 ∷ 0x22 ∷ 0x22 ∷ 0x44 ∷ 4 ∷ 0x88 ∷ 0x88 ∷ []) ++ (0xFF ∷ 1 ∷ 0x22 ∷ 0xFF ∷ 0xFF ∷ 4 ∷ 0x88 ∷ 0xFF ∷ [])))
    ∷ ((0x11 ∷ 1 ∷ 0x22 ∷ 0xFF ∷ 0x44 ∷ 0xFF ∷ 0x88 ∷ 8 ∷ [])
    ++ ((0x11 ∷ 1 ∷ 0x22 ∷ 0x22 ∷ 0x44 ∷ 0x44 ∷ 0x88 ∷ 8 ∷ [])
    ++ ((0x11 ∷ 1 ∷ 0x22 ∷ 0xFF ∷ 0x44 ∷ 0xFF ∷ 0x88 ∷ 8 ∷ [])
    ++ ((0x11 ∷ 1 ∷ 0x22 ∷ 0xFF ∷ 0x44 ∷ 4 ∷ 0x88 ∷ 8 ∷ [])
    ++ ((0x11 ∷ 1 ∷ 0x22 ∷ 0x22 ∷ 0x44 ∷ 4 ∷ 0x88 ∷ 8 ∷ []) ++ (0x11 ∷ 1 ∷ 0x22 ∷ 0xFF ∷ 0x44 ∷ 4 ∷ 0x88 ∷ 8 ∷ []))))))
    ∷ ((0x11 ∷ 1 ∷ 0xFF ∷ 2 ∷ 0x44 ∷ 4 ∷ 0x88 ∷ 8 ∷ []) ++ ((0x11 ∷ 1 ∷ 0x22 ∷ 2 ∷ 0x44 ∷ 4 ∷ 0x88 ∷ 8 ∷ []) ++ (0x11 ∷ 1 ∷ 0xFF ∷ 2 ∷ 0x44 ∷ 4 ∷ 0x88 ∷ 8 ∷ [])))
    ∷ (0x00 ∷ 1 ∷ 0xF0 ∷ 2 ∷ 0xFF ∷ 4 ∷ 0xF0 ∷ 8 ∷ [])
    ∷ (0x11 ∷ 0x11 ∷ 0x22 ∷ 0x22 ∷ 0x44 ∷ 0x44 ∷ 0x88 ∷ 0x88 ∷ [])
    ∷ (0x11 ∷ 0 ∷ 0x22 ∷ 0 ∷ 0x44 ∷ 0 ∷ 0x88 ∷ 0 ∷ [])
    ∷ (0 ∷ 0x11 ∷ 0 ∷ 1 ∷ [])
    ∷ functions_said
    ∷ functions_said
    ∷ (0xB3 ∷ 0xB3 ∷ 0 ∷ 0 ∷ 0xE7 ∷ 0xE7 ∷ 8 ∷ 8 ∷ 0xB3 ∷ 0x11 ∷ 0 ∷ 0x22 ∷ 0xE7 ∷ 0x44 ∷ 8 ∷ 0x88 ∷ [])
    ∷ (0x25 ∷ 1 ∷ 0x26 ∷ 2 ∷ 0x64 ∷ 4 ∷ 0xA4 ∷ 8 ∷ 1 ∷ 1 ∷ 0x3E ∷ 2 ∷ 0x40 ∷ 4 ∷ 0xBC ∷ 8 ∷ [])
    ∷ (0x1D ∷ 1 ∷ 0x22 ∷ 0x22 ∷ 0x4C ∷ 4 ∷ 0x88 ∷ 0x80 ∷ [])
    ∷ (0x1D ∷ 1 ∷ 0x22 ∷ 0x22 ∷ 0x4C ∷ 4 ∷ 0x88 ∷ 0x80 ∷ [])
    ∷ (0x11 ∷ 1 ∷ 0x22 ∷ 2 ∷ 0x4C ∷ 4 ∷ 0x88 ∷ 8 ∷ [])
    ∷ (0x11 ∷ 1 ∷ 0x22 ∷ 0x22 ∷ 0x44 ∷ 0x4C ∷ 0x88 ∷ 8 ∷ 0x11 ∷ 1 ∷ 0x22 ∷ 2 ∷ 0x44 ∷ 4 ∷ 0x88 ∷ 8 ∷ [])
    ∷ (0 ∷ 0 ∷ 0 ∷ 2 ∷ 1 ∷ 0 ∷ 0 ∷ [])
    ∷ (0 ∷ 0x3C ∷ [])
    ∷ (0x11 ∷ 0 ∷ 0x22 ∷ 0 ∷ 0x44 ∷ 0 ∷ 0x88 ∷ 0 ∷ [])
    ∷ (0xFF ∷ 0x00 ∷ 0xFF ∷ 0xC3 ∷ 0xD ∷ 0xD ∷ 5 ∷ 5 ∷ 5 ∷ 5 ∷ 0xD ∷ 0xD ∷ [])
    ∷ (1 ∷ 2 ∷ 3 ∷ 4 ∷ 5 ∷ 6 ∷ 0 ∷ [])
    ∷ []

document-rules : accesses ≡ accesses_said
unfolding accesses accesses_said
document-rules = refl

-- with K4's
pub access-rules : accesses ++ chain_four_reads ≡ accesses_said ++ chain_four_said
access-rules = ap₂ (λ (rows more : List (List ℕ)). rows ++ more) document-rules chain-four-rules

-- ---- refused accesses, two by 2 and one by 3: what a refusal leaves as it was. AccessCounts has what it counts

pub refused_accesses : List (List ℕ)
unfolding says tops painted counters accessed shading shaded each gc_to
refused_accesses =
    -- a refused read answers 0
    says painted (cpu (cpu_read 0xB0000 false) ∷ cpu (cpu_read 0x9FFFF false) ∷ cpu (cpu_read 0xA0008 false) ∷ [])
    -- it loads no latch: mode 1 stores those of the read before it
    ∷ each (λ x. tops (painted ++ (gc_to 5 1 ++ (cpu (cpu_read 0xA0001 false) ∷ cpu (cpu_read x false) ∷ cpu (cpu_write 0xA0000 false 0xF0) ∷ [])))) (0xB0000 ∷ 0x9FFFF ∷ 0xA0008 ∷ [])
    -- mode 3 is refused like the other writes, and stores nothing then
    ∷ says (shaded 3) (cpu (cpu_write 0xB0000 false 0xF0) ∷ cpu (cpu_write 0x9FFFF false 0xF0) ∷ cpu (cpu_write 0xA0008 false 0xF0) ∷ [])
    ∷ tops (shaded 3 ++ (cpu (cpu_write 0xB0000 false 0xF0) ∷ cpu (cpu_write 0x9FFFF false 0xF0) ∷ cpu (cpu_write 0xA0008 false 0xF0) ∷ []))
    -- no refused access raises its mode's counter: K8's alone
    ∷ counters (gc_to 6 4 ++ (accessed 0 1 1 ++ (cpu (cpu_read 0xB0000 false) ∷ cpu (cpu_write 0x9FFFF false 0) ∷ cpu (cpu_read 0xA0008 false) ∷ cpu (cpu_write 0xA0008 false 0) ∷ [])))
    ∷ []

pub refused-accesses : refused_accesses
    ≡ (2 ∷ 0 ∷ 2 ∷ 0 ∷ 3 ∷ 0 ∷ [])
    ∷ (1 ∷ 1 ∷ 2 ∷ 2 ∷ 4 ∷ 4 ∷ 8 ∷ 8 ∷ 1 ∷ 1 ∷ 2 ∷ 2 ∷ 4 ∷ 4 ∷ 8 ∷ 8 ∷ 1 ∷ 1 ∷ 2 ∷ 2 ∷ 4 ∷ 4 ∷ 8 ∷ 8 ∷ [])
    ∷ (2 ∷ 0 ∷ 0 ∷ 0 ∷ 0 ∷ 2 ∷ 0 ∷ 0 ∷ 0 ∷ 0 ∷ 3 ∷ 0 ∷ 0 ∷ 0 ∷ 0 ∷ [])
    ∷ (0x11 ∷ 1 ∷ 0x22 ∷ 2 ∷ 0x44 ∷ 4 ∷ 0x88 ∷ 8 ∷ [])
    ∷ (1 ∷ 0 ∷ 0 ∷ 0 ∷ 1 ∷ 0 ∷ 4 ∷ [])
    ∷ []
unfolding refused_accesses
refused-accesses = refl
