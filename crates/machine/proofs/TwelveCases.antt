-- Document 01's twelve cases, and a thirteenth that K4 added: one list of what the definitions give, one list of what the documents say, one statement. By computation.
use Prim.Native.Nat.{ℕ}
use mathlib.Core.Path.{◌≡◌, refl}
use mathlib.Core.Bool.{true, false}
use mathlib.Core.List.{List, [], ◌∷◌, ◌++◌}
use lib.ListN.{replicate}
use Rattle.machine.specs.Calls.{read_u8, write_u8, gc_read_address, gc_read_data, gc_write_address, gc_write_data, gc_map_address, cpu_read, cpu_write}
use Rattle.machine.specs.Step.{Call, vram, graphics, cpu}
use Rattle.machine.proofs.Worked.{gc_to, seq_to, says, leaves, leads, firsts, case10, case11}

-- the 64K window, every plane in the mask, sequential, Bit Mask so, Data Rotate so; a latch byte in plane 0
drawing : ℕ → ℕ → ℕ → List Call
unfolding gc_to seq_to
drawing mask rotate latch =
    gc_to 6 4 ++ (seq_to 4 4 ++ (seq_to 2 15 ++ (gc_to 8 mask ++ (gc_to 3 rotate ++ (vram (write_u8 0 0 latch) ∷ cpu (cpu_read 0xA0000 false) ∷ [])))))

-- the byte that a mode 0 write of x leaves in plane 0
draws : ℕ → ℕ → ℕ → ℕ → List ℕ
unfolding says drawing
draws mask rotate latch x = says (drawing mask rotate latch ++ (cpu (cpu_write 0xA0000 false x) ∷ [])) (vram (read_u8 0 0) ∷ [])

-- a compare read of four latches, with Color Compare 3 and Don't Care so
compares : ℕ → List ℕ
unfolding says gc_to
compares care =
    says (vram (write_u8 0 0 0xF0) ∷ vram (write_u8 1 0 0xCC) ∷ vram (write_u8 2 0 0xAA) ∷ (gc_to 6 4 ++ (gc_to 2 3 ++ (gc_to 7 care ++ gc_to 5 8))))
    (cpu (cpu_read 0xA0000 false) ∷ [])

pub cases : List (List ℕ)
unfolding leads draws compares says leaves firsts case10 case11 gc_to
cases =
    -- 1. 128K plain
    leads 0 (0xBFFFF ∷ [])
    -- 2. 128K chain
    ∷ leads 2 (0xA0001 ∷ 0xB0001 ∷ [])
    -- 3. 64K plain
    ∷ leads 4 (0xAFFFF ∷ 0x9FFFF ∷ 0xB0000 ∷ [])
    -- 4. 64K chain, both pages
    ∷ says (gc_to 6 6) (graphics (gc_map_address 0xA0001 false) ∷ graphics (gc_map_address 0xA0001 true) ∷ [])
    -- 5. B8000
    ∷ leads 12 (0xBFFFF ∷ 0xC0000 ∷ [])
    -- 6. map B0000
    ∷ leads 8 (0xB0000 ∷ [])
    -- 7. 81 rotated by 0, 1, 7
    ∷ (draws 0xFF 0 0 0x81 ++ (draws 0xFF 1 0 0x81 ++ draws 0xFF 7 0 0x81))
    -- 8. data F0, mask 3C, latch AA, in function order
    ∷ (draws 0x3C 0 0xAA 0xF0 ++ (draws 0x3C 8 0xAA 0xF0 ++ (draws 0x3C 16 0xAA 0xF0 ++ draws 0x3C 24 0xAA 0xF0)))
    -- 9. latches F0, CC, AA, 00, compare 3, Don't Care F, 3, 0
    ∷ (compares 0xF ++ (compares 3 ++ compares 0))
    -- 10. chain-four, offset 5, Map Mask 0, GC sequential: every byte of the planes
    ∷ (let m = leaves case10 in m.p0 ++ (m.p1 ++ (m.p2 ++ m.p3)))
    -- 11. mode 2, byte 5, Bit Mask FF, Map Mask 7, function 0, sequential, zero memory: the first byte of each plane, the first eight pixels
    ∷ firsts case11
    -- 12. address B after 3: reads B, data go to Data Rotate
    ∷ says (graphics (gc_write_address 3) ∷ graphics (gc_write_address 0xB) ∷ [])
    (graphics gc_read_address ∷ graphics (gc_write_data 0x5A) ∷ graphics (gc_write_address 3) ∷ graphics gc_read_data ∷ [])
    -- 13, of K4: after the store of case 10, the read gives the stored byte
    ∷ says case10 (cpu (cpu_read 0xA0005 false) ∷ [])
    ∷ []

-- an answer of `map_address` is its number, the offset, a0
pub document : List (List ℕ)
document =
    (0 ∷ 0xFFFF ∷ 1 ∷ [])
    ∷ (0 ∷ 0 ∷ 1 ∷ 0 ∷ 1 ∷ 1 ∷ [])
    ∷ (0 ∷ 0xFFFF ∷ 1 ∷ 2 ∷ 0 ∷ 0 ∷ 2 ∷ 0 ∷ 0 ∷ [])
    ∷ (0 ∷ 0 ∷ 1 ∷ 0 ∷ 1 ∷ 1 ∷ [])
    ∷ (0 ∷ 0x7FFF ∷ 1 ∷ 2 ∷ 0 ∷ 0 ∷ [])
    ∷ (2 ∷ 0 ∷ 0 ∷ [])
    ∷ (0 ∷ 0x81 ∷ 0 ∷ 0xC0 ∷ 0 ∷ 0x03 ∷ [])
    ∷ (0 ∷ 0xB2 ∷ 0 ∷ 0xA2 ∷ 0 ∷ 0xBA ∷ 0 ∷ 0x9A ∷ [])
    ∷ (0 ∷ 0x40 ∷ 0 ∷ 0xC0 ∷ 0 ∷ 0xFF ∷ [])
    ∷ (replicate 8 0 ++ ((0 ∷ 0 ∷ 0 ∷ 0 ∷ 0xFF ∷ 0 ∷ 0 ∷ 0 ∷ []) ++ replicate 16 0))
    ∷ (0xFF ∷ 0x00 ∷ 0xFF ∷ 0x00 ∷ replicate 8 5)
    ∷ (0 ∷ 0xB ∷ 0 ∷ 0 ∷ 0 ∷ 0 ∷ 0 ∷ 0x5A ∷ [])
    ∷ (0 ∷ 0xFF ∷ [])
    ∷ []

-- document 01's twelve, and a thirteenth, which K4 added
pub twelve-cases : cases ≡ document
unfolding cases document
twelve-cases = refl
