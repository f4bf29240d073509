-- Document 01's rules on direct calls that no case of the twelve reaches: masks, reads by plane, set, and, or, pixels. As in RegisterRules, by computation.
use Prim.Native.Nat.{ℕ}
use mathlib.Core.Path.{◌≡◌, refl}
use mathlib.Core.Bool.{Bool, true, false}
use mathlib.Core.List.{List, [], ◌∷◌, ◌++◌}
use lib.ListN.{replicate}
use Rattle.machine.specs.Memory.{mem}
use Rattle.machine_types.specs.Start.{fresh_gc, fresh_seq}
use Rattle.machine.specs.Calls.{read_u8, peek_u8, read_glyph, read_linear, serialize_linear, write_u8, plane_set, plane_and, plane_or, deplane, serialize}
use Rattle.machine.specs.Calls.{seq_cpu_read_u8, seq_peek_u8, seq_gc_read_u8, seq_read_linear, seq_serialize_linear, seq_plane_set, seq_plane_and, seq_plane_or}
use Rattle.machine.specs.Step.{state, Call, vram, direct, cpu}
use Rattle.machine.proofs.Computed.{computed}
use Rattle.machine.proofs.Worked.{in_plane, seq_to, says, leaves, each, tops, painted}

-- every byte of the planes
bytes : List Call → List ℕ
unfolding leaves
bytes cs = let m = leaves cs in m.p0 ++ (m.p1 ++ (m.p2 ++ m.p3))

-- FF by the sequencer's direct store to each plane in turn
four_stores : ℕ → Bool → List Call
four_stores o a = direct (seq_plane_set 0 o a 0xFF) ∷ direct (seq_plane_set 1 o a 0xFF) ∷ direct (seq_plane_set 2 o a 0xFF) ∷ direct (seq_plane_set 3 o a 0xFF) ∷ []

-- what the planes give to the picture, remade at offset 1 alone
remade_at1 : List ℕ
unfolding computed
remade_at1 =
    let m = (computed (state fresh_gc fresh_seq (mem (0x80 ∷ 0x80 ∷ []) (0x40 ∷ 0x40 ∷ []) (0x20 ∷ 0x20 ∷ []) (0x01 ∷ 0x01 ∷ []) (replicate 16 9))) (vram (deplane 1) ∷ [])).final.memory in
    m.picture

pub directly : List (List ℕ)
unfolding says tops bytes four_stores painted remade_at1 each seq_to
directly =
    -- direct stores: under the sequencer's odd/even planes 0 and 2, or 1 and 3 with a0; sequential by Map Mask 6; chain-four, offset 6: plane 2 at 4
    tops (seq_to 2 15 ++ four_stores 0 false)
    ∷ tops (seq_to 2 15 ++ four_stores 0 true)
    ∷ tops (seq_to 4 4 ++ (seq_to 2 6 ++ four_stores 1 true))
    ∷ bytes (seq_to 4 12 ++ four_stores 6 false)
    -- reads under Memory Mode 12, 8, 4 and 0: `gc_read_u8` alone clears the offset's low bits, and only with 12
    ∷ each (λ x. says (vram (write_u8 1 4 0x44) ∷ vram (write_u8 1 5 0x55) ∷ seq_to 4 x) (direct (seq_gc_read_u8 1 5 false) ∷ direct (seq_cpu_read_u8 1 5 false) ∷ direct (seq_peek_u8 1 5 false) ∷ []))
    (12 ∷ 8 ∷ 4 ∷ 0 ∷ [])
    -- set, and, or: of vram.rs, with no mask; of the sequencer
    ∷ each (λ p. says (vram (write_u8 p 2 0xCC) ∷ [])
    (vram (plane_and p 2 0xAA) ∷ vram (read_u8 p 2) ∷ vram (plane_or p 2 0x0F) ∷ vram (peek_u8 p 2) ∷ vram (plane_set p 2 0x21) ∷ vram (read_u8 p 2) ∷ []))
    (0 ∷ 1 ∷ 2 ∷ 3 ∷ [])
    ∷ each (λ p. says (seq_to 4 4 ++ (seq_to 2 15 ++ (direct (seq_plane_set p 2 false 0xCC) ∷ [])))
    (direct (seq_plane_and p 2 false 0xAA) ∷ vram (read_u8 p 2) ∷ direct (seq_plane_or p 2 false 0x0F) ∷ vram (read_u8 p 2) ∷ []))
    (0 ∷ 1 ∷ 2 ∷ 3 ∷ [])
    ∷ tops (direct (seq_plane_and 0 0 false 0xAA) ∷ vram (write_u8 1 1 0xCC) ∷ direct (seq_plane_and 1 1 true 0xAA) ∷ direct (seq_plane_or 2 0 false 0x0F) ∷ [])
    -- `read_glyph` reads plane 2
    ∷ says painted (vram (read_glyph 0) ∷ vram (read_glyph 1) ∷ [])
    -- pixels: plane p's bit 7 - i as bit p of pixel i; a place counts pixels, a show an offset
    ∷ says painted (vram (read_linear 4) ∷ direct (seq_read_linear 15) ∷ vram (serialize_linear 0) ∷ direct (seq_serialize_linear 1) ∷ cpu (serialize 0) ∷ [])
    ∷ remade_at1
    -- refusals 4, 3, 5 and their values: 0, or an empty part
    ∷ says [] (vram (read_u8 4 0) ∷ vram (read_u8 3 8) ∷ vram (read_linear 64) ∷ vram (serialize_linear 8) ∷ direct (seq_read_linear 64) ∷ [])
    ∷ []

pub directly_said : List (List ℕ)
unfolding each
directly_said =
    (0xFF ∷ 0 ∷ 0 ∷ 0 ∷ 0xFF ∷ 0 ∷ 0 ∷ 0 ∷ [])
    ∷ (0 ∷ 0 ∷ 0xFF ∷ 0 ∷ 0 ∷ 0 ∷ 0xFF ∷ 0 ∷ [])
    ∷ (0 ∷ 0 ∷ 0 ∷ 0xFF ∷ 0 ∷ 0xFF ∷ 0 ∷ 0 ∷ [])
    ∷ (replicate 20 0 ++ (0xFF ∷ replicate 11 0))
    ∷ (0 ∷ 0x44 ∷ 0 ∷ 0x55 ∷ 0 ∷ 0x55 ∷ 0 ∷ 0x55 ∷ 0 ∷ 0x55 ∷ 0 ∷ 0x55 ∷ 0 ∷ 0x55 ∷ 0 ∷ 0x55 ∷ 0 ∷ 0x55 ∷ 0 ∷ 0x55 ∷ 0 ∷ 0x55 ∷ 0 ∷ 0x55 ∷ [])
    ∷ each (λ p. 0 ∷ (in_plane p 2 ++ (0 ∷ 0x88 ∷ 0 ∷ (in_plane p 3 ++ (0 ∷ 0x8F ∷ 0 ∷ (in_plane p 5 ++ (0 ∷ 0x21 ∷ []))))))) (0 ∷ 1 ∷ 2 ∷ 3 ∷ [])
    ∷ each (λ p. 0 ∷ (in_plane p 2 ++ (0 ∷ 0x88 ∷ 0 ∷ (in_plane p 3 ++ (0 ∷ 0x8F ∷ []))))) (0 ∷ 1 ∷ 2 ∷ 3 ∷ [])
    ∷ (0 ∷ 0 ∷ 0 ∷ 0xCC ∷ 0 ∷ 0 ∷ 0 ∷ 0 ∷ [])
    ∷ (0 ∷ 0x44 ∷ 0 ∷ 4 ∷ [])
    ∷ (0 ∷ 8 ∷ 0 ∷ 1 ∷ 0 ∷ 8 ∷ 4 ∷ 2 ∷ 1 ∷ 8 ∷ 4 ∷ 2 ∷ 1 ∷ 0 ∷ 0 ∷ 0 ∷ 0 ∷ 0 ∷ 8 ∷ 4 ∷ 2 ∷ 1 ∷ 0 ∷ 8 ∷ 4 ∷ 2 ∷ 1 ∷ 8 ∷ 4 ∷ 2 ∷ 1 ∷ [])
    ∷ (replicate 8 9 ++ (1 ∷ 2 ∷ 4 ∷ 0 ∷ 0 ∷ 0 ∷ 0 ∷ 8 ∷ []))
    ∷ (4 ∷ 0 ∷ 3 ∷ 0 ∷ 5 ∷ 0 ∷ 5 ∷ 5 ∷ 0 ∷ [])
    ∷ []

pub direct-rules : directly ≡ directly_said
unfolding directly directly_said
direct-rules = refl
