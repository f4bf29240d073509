-- The data path, one bit at a time: what a write puts into bit i of plane p, and what a read takes out.
use Rattle.std.specs.Prelude.{ℕ, ◌+◌, ◌*◌, ◌/◌, ◌%◌, min, max, Bool, true, ◌||◌, eqb}
use Rattle.std.specs.Int.Bits.{differ}
use Rattle.bits.specs.Bit.{bit, is_one, bit_of, pick}
use Rattle.machine_types.specs.declared.gc.LogicFunction.{LogicFunction}
use Rattle.machine_types.specs.declared.gc.LogicFunction.TheVariants.{Unmodified, And, Or, Xor}
use Rattle.machine_types.specs.declared.gc.WriteMode.{WriteMode}
use Rattle.machine_types.specs.declared.gc.WriteMode.TheVariants.{Mode0, Mode1, Mode2, Mode3}
use Rattle.machine_types.specs.declared.gc.GraphicsRegisters.{GraphicsRegisters}
use Rattle.machine_types.specs.declared.seq.Sequencer.{Sequencer}
use Rattle.machine.specs.Graphics.{odd_even, is_odd_even, rotate_count, logic_function}
use Rattle.machine.specs.Sequencer.{answers_from}
use Rattle.machine.specs.Address.{a0}

-- the byte rotated: eight bits turned right by the count
abbrev pub rotated : ℕ → ℕ → ℕ → ℕ
rotated count x i = bit ((i + count) % 8) x

-- mode 0: the byte rotated; an enabled Set/Reset bit replaces it, by 00 or FF, for that plane
unfoldable pub data_bit : GraphicsRegisters → ℕ → ℕ → ℕ → ℕ
data_bit r x p i = pick (is_one (bit p r.enable_set_reset)) (bit p r.set_reset) (rotated (rotate_count r) x i)

-- the function of data and latch
unfoldable pub combined : LogicFunction → ℕ → ℕ → ℕ
combined Unmodified d l = d
combined And d l = min d l
combined Or d l = max d l
combined Xor d l = differ d l

-- bit by bit, a mask 1 takes the function of data and latch, a 0 the latch
unfoldable pub masked : LogicFunction → ℕ → ℕ → ℕ → ℕ
masked f m d l = pick (is_one m) (combined f d l) l

-- mode 3's mask, the same for all planes: the byte rotated, ANDed with Bit Mask
unfoldable pub mask_bit : GraphicsRegisters → ℕ → ℕ → ℕ
mask_bit r x i = min (rotated (rotate_count r) x i) (bit i r.bitmask)

-- bit i of what a write of x puts into plane p, where the latch's bit i is l.
-- mode 1 stores latches; mode 2: bit p of the byte, spread; mode 3: the plane's Set/Reset bit, spread, Enable ignored. Modes 0 and 2 are masked by Bit Mask
unfoldable pub written_bit : WriteMode → GraphicsRegisters → ℕ → ℕ → ℕ → ℕ → ℕ
written_bit Mode0 r x p i l = masked (logic_function r) (bit i r.bitmask) (data_bit r x p i) l
written_bit Mode1 r x p i l = l
written_bit Mode2 r x p i l = masked (logic_function r) (bit i r.bitmask) (bit p x) l
written_bit Mode3 r x p i l = masked (logic_function r) (mask_bit r x i) (bit p r.set_reset) l

-- writes visit planes 0..3, or a0 and 2 + a0 under GC odd/even
unfoldable pub visits : GraphicsRegisters → ℕ → ℕ → Bool
visits r x p = pick (is_odd_even (odd_even r)) (eqb p (bit_of (a0 x)) || eqb p (2 + bit_of (a0 x))) true

-- the map select's plane; with GC odd/even, its bit 0 replaced by a0
abbrev pub map_selected : GraphicsRegisters → ℕ → ℕ
map_selected r x = pick (is_odd_even (odd_even r)) (r.read_map_select / 2 * 2 + bit_of (a0 x)) r.read_map_select

-- the plane that a selected-plane read of an address answers from, at the offset that the address leads to: under chain-four map select and GC odd/even are ignored
unfoldable pub selected_plane : GraphicsRegisters → Sequencer → ℕ → ℕ → ℕ
selected_plane r s x o = answers_from s o (map_selected r x)

-- the plane that the GC's peek answers from: plane 0, but for chain-four
unfoldable pub peeked_plane : Sequencer → ℕ → ℕ
peeked_plane s o = answers_from s o 0
