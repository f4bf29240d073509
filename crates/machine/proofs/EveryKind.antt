-- The kinds of call, numbered, and whether a run has every kind: what the example is held to.
use Prim.Native.Nat.{ℕ}
use mathlib.Core.Bool.{Bool, false, ◌||◌}
use mathlib.Core.List.{List, [], ◌∷◌}
use lib.Dec.{eqb}
use Rattle.bits.specs.Bit.{every}
use Rattle.machine.specs.Calls.{VramCall, read_u8, peek_u8, read_glyph, read_linear, serialize_linear, write_u8, plane_set, plane_and, plane_or, deplane}
use Rattle.machine.specs.Calls.{SequencerCall, seq_reset, seq_clock, seq_set_clock_change_pending, seq_poll_clock_change, seq_read_address, seq_read_data, seq_write_address, seq_write_data}
use Rattle.machine.specs.Calls.{DirectCall, seq_cpu_read_u8, seq_peek_u8, seq_gc_read_u8, seq_read_linear, seq_serialize_linear, seq_plane_set, seq_plane_and, seq_plane_or}
use Rattle.machine.specs.Calls.{GraphicsCall, gc_reset, gc_chain, gc_chain4, gc_memory_map, gc_odd_even, gc_shift_mode, gc_read_address, gc_read_data, gc_write_address, gc_write_data, gc_map_address}
use Rattle.machine.specs.Calls.{CpuCall, cpu_read, cpu_peek, cpu_write, serialize, show_pixels}
use Rattle.machine.specs.Step.{Call, vram, sequencer, direct, graphics, cpu}

-- the calls on memory alone
abbrev vram_kind : VramCall → ℕ
vram_kind (read_u8 p o) = 0
vram_kind (peek_u8 p o) = 1
vram_kind (read_glyph o) = 2
vram_kind (read_linear j) = 3
vram_kind (serialize_linear o) = 4
vram_kind (write_u8 p o x) = 5
vram_kind (plane_set p o x) = 6
vram_kind (plane_and p o x) = 7
vram_kind (plane_or p o x) = 8
vram_kind (deplane o) = 9

-- on the sequencer's record
abbrev sequencer_kind : SequencerCall → ℕ
sequencer_kind seq_reset = 10
sequencer_kind seq_clock = 11
sequencer_kind seq_set_clock_change_pending = 12
sequencer_kind seq_poll_clock_change = 13
sequencer_kind seq_read_address = 14
sequencer_kind seq_read_data = 15
sequencer_kind (seq_write_address x) = 16
sequencer_kind (seq_write_data x) = 17

-- on the sequencer's record and memory
abbrev direct_kind : DirectCall → ℕ
direct_kind (seq_cpu_read_u8 p o a) = 18
direct_kind (seq_peek_u8 p o a) = 19
direct_kind (seq_gc_read_u8 p o a) = 20
direct_kind (seq_read_linear j) = 21
direct_kind (seq_serialize_linear o) = 22
direct_kind (seq_plane_set p o a x) = 23
direct_kind (seq_plane_and p o a x) = 24
direct_kind (seq_plane_or p o a x) = 25

-- on the controller's record
abbrev graphics_kind : GraphicsCall → ℕ
graphics_kind gc_reset = 26
graphics_kind gc_chain = 27
graphics_kind gc_chain4 = 28
graphics_kind gc_memory_map = 29
graphics_kind gc_odd_even = 30
graphics_kind gc_shift_mode = 31
graphics_kind gc_read_address = 32
graphics_kind gc_read_data = 33
graphics_kind (gc_write_address x) = 34
graphics_kind (gc_write_data x) = 35
graphics_kind (gc_map_address x page) = 36

-- on both records and memory
abbrev cpu_kind : CpuCall → ℕ
cpu_kind (cpu_read x page) = 37
cpu_kind (cpu_peek x page) = 38
cpu_kind (cpu_write x page v) = 39
cpu_kind (serialize o) = 40
cpu_kind (show_pixels o) = 41

-- how many kinds there are
abbrev pub kinds : ℕ
kinds = 42

-- the kind of a call
abbrev pub kind : Call → ℕ
kind (vram c) = vram_kind c
kind (sequencer c) = sequencer_kind c
kind (direct c) = direct_kind c
kind (graphics c) = graphics_kind c
kind (cpu c) = cpu_kind c

-- whether a kind is among calls
abbrev among : List Call → ℕ → Bool
among [] n = false
among (c ∷ cs) n = eqb n (kind c) || among cs n

-- whether calls have every kind
unfoldable pub every_kind : List Call → Bool
every_kind cs = every kinds (among cs)
