-- The sequencer's registers: what each keeps of a byte, the clock, the plane masks.
use Rattle.std.specs.Prelude.{ℕ, ◌+◌, ◌-◌, ◌*◌, ◌/◌, ◌%◌, ◌^◌, Bool, true, false, ◌&&◌, [], ◌∷◌, eqb, leb, get_or}
use Rattle.bits.specs.Bit.{bit, field, is_one, bit_of, pick}
use Rattle.machine_types.specs.declared.seq.SequencerRegister.{SequencerRegister}
use Rattle.machine_types.specs.declared.seq.SequencerRegister.TheVariants.{Reset, ClockingMode, MapMask, CharacterMapSelect, MemoryMode, Invalid}
use Rattle.machine_types.specs.declared.seq.OddEvenMode.{OddEvenMode}
use Rattle.machine_types.specs.declared.seq.OddEvenMode.TheVariants.{OddEven, Sequential}
use Rattle.machine_types.specs.declared.seq.Sequencer.{Sequencer}

-- ---- the address register

-- 0 to 4 select Reset, Clocking Mode, Map Mask, Character Map Select, Memory Mode; others select Invalid
unfoldable pub selects_seq : ℕ → SequencerRegister
selects_seq n = get_or (Reset ∷ ClockingMode ∷ MapMask ∷ CharacterMapSelect ∷ MemoryMode ∷ []) n Invalid

-- any byte is kept
unfoldable pub with_seq_address : ℕ → Sequencer → Sequencer
with_seq_address x s = record {
  address_byte = x;
  register_selected = selects_seq x;
  reset = s.reset;
  clocking_mode = s.clocking_mode;
  map_mask = s.map_mask;
  character_map_select = s.character_map_select;
  memory_mode = s.memory_mode;
  clock_change_pending = s.clock_change_pending;
  clock_divisor = s.clock_divisor;
  char_clock = s.char_clock;
}

-- ---- the data registers

-- the number of a register; `Invalid` has one that no data reach
abbrev pub seq_number : SequencerRegister → ℕ
seq_number Reset = 0
seq_number ClockingMode = 1
seq_number MapMask = 2
seq_number CharacterMapSelect = 3
seq_number MemoryMode = 4
seq_number Invalid = 5

-- data lose bits 6 and 7 first; Reset keeps 2 bits, Map Mask 4; Invalid keeps nothing
unfoldable pub seq_keeps : SequencerRegister → ℕ → ℕ
seq_keeps Reset x = x % 64 % 4
seq_keeps ClockingMode x = x % 64
seq_keeps MapMask x = x % 64 % 16
seq_keeps CharacterMapSelect x = x % 64
seq_keeps MemoryMode x = x % 64
seq_keeps Invalid x = 0

-- Clocking Mode: bit 3 set halves the clock
abbrev pub divisor_of : ℕ → ℕ
divisor_of x = 1 + bit 3 x

-- Clocking Mode: bit 0 clear is nine dots; (divisor, clock) is (1,8), (1,9), (2,16) or (2,18)
abbrev pub clock_of : ℕ → ℕ
clock_of x = (9 - bit 0 x) * divisor_of x

-- what stands at the register p, or hangs on it, after data went to the register q
abbrev pub seq_written : {A : Type 0} → SequencerRegister → SequencerRegister → A → A → A
seq_written q p new old = pick (eqb (seq_number q) (seq_number p)) new old

-- data go to the selected register; a Clocking Mode write sets the pending mark, divisor and clock; Invalid ignores writes
unfoldable pub with_seq_data : ℕ → Sequencer → Sequencer
with_seq_data x s = record {
  address_byte = s.address_byte;
  register_selected = s.register_selected;
  reset = seq_written s.register_selected Reset (seq_keeps Reset x) s.reset;
  clocking_mode = seq_written s.register_selected ClockingMode (seq_keeps ClockingMode x) s.clocking_mode;
  map_mask = seq_written s.register_selected MapMask (seq_keeps MapMask x) s.map_mask;
  character_map_select = seq_written s.register_selected CharacterMapSelect (seq_keeps CharacterMapSelect x) s.character_map_select;
  memory_mode = seq_written s.register_selected MemoryMode (seq_keeps MemoryMode x) s.memory_mode;
  clock_change_pending = seq_written s.register_selected ClockingMode true s.clock_change_pending;
  clock_divisor = seq_written s.register_selected ClockingMode (divisor_of x) s.clock_divisor;
  char_clock = seq_written s.register_selected ClockingMode (clock_of x) s.char_clock;
}

-- a register as it is kept; Invalid reads FF
unfoldable pub seq_data_of : SequencerRegister → Sequencer → ℕ
seq_data_of Reset s = s.reset
seq_data_of ClockingMode s = s.clocking_mode
seq_data_of MapMask s = s.map_mask
seq_data_of CharacterMapSelect s = s.character_map_select
seq_data_of MemoryMode s = s.memory_mode
seq_data_of Invalid s = 0xFF

-- the pending mark set or cleared
unfoldable pub with_mark : Bool → Sequencer → Sequencer
with_mark b s = record {
  address_byte = s.address_byte;
  register_selected = s.register_selected;
  reset = s.reset;
  clocking_mode = s.clocking_mode;
  map_mask = s.map_mask;
  character_map_select = s.character_map_select;
  memory_mode = s.memory_mode;
  clock_change_pending = b;
  clock_divisor = s.clock_divisor;
  char_clock = s.char_clock;
}

-- not refusal 6: Reset is at most 3, Map Mask at most 15, the other three at most 63
unfoldable pub fits_seq : Sequencer → Bool
fits_seq s = leb s.reset 3 && (leb s.map_mask 15 && (leb s.clocking_mode 63 && (leb s.character_map_select 63 && leb s.memory_mode 63)))

-- ---- the plane masks

-- Memory Mode: bit 2 clear is odd/even
unfoldable pub seq_odd_even : Sequencer → OddEvenMode
seq_odd_even s = get_or (OddEven ∷ Sequential ∷ []) (field 2 1 s.memory_mode) OddEven

-- whether the sequencer's odd/even is on
abbrev pub is_seq_odd_even : OddEvenMode → Bool
is_seq_odd_even OddEven = true
is_seq_odd_even Sequential = false

-- Memory Mode: bit 3 is chain-four
unfoldable pub chain_four : Sequencer → Bool
chain_four s = is_one (bit 3 s.memory_mode)

-- whether a plane is in the mask: Map Mask; under odd/even, Map Mask and (5 shifted left by a0);
-- chain-four puts in its place the single plane offset mod 4 and ignores Map Mask
unfoldable pub in_mask : Sequencer → ℕ → Bool → ℕ → Bool
in_mask s o a0 p = pick (chain_four s) (eqb p (o % 4))
    (is_one (bit p s.map_mask) && pick (is_seq_odd_even (seq_odd_even s)) (is_one (bit p (5 * 2 ^ bit_of a0))) true)

-- chain-four stores at the offset with its low two bits clear; by K4 the processor's reads and peeks look there too
unfoldable pub stored_at : Sequencer → ℕ → ℕ
stored_at s o = pick (chain_four s) (o / 4 * 4) o

-- K4: the plane that a read or a peek of the processor answers from is the single plane offset mod 4 under chain-four, else the one that it names
unfoldable pub answers_from : Sequencer → ℕ → ℕ → ℕ
answers_from s o p = pick (chain_four s) (o % 4) p

-- `gc_read_u8`: sequential with chain-four set reads at the offset with its low two bits clear, otherwise as it stands
unfoldable pub gc_read_at : Sequencer → ℕ → ℕ
gc_read_at s o = pick (is_seq_odd_even (seq_odd_even s)) o (stored_at s o)
