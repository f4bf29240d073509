-- How a host's records, numbers alone, are read as the machine's, and the machine's as a host's.
use Rattle.std.specs.Prelude.{ℕ, zero, suc, Bool, true, false, ◌&&◌, List, [], ◌∷◌, eqb, leb, get_or, Option, None, Some, Result, Ok, Err}
use Rattle.bits.specs.Bit.{bit_of, pick}
use Rattle.machine_types.specs.declared.gc.GraphicsController.{GraphicsController}
use Rattle.machine_types.specs.declared.gc.GraphicsControllerStats.{GraphicsControllerStats}
use Rattle.machine_types.specs.declared.gc.GraphicsRegister.{GraphicsRegister}
use Rattle.machine_types.specs.declared.gc.GraphicsRegister.TheVariants.{BitMask}
use Rattle.machine_types.specs.declared.answer.Refusal.{Refusal}
use Rattle.machine_types.specs.declared.seq.Sequencer.{Sequencer}
use Rattle.machine.specs.Answers.{Outcome, outcome, refusal_number}
use Rattle.machine.specs.Calls.{raised, refused_counter, refusal_counter, no_counter}
use Rattle.machine.specs.Graphics.{selects, register_number, keeps, gc_of}
use Rattle.machine.specs.Sequencer.{selects_seq, seq_number}
use Rattle.host_records.specs.declared.record.StatsRecord.{StatsRecord}
use Rattle.host_records.specs.declared.counter.Counter.{Counter}
use Rattle.host_records.specs.declared.counter.Counter.TheVariants.{Mode0Writes, Mode1Writes, Mode2Writes, Mode3Writes, Mode0Reads, Mode1Reads, RefusedAccesses}
use Rattle.host_records.specs.declared.record.ControllerRecord.{ControllerRecord}
use Rattle.host_records.specs.declared.record.SequencerRecord.{SequencerRecord}

-- ---- numbers

-- whether the selected register is a register's number: 0 to 8
abbrev pub known_gc : ControllerRecord → Bool
known_gc g = leb g.register_selected 8

-- 0 to 5, `Invalid` the last
abbrev pub known_seq : SequencerRecord → Bool
known_seq s = leb s.register_selected 5

-- both
abbrev pub known_both : ControllerRecord → SequencerRecord → Bool
known_both g s = known_gc g && known_seq s

-- a flag that a host hands in, the pending mark, a0 and page: 0 is clear, any other number set
unfoldable pub is_set : ℕ → Bool
is_set zero = false
is_set (suc n) = true

-- ---- records

-- the counters
abbrev pub stats_of : StatsRecord → GraphicsControllerStats
stats_of c = record {
  mode_0_writes = c.mode_0_writes;
  mode_1_writes = c.mode_1_writes;
  mode_2_writes = c.mode_2_writes;
  mode_3_writes = c.mode_3_writes;
  mode_0_reads = c.mode_0_reads;
  mode_1_reads = c.mode_1_reads;
  refused_accesses = c.refused_accesses;
}

-- the counters as a host keeps them
abbrev pub stats_record_of : GraphicsControllerStats → StatsRecord
stats_record_of c = record {
  mode_0_writes = c.mode_0_writes;
  mode_1_writes = c.mode_1_writes;
  mode_2_writes = c.mode_2_writes;
  mode_3_writes = c.mode_3_writes;
  mode_0_reads = c.mode_0_reads;
  mode_1_reads = c.mode_1_reads;
  refused_accesses = c.refused_accesses;
}

-- the controller that a host's record of known number means
abbrev pub controller_of : ControllerRecord → GraphicsController
controller_of g = gc_of
    (record {
      register_select_byte = g.register_select_byte;
      register_selected = selects g.register_selected BitMask;
      set_reset = g.set_reset;
      enable_set_reset = g.enable_set_reset;
      color_compare = g.color_compare;
      data_rotate = g.data_rotate;
      read_map_select = g.read_map_select;
      mode = g.mode;
      miscellaneous = g.miscellaneous;
      color_dont_care = g.color_dont_care;
      bitmask = g.bitmask;
    })
    (stats_of g.stats)
    g.latches

-- a controller as a host keeps it, beside its own byte
abbrev pub controller_record_of : ℕ → GraphicsController → ControllerRecord
controller_record_of x g = record {
  stats = stats_record_of g.stats;
  register_select_byte = g.registers.register_select_byte;
  register_selected = register_number g.registers.register_selected;
  set_reset = g.registers.set_reset;
  enable_set_reset = g.registers.enable_set_reset;
  color_compare = g.registers.color_compare;
  data_rotate = g.registers.data_rotate;
  read_map_select = g.registers.read_map_select;
  mode = g.registers.mode;
  miscellaneous = g.registers.miscellaneous;
  color_dont_care = g.registers.color_dont_care;
  bitmask = g.registers.bitmask;
  latches = g.latches;
  spare = x;
}

-- a host's record with other counters and other latches
abbrev pub with_moved : StatsRecord → List ℕ → ControllerRecord → ControllerRecord
with_moved c l g = record {
  stats = c;
  register_select_byte = g.register_select_byte;
  register_selected = g.register_selected;
  set_reset = g.set_reset;
  enable_set_reset = g.enable_set_reset;
  color_compare = g.color_compare;
  data_rotate = g.data_rotate;
  read_map_select = g.read_map_select;
  mode = g.mode;
  miscellaneous = g.miscellaneous;
  color_dont_care = g.color_dont_care;
  bitmask = g.bitmask;
  latches = l;
  spare = g.spare;
}

-- with other counters alone
abbrev pub with_stats : StatsRecord → ControllerRecord → ControllerRecord
with_stats c g = with_moved c g.latches g

-- with other latches alone
abbrev pub with_latches : List ℕ → ControllerRecord → ControllerRecord
with_latches l g = with_moved g.stats l g

-- a host's record with one more in the counter of a number; 7 is none
abbrev pub with_count : ℕ → ControllerRecord → ControllerRecord
with_count n g = with_stats
    (record {
      mode_0_writes = raised n 0 g.stats.mode_0_writes;
      mode_1_writes = raised n 1 g.stats.mode_1_writes;
      mode_2_writes = raised n 2 g.stats.mode_2_writes;
      mode_3_writes = raised n 3 g.stats.mode_3_writes;
      mode_0_reads = raised n 4 g.stats.mode_0_reads;
      mode_1_reads = raised n 5 g.stats.mode_1_reads;
      refused_accesses = raised n 6 g.stats.refused_accesses;
    })
    g

-- a host's record with another value in the register of a number; 9 is none
abbrev pub with_register : ℕ → ℕ → ControllerRecord → ControllerRecord
with_register n v g = record {
  stats = g.stats;
  register_select_byte = g.register_select_byte;
  register_selected = g.register_selected;
  set_reset = pick (eqb n 0) v g.set_reset;
  enable_set_reset = pick (eqb n 1) v g.enable_set_reset;
  color_compare = pick (eqb n 2) v g.color_compare;
  data_rotate = pick (eqb n 3) v g.data_rotate;
  read_map_select = pick (eqb n 4) v g.read_map_select;
  mode = pick (eqb n 5) v g.mode;
  miscellaneous = pick (eqb n 6) v g.miscellaneous;
  color_dont_care = pick (eqb n 7) v g.color_dont_care;
  bitmask = pick (eqb n 8) v g.bitmask;
  latches = g.latches;
  spare = g.spare;
}

-- the registers 0 to 7 of a host's record
abbrev pub first_eight : ControllerRecord → List ℕ
first_eight g = g.set_reset ∷ g.enable_set_reset ∷ g.color_compare ∷ g.data_rotate ∷ g.read_map_select ∷ g.mode ∷ g.miscellaneous ∷ g.color_dont_care ∷ []

-- the register of a number; any past them is the bit mask
abbrev pub register_at : ℕ → ControllerRecord → ℕ
register_at n g = get_or (first_eight g) n g.bitmask

-- the counter that an access raises, by its answer's number: its own where it is accepted, that of the refused where it is refused with 2 or 3
abbrev pub counter_of : ℕ → ℕ → ℕ
counter_of zero own = own
counter_of (suc n) own = refusal_counter (suc n) refused_counter

-- ---- which counter goes up, and which register is stored, by number

-- the counters' own order
abbrev pub counter_number : Counter → ℕ
counter_number Mode0Writes = 0
counter_number Mode1Writes = 1
counter_number Mode2Writes = 2
counter_number Mode3Writes = 3
counter_number Mode0Reads = 4
counter_number Mode1Reads = 5
counter_number RefusedAccesses = refused_counter

-- 7 where none goes up
abbrev pub counter_told : Option Counter → ℕ
counter_told None = no_counter
counter_told (Some k) = counter_number k

-- 9 where none is stored
abbrev pub register_told : Option (GraphicsRegister × ℕ) → ℕ
register_told None = 9
register_told (Some s) = register_number s.0

-- its value, 0 where none is stored
abbrev pub value_told : Option (GraphicsRegister × ℕ) → ℕ
value_told None = 0
value_told (Some s) = s.1

-- an answer's number: 0, or its refusal's
abbrev pub answer_number : {T : Type 0} → Result T Refusal → ℕ
answer_number (Ok x) = 0
answer_number (Err r) = refusal_number r

-- the sequencer that a host's record of known number means
abbrev pub sequencer_of : SequencerRecord → Sequencer
sequencer_of s = record {
  address_byte = s.address_byte;
  register_selected = selects_seq s.register_selected;
  reset = s.reset;
  clocking_mode = s.clocking_mode;
  map_mask = s.map_mask;
  character_map_select = s.character_map_select;
  memory_mode = s.memory_mode;
  clock_change_pending = is_set s.clock_change_pending;
  clock_divisor = s.clock_divisor;
  char_clock = s.char_clock;
}

-- a sequencer as a host keeps it: the mark is 0 or 1
abbrev pub sequencer_record_of : Sequencer → SequencerRecord
sequencer_record_of s = record {
  address_byte = s.address_byte;
  register_selected = seq_number s.register_selected;
  reset = s.reset;
  clocking_mode = s.clocking_mode;
  map_mask = s.map_mask;
  character_map_select = s.character_map_select;
  memory_mode = s.memory_mode;
  clock_change_pending = bit_of s.clock_change_pending;
  clock_divisor = s.clock_divisor;
  char_clock = s.char_clock;
}

-- ---- what a call leaves

-- by the answer's number: 0 leaves what is new, a refusal what was handed in
abbrev pub left_by : {T : Type 0} → ℕ → T → T → T
left_by zero new old = new
left_by (suc n) new old = old

-- the machine's outcome as a host is left with it: a refusal leaves the host's record as it was handed in
abbrev pub left_to : {S T : Type 0} → (S → T) → Outcome S → T → Outcome T
left_to f o old = outcome o.answer (left_by o.answer.number (f o.next) old)

-- the register that a data write stores, by its answer's number: the selected one where it is accepted, none where it is refused
abbrev pub data_register : ℕ → ControllerRecord → ℕ
data_register n g = left_by n g.register_selected 9

-- its value: what that register keeps of the byte, 0 where none is stored
abbrev pub data_value : ℕ → ControllerRecord → ℕ → ℕ
data_value n g x = left_by n (keeps (controller_of g).registers.register_selected x) 0
