-- The start states, which the two `new` hand out.
use Rattle.std.specs.Prelude.{[], ◌∷◌, false}
use Rattle.machine_types.specs.declared.gc.GraphicsRegister.TheVariants.{SetReset}
use Rattle.machine_types.specs.declared.gc.GraphicsController.{GraphicsController}
use Rattle.machine_types.specs.declared.seq.SequencerRegister.TheVariants.{Reset}
use Rattle.machine_types.specs.declared.seq.Sequencer.{Sequencer}

-- the GC's start: all 0, latches and counters too
abbrev pub fresh_gc : GraphicsController
fresh_gc = record {
  registers = record {
    register_select_byte = 0;
    register_selected = SetReset;
    set_reset = 0;
    enable_set_reset = 0;
    color_compare = 0;
    data_rotate = 0;
    read_map_select = 0;
    mode = 0;
    miscellaneous = 0;
    color_dont_care = 0;
    bitmask = 0;
  };
  stats = record { mode_0_writes = 0; mode_1_writes = 0; mode_2_writes = 0; mode_3_writes = 0; mode_0_reads = 0; mode_1_reads = 0; refused_accesses = 0 };
  latches = 0 ∷ 0 ∷ 0 ∷ 0 ∷ [];
}

-- the sequencer's start: all registers 0, Reset selected, divisor 1, character clock 9, no change pending
abbrev pub fresh_seq : Sequencer
fresh_seq = record {
  address_byte = 0;
  register_selected = Reset;
  reset = 0;
  clocking_mode = 0;
  map_mask = 0;
  character_map_select = 0;
  memory_mode = 0;
  clock_change_pending = false;
  clock_divisor = 1;
  char_clock = 9;
}
