-- The rules of a host's records, by computation: one list of what the definitions give, one of what the rules say, one statement for each of the two records.
-- A definition and a code that were wrong alike would be refused here.
use Prim.Native.Nat.{ℕ}
use mathlib.Core.Path.{◌≡◌, refl}
use mathlib.Core.Bool.{false}
use mathlib.Core.List.{List, [], ◌∷◌, ◌++◌}
use Rattle.bits.specs.Bit.{bit_of}
use Rattle.machine.specs.Memory.{mem}
use Rattle.machine.specs.Answers.{Value, one, changes, Said, Outcome}
use Rattle.machine.specs.Calls.{SequencerCall, seq_reset, seq_set_clock_change_pending, seq_poll_clock_change, seq_write_address, seq_write_data}
use Rattle.machine.specs.Calls.{GraphicsCall, gc_reset, gc_write_address, gc_write_data, CpuCall, cpu_read, cpu_peek, cpu_write}
use Rattle.machine.specs.Step.{lifted, sequencer_step, graphics_step}
use Rattle.machine.proofs.Computed.{computed}
use Rattle.machine.proofs.Worked.{told}
use Rattle.answers.proofs.Told.{first_of}
use Rattle.host_records.specs.declared.record.ControllerRecord.{ControllerRecord}
use Rattle.host_records.specs.declared.record.SequencerRecord.{SequencerRecord}
use Rattle.host_records.specs.Records.{known_gc, known_seq, is_set, controller_of, controller_record_of, sequencer_of, sequencer_record_of}
use Rattle.host_calls.specs.Hosted.{Held, sequencer_hosted, graphics_hosted, cpu_hosted}

-- ---- the sequencer's record

-- one of its selected register, Reset and mark, the other fields told apart
seq_at : ℕ → ℕ → ℕ → SequencerRecord
seq_at q x mark = record {
  address_byte = 1;
  register_selected = q;
  reset = x;
  clocking_mode = 11;
  map_mask = 12;
  character_map_select = 13;
  memory_mode = 14;
  clock_change_pending = mark;
  clock_divisor = 15;
  char_clock = 16;
}

-- number, value and every field that is left
seq_left : Outcome SequencerRecord → List ℕ
seq_left o =
    let s = o.next in
    o.answer.number ∷ first_of o.answer.value ∷ s.address_byte ∷ s.register_selected ∷ s.reset ∷ s.clocking_mode ∷ s.map_mask
    ∷ s.character_map_select ∷ s.memory_mode ∷ s.clock_change_pending ∷ s.clock_divisor ∷ s.char_clock ∷ []

seq_says : SequencerRecord → SequencerCall → List ℕ
unfolding seq_left sequencer_hosted
seq_says s c = seq_left (sequencer_hosted s (one 0) c)

pub sequencer_rows : List (List ℕ)
unfolding seq_at seq_says seq_left sequencer_hosted is_set computed
sequencer_rows =
    -- 0 is clear, any other number set; a selected register is known from 0 to 5
    (bit_of (is_set 0) ∷ bit_of (is_set 1) ∷ bit_of (is_set 2) ∷ bit_of (is_set 255) ∷ bit_of (known_seq (seq_at 5 0 0)) ∷ bit_of (known_seq (seq_at 6 0 0)) ∷ [])
    -- refusal 6 for a number that selects no register, and for Reset above 3: all as handed in, the mark's number too
    ∷ seq_says (seq_at 6 3 2) (seq_write_address 4)
    ∷ seq_says (seq_at 0 4 2) (seq_write_address 4)
    ∷ seq_says (seq_at 0 4 2) (seq_write_data 2)
    ∷ seq_says (seq_at 0 4 2) seq_set_clock_change_pending
    ∷ seq_says (seq_at 0 4 2) seq_poll_clock_change
    -- accepted: a mark of 2 is set, and what is left is 0 or 1
    ∷ seq_says (seq_at 0 3 2) (seq_write_address 4)
    ∷ seq_says (seq_at 0 3 2) (seq_write_data 2)
    ∷ seq_says (seq_at 0 3 2) seq_set_clock_change_pending
    ∷ seq_says (seq_at 0 3 2) seq_poll_clock_change
    ∷ seq_says (seq_at 0 3 0) seq_poll_clock_change
    ∷ seq_says (seq_at 0 3 0) (seq_write_address 4)
    -- a reset takes any record
    ∷ seq_left (lifted sequencer_record_of (sequencer_step (sequencer_of (seq_at 6 4 2)) seq_reset))
    ∷ []

pub sequencer_said : List (List ℕ)
sequencer_said =
    (0 ∷ 1 ∷ 1 ∷ 1 ∷ 1 ∷ 0 ∷ [])
    ∷ (6 ∷ 0 ∷ 1 ∷ 6 ∷ 3 ∷ 11 ∷ 12 ∷ 13 ∷ 14 ∷ 2 ∷ 15 ∷ 16 ∷ [])
    ∷ (6 ∷ 0 ∷ 1 ∷ 0 ∷ 4 ∷ 11 ∷ 12 ∷ 13 ∷ 14 ∷ 2 ∷ 15 ∷ 16 ∷ [])
    ∷ (6 ∷ 0 ∷ 1 ∷ 0 ∷ 4 ∷ 11 ∷ 12 ∷ 13 ∷ 14 ∷ 2 ∷ 15 ∷ 16 ∷ [])
    ∷ (6 ∷ 0 ∷ 1 ∷ 0 ∷ 4 ∷ 11 ∷ 12 ∷ 13 ∷ 14 ∷ 2 ∷ 15 ∷ 16 ∷ [])
    ∷ (6 ∷ 0 ∷ 1 ∷ 0 ∷ 4 ∷ 11 ∷ 12 ∷ 13 ∷ 14 ∷ 2 ∷ 15 ∷ 16 ∷ [])
    ∷ (0 ∷ 0 ∷ 4 ∷ 4 ∷ 3 ∷ 11 ∷ 12 ∷ 13 ∷ 14 ∷ 1 ∷ 15 ∷ 16 ∷ [])
    ∷ (0 ∷ 0 ∷ 1 ∷ 0 ∷ 2 ∷ 11 ∷ 12 ∷ 13 ∷ 14 ∷ 1 ∷ 15 ∷ 16 ∷ [])
    ∷ (0 ∷ 0 ∷ 1 ∷ 0 ∷ 3 ∷ 11 ∷ 12 ∷ 13 ∷ 14 ∷ 1 ∷ 15 ∷ 16 ∷ [])
    ∷ (0 ∷ 1 ∷ 1 ∷ 0 ∷ 3 ∷ 11 ∷ 12 ∷ 13 ∷ 14 ∷ 0 ∷ 15 ∷ 16 ∷ [])
    ∷ (0 ∷ 0 ∷ 1 ∷ 0 ∷ 3 ∷ 11 ∷ 12 ∷ 13 ∷ 14 ∷ 0 ∷ 15 ∷ 16 ∷ [])
    ∷ (0 ∷ 0 ∷ 4 ∷ 4 ∷ 3 ∷ 11 ∷ 12 ∷ 13 ∷ 14 ∷ 0 ∷ 15 ∷ 16 ∷ [])
    ∷ (0 ∷ 0 ∷ 0 ∷ 0 ∷ 0 ∷ 0 ∷ 0 ∷ 0 ∷ 0 ∷ 0 ∷ 1 ∷ 9 ∷ [])
    ∷ []

pub sequencer-rules : sequencer_rows ≡ sequencer_said
unfolding sequencer_rows sequencer_said seq_at seq_says seq_left sequencer_hosted is_set computed
sequencer-rules = refl

-- ---- the controller's record

-- one of its selected register and Set/Reset, the other fields told apart; A0000 for 64K, plane 1 selected, the host's own byte 5A
gc_at : ℕ → ℕ → ControllerRecord
gc_at q x = record {
  stats = record { mode_0_writes = 1; mode_1_writes = 2; mode_2_writes = 3; mode_3_writes = 4; mode_0_reads = 5; mode_1_reads = 6; refused_accesses = 18 };
  register_select_byte = 7;
  register_selected = q;
  set_reset = x;
  enable_set_reset = 0;
  color_compare = 9;
  data_rotate = 0;
  read_map_select = 1;
  mode = 0;
  miscellaneous = 5;
  color_dont_care = 12;
  bitmask = 0xFF;
  latches = 14 ∷ 15 ∷ 16 ∷ 17 ∷ [];
  spare = 0x5A;
}

-- what is said, number and value, and every field that is left
gc_left : Said → ControllerRecord → List ℕ
unfolding told
gc_left a g =
    let c = g.stats in
    told a ++ ((c.mode_0_writes ∷ c.mode_1_writes ∷ c.mode_2_writes ∷ c.mode_3_writes ∷ c.mode_0_reads ∷ c.mode_1_reads ∷ c.refused_accesses ∷ [])
    ++ (g.register_select_byte ∷ g.register_selected ∷ g.set_reset ∷ g.enable_set_reset ∷ g.color_compare ∷ g.data_rotate ∷ g.read_map_select
    ∷ g.mode ∷ g.miscellaneous ∷ g.color_dont_care ∷ g.bitmask ∷ g.spare ∷ g.latches))

port_left : Outcome ControllerRecord → List ℕ
unfolding gc_left
port_left o = gc_left o.answer o.next

gc_says : ControllerRecord → GraphicsCall → List ℕ
unfolding port_left graphics_hosted
gc_says g c = port_left (graphics_hosted g (one 0) c)

-- over planes of one byte: a call whose refusal 6 carries a value
cpu_says : Value → ControllerRecord → SequencerRecord → CpuCall → List ℕ
unfolding gc_left cpu_hosted
cpu_says v g s c =
    let o : Outcome Held = cpu_hosted g s (mem (0x11 ∷ []) (0x22 ∷ []) (0x33 ∷ []) (0x44 ∷ []) (0 ∷ 0 ∷ 0 ∷ 0 ∷ 0 ∷ 0 ∷ 0 ∷ 0 ∷ [])) v c in
    gc_left o.answer o.next.gc

-- a read or a peek, and a write
looks : ControllerRecord → SequencerRecord → CpuCall → List ℕ
unfolding cpu_says
looks = cpu_says (one 0)

writes : ControllerRecord → SequencerRecord → CpuCall → List ℕ
unfolding cpu_says
writes = cpu_says (changes 0 0 0 0)

pub controller_rows : List (List ℕ)
unfolding gc_at gc_left port_left gc_says cpu_says looks writes seq_at graphics_hosted cpu_hosted is_set computed
controller_rows =
    -- a selected register is known from 0 to 8
    (bit_of (known_gc (gc_at 8 0)) ∷ bit_of (known_gc (gc_at 9 0)) ∷ [])
    -- refusal 6 for a number that selects no register, and for Set/Reset above 15: all as handed in
    ∷ gc_says (gc_at 9 3) (gc_write_address 4)
    ∷ gc_says (gc_at 0 16) (gc_write_address 4)
    ∷ gc_says (gc_at 0 16) (gc_write_data 0x1E)
    ∷ looks (gc_at 9 3) (seq_at 0 3 2) (cpu_read 0xA0000 false)
    ∷ writes (gc_at 0 3) (seq_at 6 3 2) (cpu_write 0xA0000 false 0x77)
    ∷ looks (gc_at 0 3) (seq_at 0 4 2) (cpu_read 0xA0000 false)
    -- .. outside the window too, where no 2 is counted
    ∷ looks (gc_at 9 3) (seq_at 0 3 2) (cpu_read 0x9FFFF false)
    ∷ writes (gc_at 0 3) (seq_at 0 4 2) (cpu_write 0x9FFFF false 0x77)
    -- refusals 2 and 3: a read's and a write's are counted, a peek's are not
    ∷ looks (gc_at 0 3) (seq_at 0 3 2) (cpu_read 0x9FFFF false)
    ∷ looks (gc_at 0 3) (seq_at 0 3 2) (cpu_read 0xA0001 false)
    ∷ writes (gc_at 0 3) (seq_at 0 3 2) (cpu_write 0x9FFFF false 0x77)
    ∷ writes (gc_at 0 3) (seq_at 0 3 2) (cpu_write 0xA0001 false 0x77)
    ∷ looks (gc_at 0 3) (seq_at 0 3 2) (cpu_peek 0x9FFFF false)
    ∷ looks (gc_at 0 3) (seq_at 0 3 2) (cpu_peek 0xA0001 false)
    -- accepted: the host's own byte stays; a read loads the latches and counts, and answers plane 0 of A0000, since Memory Mode 14 has chain-four; a write counts, and
    -- 77 over 11 changes four bits of plane 0
    ∷ gc_says (gc_at 0 3) (gc_write_address 4)
    ∷ gc_says (gc_at 0 3) (gc_write_data 0x1E)
    ∷ looks (gc_at 0 3) (seq_at 0 3 2) (cpu_read 0xA0000 false)
    ∷ writes (gc_at 0 3) (seq_at 0 3 2) (cpu_write 0xA0000 false 0x77)
    -- a reset takes any record
    ∷ port_left (lifted (controller_record_of 0x5A) (graphics_step (controller_of (gc_at 9 16)) gc_reset))
    ∷ []

-- what is left of gc_at q x, its last counter so
left_with : ℕ → ℕ → ℕ → List ℕ
left_with t q x = 1 ∷ 2 ∷ 3 ∷ 4 ∷ 5 ∷ 6 ∷ t ∷ 7 ∷ q ∷ x ∷ 0 ∷ 9 ∷ 0 ∷ 1 ∷ 0 ∷ 5 ∷ 12 ∷ 0xFF ∷ 0x5A ∷ 14 ∷ 15 ∷ 16 ∷ 17 ∷ []

-- a refusal's number and value 0, and what was handed in
as_it_was : ℕ → ℕ → ℕ → List ℕ
unfolding left_with
as_it_was n q x = n ∷ 0 ∷ left_with 18 q x

-- with an access more turned away
one_more : ℕ → ℕ → ℕ → List ℕ
unfolding left_with
one_more n q x = n ∷ 0 ∷ left_with 19 q x

-- a write's refusal, its four numbers 0 (K6), its last counter so
not_written : ℕ → ℕ → ℕ → ℕ → List ℕ
unfolding left_with
not_written t n q x = n ∷ 0 ∷ 0 ∷ 0 ∷ 0 ∷ left_with t q x

pub controller_said : List (List ℕ)
unfolding as_it_was one_more not_written
controller_said =
    (1 ∷ 0 ∷ [])
    ∷ as_it_was 6 9 3
    ∷ as_it_was 6 0 16
    ∷ as_it_was 6 0 16
    ∷ as_it_was 6 9 3
    ∷ not_written 18 6 0 3
    ∷ as_it_was 6 0 3
    ∷ as_it_was 6 9 3
    ∷ not_written 18 6 0 3
    ∷ one_more 2 0 3
    ∷ one_more 3 0 3
    ∷ not_written 19 2 0 3
    ∷ not_written 19 3 0 3
    ∷ as_it_was 2 0 3
    ∷ as_it_was 3 0 3
    ∷ (0 ∷ 0 ∷ 1 ∷ 2 ∷ 3 ∷ 4 ∷ 5 ∷ 6 ∷ 18 ∷ 4 ∷ 4 ∷ 3 ∷ 0 ∷ 9 ∷ 0 ∷ 1 ∷ 0 ∷ 5 ∷ 12 ∷ 0xFF ∷ 0x5A ∷ 14 ∷ 15 ∷ 16 ∷ 17 ∷ [])
    ∷ (0 ∷ 0 ∷ 1 ∷ 2 ∷ 3 ∷ 4 ∷ 5 ∷ 6 ∷ 18 ∷ 7 ∷ 0 ∷ 14 ∷ 0 ∷ 9 ∷ 0 ∷ 1 ∷ 0 ∷ 5 ∷ 12 ∷ 0xFF ∷ 0x5A ∷ 14 ∷ 15 ∷ 16 ∷ 17 ∷ [])
    ∷ (0 ∷ 0x11 ∷ 1 ∷ 2 ∷ 3 ∷ 4 ∷ 6 ∷ 6 ∷ 18 ∷ 7 ∷ 0 ∷ 3 ∷ 0 ∷ 9 ∷ 0 ∷ 1 ∷ 0 ∷ 5 ∷ 12 ∷ 0xFF ∷ 0x5A ∷ 0x11 ∷ 0x22 ∷ 0x33 ∷ 0x44 ∷ [])
    ∷ (0 ∷ 4 ∷ 0 ∷ 0 ∷ 0 ∷ 2 ∷ 2 ∷ 3 ∷ 4 ∷ 5 ∷ 6 ∷ 18 ∷ 7 ∷ 0 ∷ 3 ∷ 0 ∷ 9 ∷ 0 ∷ 1 ∷ 0 ∷ 5 ∷ 12 ∷ 0xFF ∷ 0x5A ∷ 14 ∷ 15 ∷ 16 ∷ 17 ∷ [])
    ∷ (0 ∷ 0 ∷ 0 ∷ 0 ∷ 0 ∷ 0 ∷ 0 ∷ 0 ∷ 0 ∷ 0 ∷ 0 ∷ 0 ∷ 0 ∷ 0 ∷ 0 ∷ 0 ∷ 0 ∷ 0 ∷ 0 ∷ 0 ∷ 0x5A ∷ 0 ∷ 0 ∷ 0 ∷ 0 ∷ [])
    ∷ []

pub controller-rules : controller_rows ≡ controller_said
unfolding controller_rows controller_said left_with gc_at gc_left port_left gc_says cpu_says seq_at graphics_hosted cpu_hosted is_set computed
controller-rules = refl
