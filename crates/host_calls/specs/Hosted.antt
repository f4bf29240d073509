-- The machine's calls on a host's records: refusal 6 where a selected register is no register's number, else the machine's own answer.
-- An accepted call leaves what the machine leaves, a refused one what the host handed in; a read or a write of the processor refused with 2 or 3 leaves it with the
-- machine's counter of these (K8).
use Rattle.std.specs.Prelude.{ℕ, Bool, true, false, List, [], ◌∷◌}
use Rattle.machine.specs.Memory.{Memory}
use Rattle.machine.specs.Answers.{Value, Said, said, Outcome, outcome}
use Rattle.machine.specs.Calls.{SequencerCall, seq_reset, seq_clock, seq_set_clock_change_pending, seq_poll_clock_change, seq_read_address, seq_read_data, seq_write_address, seq_write_data}
use Rattle.machine.specs.Calls.{DirectCall, GraphicsCall, CpuCall}
use Rattle.machine.specs.Step.{Device, vram_step, sequencer_step, direct_step, graphics_step, cpu_step, State, state, Call, vram, sequencer, direct, graphics, cpu, lifted}
use Rattle.machine.specs.Claims.{one_more_refused}
use Rattle.host_records.specs.declared.record.ControllerRecord.{ControllerRecord}
use Rattle.host_records.specs.declared.record.SequencerRecord.{SequencerRecord}
use Rattle.host_records.specs.Records.{known_gc, known_seq, known_both, controller_of, controller_record_of, sequencer_of, sequencer_record_of, stats_record_of, with_stats, left_to}

-- the controller's record as a host keeps it, and the memory
pub record Held : Type 0 where
  pub gc : ControllerRecord
  pub memory : Memory

-- what a host holds of a record and a memory
abbrev pub held : ControllerRecord → Memory → Held
held g m = record { gc = g; memory = m }

-- what a host holds of the machine's device, beside its own byte
abbrev pub held_of : ℕ → Device → Held
held_of x d = held (controller_record_of x d.gc) d.memory

-- a host's record with one more access turned away, as the machine counts it, and every other byte as it was: what a read or a write answered 2 or 3 leaves (K8)
abbrev pub with_one_more_refused : ControllerRecord → ControllerRecord
with_one_more_refused g = with_stats (stats_record_of (one_more_refused (controller_of g)).stats) g

-- known numbers: the outcome that a host is left with; else refusal 6, the blank value, and all as handed in
abbrev pub hosted : {T : Type 0} → Bool → Outcome T → Value → T → Outcome T
hosted true o blank old = o
hosted false o blank old = outcome (said 6 blank) old

-- calls on the sequencer's record
unfoldable pub sequencer_hosted : SequencerRecord → Value → SequencerCall → Outcome SequencerRecord
sequencer_hosted s blank c = hosted (known_seq s) (left_to sequencer_record_of (sequencer_step (sequencer_of s) c) s) blank s

-- calls on the sequencer's record and memory
unfoldable pub direct_hosted : SequencerRecord → Memory → Value → DirectCall → Outcome Memory
direct_hosted s m blank c = hosted (known_seq s) (left_to (λ m. m) (direct_step (sequencer_of s) m c) m) blank m

-- calls on the controller's record
unfoldable pub graphics_hosted : ControllerRecord → Value → GraphicsCall → Outcome ControllerRecord
graphics_hosted g blank c = hosted (known_gc g) (left_to (controller_record_of g.spare) (graphics_step (controller_of g) c) g) blank g

-- calls on both records and memory: the machine's outcome, refused or not, since a refusal may have counted
unfoldable pub cpu_hosted : ControllerRecord → SequencerRecord → Memory → Value → CpuCall → Outcome Held
cpu_hosted g s m blank c = hosted (known_both g s) (lifted (held_of g.spare) (cpu_step (controller_of g) (sequencer_of s) m c)) blank (held g m)

-- ---- a host that keeps both records and the memory, call after call

-- what it keeps
pub record Host : Type 0 where
  pub gc : ControllerRecord
  pub seq : SequencerRecord
  pub memory : Memory

-- the host of its three parts
abbrev pub host : ControllerRecord → SequencerRecord → Memory → Host
host g s m = record { gc = g; seq = s; memory = m }

-- the machine's state that it means
abbrev pub meant_by : Host → State
meant_by h = state (controller_of h.gc) (sequencer_of h.seq) h.memory

-- the sequencer's record after a call: one that only asks is handed it by value and hands none back
abbrev pub sequencer_kept : SequencerCall → SequencerRecord → SequencerRecord → SequencerRecord
sequencer_kept seq_reset old next = next
sequencer_kept seq_clock old next = old
sequencer_kept seq_set_clock_change_pending old next = next
sequencer_kept seq_poll_clock_change old next = next
sequencer_kept seq_read_address old next = old
sequencer_kept seq_read_data old next = old
sequencer_kept (seq_write_address x) old next = next
sequencer_kept (seq_write_data x) old next = next

-- a call of any layer, and what comes back put where it was; `v` is what the refusal of an unknown record carries
unfoldable pub host_step : Value → Host → Call → Outcome Host
host_step v h (vram c) = lifted (λ m. host h.gc h.seq m) (vram_step h.memory c)
host_step v h (sequencer c) = lifted (λ s. host h.gc (sequencer_kept c h.seq s) h.memory) (sequencer_hosted h.seq v c)
host_step v h (direct c) = lifted (λ m. host h.gc h.seq m) (direct_hosted h.seq h.memory v c)
host_step v h (graphics c) = lifted (λ g. host g h.seq h.memory) (graphics_hosted h.gc v c)
host_step v h (cpu c) = lifted (λ d. host d.gc h.seq d.memory) (cpu_hosted h.gc h.seq h.memory v c)

-- one call after the other: what a host is answered
unfoldable pub host_answers : Value → Host → List Call → List Said
host_answers v h [] = []
host_answers v h (c ∷ cs) = (host_step v h c).answer ∷ host_answers v (host_step v h c).next cs
