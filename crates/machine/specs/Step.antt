-- What each call does to what it is handed, layer by layer; `step`, the same on the whole state; `run`, call after call.
use Rattle.std.specs.Prelude.{List, [], ◌∷◌}
use Rattle.machine_types.specs.declared.gc.GraphicsController.{GraphicsController}
use Rattle.machine_types.specs.declared.seq.Sequencer.{Sequencer}
use Rattle.machine.specs.Memory.{Memory, shape}
use Rattle.machine.specs.Answers.{Said, Outcome, outcome, answered}
use Rattle.machine.specs.Graphics.{gc_of}
use Rattle.machine.specs.Deeds.{Plan, latches_after, memory_after, value_of, perform}
use Rattle.machine.specs.Calls.{VramCall, vram_plan, SequencerCall, seq_number_of, seq_value, seq_next, DirectCall, direct_plan, GraphicsCall, gc_number_of, gc_value}
use Rattle.machine.specs.Calls.{gc_next, CpuCall, CpuPlan, cpu_plan, refusal_counter, counted}

-- ---- the five layers, each over what its calls are handed

-- calls on memory alone
unfoldable pub vram_step : Memory → VramCall → Outcome Memory
vram_step m c = perform (vram_plan (shape m) c) m

-- calls on the sequencer's record
unfoldable pub sequencer_step : Sequencer → SequencerCall → Outcome Sequencer
sequencer_step s c = answered (seq_number_of s c) (seq_value s c) (seq_next s c) s

-- calls on the sequencer's record and memory; the record stays
unfoldable pub direct_step : Sequencer → Memory → DirectCall → Outcome Memory
direct_step s m c = perform (direct_plan s (shape m) c) m

-- calls on the controller's record
unfoldable pub graphics_step : GraphicsController → GraphicsCall → Outcome GraphicsController
graphics_step g c = answered (gc_number_of g.registers c) (gc_value g.registers c) (gc_next g c) g

-- the controller and the memory
pub record Device : Type 0 where
  pub gc : GraphicsController
  pub memory : Memory

-- the device of a record and a memory
abbrev pub device : GraphicsController → Memory → Device
device g m = record { gc = g; memory = m }

-- the registers stay; the plan's counter goes up, its deed is done
abbrev pub cpu_after : CpuPlan → GraphicsController → Memory → Device
cpu_after a g m = device (gc_of g.registers (counted a.counter g.stats) (latches_after a.ask.deed g.latches m))
    (memory_after a.ask.deed g.latches m)

-- what a refusal leaves: all as handed in, but for the counter that 2 and 3 raise (K8)
abbrev pub cpu_refused : CpuPlan → GraphicsController → Memory → Device
cpu_refused a g m = device (gc_of g.registers (counted (refusal_counter a.ask.number a.turned_away) g.stats) g.latches) m

-- the reply is made after the deed: a compare read sees the latches that it loaded, a write both memories
abbrev pub cpu_answered : Plan → Device → Device → Outcome Device
cpu_answered a new old = answered a.number (value_of a.reply old.memory new.gc.latches new.memory) new old

-- a plan of the processor's carried out
abbrev pub cpu_perform : CpuPlan → GraphicsController → Memory → Outcome Device
cpu_perform a g m = cpu_answered a.ask (cpu_after a g m) (cpu_refused a g m)

-- calls on both records and memory; the sequencer's record stays
unfoldable pub cpu_step : GraphicsController → Sequencer → Memory → CpuCall → Outcome Device
cpu_step g s m c = cpu_perform (cpu_plan g.registers s (shape m) c) g m

-- ---- the whole state

-- both records and the memory
pub record State : Type 0 where
  pub gc : GraphicsController
  pub seq : Sequencer
  pub memory : Memory

-- the state of its three parts
abbrev pub state : GraphicsController → Sequencer → Memory → State
state g s m = record { gc = g; seq = s; memory = m }

-- a call of any layer
pub data Call : Type 0 where
  vram : VramCall → Call
  sequencer : SequencerCall → Call
  direct : DirectCall → Call
  graphics : GraphicsCall → Call
  cpu : CpuCall → Call

-- an outcome of a part of the state, put back into the whole
abbrev pub lifted : {S T : Type 0} → (S → T) → Outcome S → Outcome T
lifted f o = outcome o.answer (f o.next)

-- the whole with a new part
abbrev pub with_memory : State → Memory → State
with_memory s m = state s.gc s.seq m

-- the whole with a new sequencer's record
abbrev pub with_seq : State → Sequencer → State
with_seq s q = state s.gc q s.memory

-- the whole with a new controller's record
abbrev pub with_gc : State → GraphicsController → State
with_gc s g = state g s.seq s.memory

-- the whole with a new controller's record and memory
abbrev pub with_device : State → Device → State
with_device s d = state d.gc s.seq d.memory

-- one call on the whole state: what its layer does to its part
unfoldable pub step : State → Call → Outcome State
step s (vram c) = lifted (with_memory s) (vram_step s.memory c)
step s (sequencer c) = lifted (with_seq s) (sequencer_step s.seq c)
step s (direct c) = lifted (with_memory s) (direct_step s.seq s.memory c)
step s (graphics c) = lifted (with_gc s) (graphics_step s.gc c)
step s (cpu c) = lifted (with_device s) (cpu_step s.gc s.seq s.memory c)

-- ---- call after call

-- what a list of calls answers, and what it leaves
pub record Run : Type 0 where
  pub answers : List Said
  pub final : State

-- a run with one answer more before it
abbrev pub answered_first : Said → Run → Run
answered_first a r = record { answers = a ∷ r.answers; final = r.final }

-- one call after the other
unfoldable pub run : State → List Call → Run
run s [] = record { answers = []; final = s }
run s (c ∷ cs) = answered_first (step s c).answer (run (step s c).next cs)
