-- From what each call ensures to what its record does: an outcome of a part of the state, put back into the whole.
use mathlib.Core.Path.{◌≡◌, ap}
use Rattle.machine_types.specs.declared.gc.GraphicsController.{GraphicsController}
use Rattle.machine_types.specs.declared.seq.Sequencer.{Sequencer}
use Rattle.machine_types.specs.Slices.{ToRead, ToStore, ReadsSame}
use Rattle.machine.specs.Memory.{Memory, seen, lent}
use Rattle.machine.specs.Answers.{one, Said, said, outcome}
use Rattle.machine.specs.Calls.{SequencerCall, seq_reset, GraphicsCall, gc_reset, CpuCall}
use Rattle.machine.specs.Step.{sequencer_step, graphics_step, Device, cpu_step, state, sequencer, graphics, cpu, lifted, with_seq, with_gc, with_device, step}
use Rattle.tape_records.specs.declared.records.Command.TheVariants.{Reset}
use Rattle.tape_machine.specs.Performs.{performed}

-- what is lent to a store, as it is read
pub seen-lent : {r : ToRead} {v : ToStore} → ReadsSame r v → seen r ≡ lent v
seen-lent e = rw (e.p0, e.p1, e.p2, e.p3, e.picture)

module _ (g : GraphicsController) (s : Sequencer) (m : Memory) where
  pub graphics-so : (c : GraphicsCall) {t a : Said} {g' g'' : GraphicsController} {s' : Sequencer} → outcome a g' ≡ graphics_step g c → t ≡ a → g'' ≡ g' → s' ≡ s
      → outcome t (state g'' s' m) ≡ step (state g s m) (graphics c)
  unfolding step
  graphics-so c e f h k = rw (f, h, k) (ap (lifted (with_gc (state g s m))) e)

  pub sequencer-so : (c : SequencerCall) {t a : Said} {s' s'' : Sequencer} {g' : GraphicsController} → outcome a s' ≡ sequencer_step s c → t ≡ a → g' ≡ g → s'' ≡ s'
      → outcome t (state g' s'' m) ≡ step (state g s m) (sequencer c)
  unfolding step
  sequencer-so c e f h k = rw (f, h, k) (ap (lifted (with_seq (state g s m))) e)

  pub reset-so : {t : Said} {g' : GraphicsController} {s' : Sequencer} → outcome (said 0 (one 0)) s' ≡ sequencer_step s seq_reset
      → outcome (said 0 (one 0)) g' ≡ graphics_step g gc_reset → t ≡ said 0 (one 0)
      → outcome t (state g' s' m) ≡ performed (state g s m) Reset
  unfolding performed step
  reset-so e f h = rw (h, ← e, ← f)

  pub cpu-so : (c : CpuCall) {t a : Said} {d : Device} {g' : GraphicsController} {s' : Sequencer} → outcome a d ≡ cpu_step g s m c → t ≡ a → g' ≡ d.gc → s' ≡ s
      → outcome t (state g' s' d.memory) ≡ step (state g s m) (cpu c)
  unfolding step
  cpu-so c e f h k = rw (f, h, k) (ap (lifted (with_device (state g s m))) e)
