-- The shows move nothing: no record, no counter, no byte, whether they are answered or refused.
use Prim.Native.Nat.{ℕ, zero, suc, ◌*◌}
use mathlib.Core.Path.{◌≡◌, refl, ap}
use Rattle.machine_types.specs.declared.gc.GraphicsController.{GraphicsController}
use Rattle.machine.specs.Memory.{Memory, shape}
use Rattle.machine.specs.Answers.{Value, answered}
use Rattle.machine.specs.Graphics.{shift_mode}
use Rattle.machine.specs.Deeds.{rest, Reply, pixels_at, shown_at, plan, latches_after, memory_after}
use Rattle.machine.specs.Calls.{serialize, show_pixels, show_number, pixels_number, no_counter, counted, cpu_plan_of, cpu_plan}
use Rattle.machine.specs.Step.{device, cpu_perform, cpu_step, State, cpu, with_device, step}
use Rattle.machine.proofs.Laws.{none-raised}

-- an answer whose two outcomes are one
answered-either : {S : Type 0} (n : ℕ) (v : Value) (new old s : S) → new ≡ s → old ≡ s → (answered n v new old).next ≡ s
answered-either zero v new old s e f = e
answered-either (suc n) v new old s e f = f

-- a plan that rests and names no counter
plan-rests : (g : GraphicsController) (m : Memory) (n : ℕ) (q : Reply) → (cpu_perform (cpu_plan_of (plan n rest q) no_counter no_counter) g m).next ≡ device g m
unfolding counted latches_after memory_after
plan-rests g m n q = answered-either n _ _ _ (device g m) refl (rw (none-raised n))

module _ (s : State) (o : ℕ) where
  pub serialize-moves-nothing : (step s (cpu (serialize o))).next ≡ s
  unfolding step cpu_step cpu_plan
  serialize-moves-nothing = ap (with_device s) (plan-rests s.gc s.memory (show_number s.gc.registers s.seq (shape s.memory) o) (pixels_at (8 * o)))

  pub show-pixels-moves-nothing : (step s (cpu (show_pixels o))).next ≡ s
  unfolding step cpu_step cpu_plan
  show-pixels-moves-nothing =
      ap (with_device s) (plan-rests s.gc s.memory (pixels_number s.gc.registers s.seq (shape s.memory) o) (shown_at (shift_mode s.gc.registers) o))
