-- `run_from_start` lends `run` the start's memory and records: what `run` ensures there, less the memory, which ends with the call.
use Prim.Native.Nat.{ℕ}
use mathlib.Core.Path.{◌≡◌, refl, ap}
use mathlib.Core.List.{List}
use Rattle.machine_types.specs.Start.{fresh_gc, fresh_seq}
use Rattle.machine_types.specs.declared.gc.GraphicsController.{GraphicsController}
use Rattle.machine_types.specs.declared.seq.Sequencer.{Sequencer}
use Rattle.machine.specs.Memory.{Memory}
use Rattle.machine.specs.Step.{state}
use Rattle.tape_machine.specs.declared.ran.Ran.{Ran}
use Rattle.tape_machine.specs.Run.{TapeRun, tape_run, run_of}
use Rattle.tape_machine.specs.Program.{tape_start, printed, printed_of}
use Rattle.tape_reader.proofs.program.run_from_start.Goals as goal

from_start : (tape out : List ℕ) {out' : List ℕ} {r : Ran} {g : GraphicsController} {s : Sequencer} (m : Memory) {m' : Memory} → g ≡ fresh_gc → s ≡ fresh_seq
    → tape_run r m' out' ≡ run_of tape (state g s m) out → m ≡ tape_start.memory → printed r out' ≡ printed_of tape out
unfolding tape_start printed_of
from_start tape out m e f p q = ap (λ (o : TapeRun). printed o.ran o.out) (rw (e, f, q) at p)

pub returns : goal.returns
unfolding tape_start
returns c =
    from_start c.args.tape.now c.args.out.now _ c.new.ensures c.new-2.ensures c.run.ensures.does refl
