-- `play` writes the lines of the definition and leaves its state: what is kept is `Loop`, at the records that are left.
use mathlib.Core.Path.{◌≡◌}
use Rattle.machine_types.specs.Slices.{SameSlices}
use Rattle.machine.specs.Memory.{lent}
use Rattle.machine.specs.Step.{state}
use Rattle.tape_machine.specs.Run.{records_of}
use Rattle.tape_reader.proofs.Runs.{Loop}
use Rattle.tape_reader.proofs.whole.play.Given as goal

abbrev pub invariant-loop-earlier : goal.invariant-loop-earlier
invariant-loop-earlier l =
    SameSlices l.initial.memory l.memory
    × (l.initial.text.out.ghost_name ≡ l.text.out.ghost_name)
    × Loop (records_of l.tape) (state l.initial.gc l.initial.seq (lent l.initial.memory)) l.initial.text.out.now l.earlier-iterator (state l.gc l.seq (lent l.memory)) l.text.out.now l.text.at
