-- `read_number` is the definition's number: the loop's invariant is `Held`, and each way out is a law of `Reading`.
use Rattle.tape_numbers.proofs.Reading.{Held}
use Rattle.tape_numbers.proofs.read_number.Given as goal

abbrev pub invariant-loop-at : goal.invariant-loop-at
invariant-loop-at l = Held l.tape l.limit l.at l.value l.weight l.left
