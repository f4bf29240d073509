-- `decode` is the definition's record: from what its operation's number came to.
use mathlib.Core.Path.{sym, ◌∙◌}
use Rattle.tape_records.specs.Records.{started}
use Rattle.tape_numbers.proofs.Sizes.{number_fits}
use Rattle.tape_records.proofs.Judging.{err_so, started_so}
use Rattle.tape_records.proofs.records.decode.Goals as goal

pub returns-in_err-operation : goal.returns-in_err-operation
unfolding started
returns-in_err-operation c = err_so _ c.from_residual.ensures.1 ∙ started_so _ c.read_number.ensures c.in_err-operation.was

pub invariant_of-arguments : goal.invariant_of-arguments
invariant_of-arguments c = record { within = (number_fits _ _ c.read_number.ensures c.in_ok-operation.was).1 }

pub returns-in-Ok : goal.returns-in-Ok
unfolding started
returns-in-Ok c = sym c.in-Ok.ensures ∙ started_so _ c.read_number.ensures c.in_ok-operation.was

pub returns-in-Err : goal.returns-in-Err
unfolding started
returns-in-Err c = sym c.in-Err.ensures ∙ started_so _ c.read_number.ensures c.in_ok-operation.was
