-- `next` judges the number that `read_number` read, damage before range.
use mathlib.Core.Path.{refl}
use Rattle.std.proofs.Common.{arith}
use Rattle.tape_records.proofs.Judging.{bad_number, too_large, fits, in_range}
use Rattle.tape_records.proofs.arguments.Arguments.next.Goals as goal

pub returns-in_err-number : goal.returns-in_err-number
returns-in_err-number c = bad_number _ _ c.requires c.read_number.ensures _ c.in_err-number.was c.from_residual.ensures.1

pub returns-then-number-greatest : goal.returns-then-number-greatest
returns-then-number-greatest c = too_large _ _ c.requires c.read_number.ensures c.in_ok-number.was c.if-number-greatest.true

pub overflow_add-self : goal.overflow_add-self
overflow_add-self c = omega (arith, fits _ c.args.self.now c.requires c.read_number.ensures c.in_ok-number.was)

pub invariant_of-self : goal.invariant_of-self
invariant_of-self c = record { within = fits _ c.args.self.now c.requires c.read_number.ensures c.in_ok-number.was }

pub returns : goal.returns
returns c = in_range _ _ c.requires c.read_number.ensures c.in_ok-number.was _ refl refl c.if-number-greatest.false
