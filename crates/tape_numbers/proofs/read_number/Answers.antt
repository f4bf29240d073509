-- `read_number` is the definition's number: the loop's invariant is `Held`, and each way out is a law of `Reading`.
use native.Mathlib.Omega.{arith}
use Rattle.tape_numbers.proofs.Reading.{at_first, at_end, too_large, padded, whole, again}
use Rattle.tape_numbers.proofs.read_number.Goals as goal

pub loop-at-init : goal.loop-at-init
loop-at-init c = at_first _ _

pub returns-then-group-left : goal.returns-then-group-left
returns-then-group-left c = too_large _ _ _ _ _ _ _ c.loop-at.invariant c.from-group.ensures c.loop-at-test.true c.if-group-left.true

pub returns-then-padded : goal.returns-then-padded
returns-then-padded c = padded _ _ _ _ _ _ _ c.loop-at.invariant c.from-group.ensures c.loop-at-test.true c.if-group-left.false (grind arith) (grind arith)

pub returns-then-group-lt128 : goal.returns-then-group-lt128
returns-then-group-lt128 c = whole _ _ _ _ _ _ _ c.loop-at.invariant c.from-group.ensures c.loop-at-test.true c.if-group-left.false c.if-group-lt128.true (λ e. grind arith)

pub loop-at-preserved : goal.loop-at-preserved
loop-at-preserved c =
    again _ _ _ _ _ _ _ c.loop-at.invariant c.from-group.ensures c.loop-at-test.true c.if-group-left.false c.if-group-lt128.false
    (omega (arith, c.type_inv.tape c.loop-at.at))

pub returns : goal.returns
returns c = at_end _ _ _ _ _ _ c.loop-at.invariant c.loop-at-test.false
