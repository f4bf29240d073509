-- `visit_plane` lays the plane's byte where its bit is set, and nothing else: from `lay` and the test of the bit.
use native.Mathlib.Omega.{arith}
use mathlib.Core.Path.{◌≡◌}
use Rattle.bits.proofs.Bitwise.{bit-set, bit-clear}
use Rattle.bits.specs.Bit.{bit}
use Rattle.machine.specs.Memory.{lent}
use Rattle.machine.proofs.Laws.{laid_within}
use Rattle.graphics_visits.proofs.inner.visit_plane.Goals as goal

pub returns-then-target-plane-ne0-clause-down : goal.returns-then-target-plane-ne0-clause-down
returns-then-target-plane-ne0-clause-down c =
    let e : bit c.args.plane c.args.target.planes ≡ 1 = bit-set _ _ (omega arith) c.if-target-plane-ne0.true in
    simp e c.lay.ensures.down

pub returns-then-target-plane-ne0-clause-within : goal.returns-then-target-plane-ne0-clause-within
returns-then-target-plane-ne0-clause-within c =
    laid_within _ _ _ (lent c.args.memory.now) _ _ c.lay.ensures.down c.requires.0 c.requires.1.0

pub returns-clause-down : goal.returns-clause-down
returns-clause-down c =
    let e : bit c.args.plane c.args.target.planes ≡ 0 = bit-clear _ _ (omega arith) c.if-target-plane-ne0.false in
    simp e
