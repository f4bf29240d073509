-- `visit` lays the bytes of the planes whose bits are set, and answers the bits of each that changed: four visits one after the other.
use Prim.Native.Nat.{ℕ}
use mathlib.Core.Bool.{Bool}
use Rattle.bits.specs.Bit.{bit, is_one}
use Rattle.machine.specs.Deeds.{latch}
use Rattle.graphics_visits.proofs.Planes.{all-visited, all-counted}
use Rattle.graphics_visits.proofs.inner.visit.Goals as goal

pub returns-clause-down : goal.returns-clause-down
returns-clause-down c =
    let w : ℕ → Bool = λ p. is_one (bit p c.args.target.planes) in
    all-visited c.args.target.place w (latch c.args.bytes) _ _ _ _ _ c.visit_plane.ensures.down c.visit_plane-2.ensures.down c.visit_plane-3.ensures.down c.visit_plane-4.ensures.down

pub returns-clause-counted : goal.returns-clause-counted
returns-clause-counted c =
    let w : ℕ → Bool = λ p. is_one (bit p c.args.target.planes) in
    all-counted c.args.target.place w (latch c.args.bytes) _ _ _ _ _ c.visit_plane.ensures.down c.visit_plane-2.ensures.down c.visit_plane-3.ensures.down c.visit_plane-4.ensures.down
    c.visit_plane.ensures.counted c.visit_plane-2.ensures.counted c.visit_plane-3.ensures.counted c.visit_plane-4.ensures.counted
