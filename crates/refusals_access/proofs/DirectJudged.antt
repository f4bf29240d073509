-- A direct call by plane that `judge_direct` accepts.
use Prim.Native.Nat.{ℕ, ◌<◌, ◌≤◌}
use mathlib.Core.Path.{◌≡◌, sym}
use mathlib.Core.Bool.{true}
use Rattle.machine_types.specs.declared.seq.Sequencer.{Sequencer}
use Rattle.machine_types.specs.declared.shape.Shape.{Shape}
use Rattle.machine.specs.Memory.{size, Sound}
use Rattle.machine.specs.Sequencer.{fits_seq}
use Rattle.machine.specs.Calls.{refuse, plane_number}
use Rattle.machine.proofs.Laws.{refuse-0, plane-accepted}

module _ (s : Sequencer) (h : Shape) (p o : ℕ) (e : 0 ≡ refuse (fits_seq s) 6 (plane_number h p o)) where
  pub record_fits : fits_seq s ≡ true
  record_fits = (refuse-0 (fits_seq s) 5 (plane_number h p o) (sym e)).0

  -- what an inner function asks
  pub plane_asked : Sound h × ((o < size h) × (p ≤ 3))
  plane_asked = let a = plane-accepted h p o (refuse-0 (fits_seq s) 5 (plane_number h p o) (sym e)).1 in (a.shaped, (a.offset, a.plane))
