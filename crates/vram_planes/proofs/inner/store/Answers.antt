-- `store` leaves the byte laid and its pixels remade, and answers for its plane: by the contracts of `lay`, `remake` and `in_plane`.
use Rattle.machine.specs.Memory.{lent}
use Rattle.machine.proofs.Laws.{laid_within}
use Rattle.vram_planes.proofs.Counts.{one_stored}
use Rattle.vram_planes.proofs.inner.store.Goals as goal

pub remake-requires : goal.remake-requires
remake-requires c =
    laid_within c.args.at _ _ (lent c.args.memory.now) _ c.args.at c.lay-number.ensures.down c.requires.0 c.requires.1.0

pub returns-clause-counted : goal.returns-clause-counted
returns-clause-counted c =
    let a = c.args in
    (one_stored a.at a.plane _ (lent a.memory.now) _ c.requires.0 c.requires.1.0 c.lay-number.ensures.down _ c.lay-number.ensures.counted _ _ c.remake.ensures.does c.in_plane.ensures).1
