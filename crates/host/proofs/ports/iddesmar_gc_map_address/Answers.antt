-- A record that is meant: as `map_address` of the controller.
use Rattle.machine.specs.Answers.{two}
use Rattle.host_calls.proofs.Laws.{graphics-asked}
use Rattle.host.proofs.ports.iddesmar_gc_map_address.Goals as goal

pub returns : goal.returns
returns c = rw (← c.is_set.ensures) (graphics-asked c.args.gc (two 0 0) _ _ _ c.meant.ensures c.in-Ok.is _ _ c.into.ensures c.map_address.ensures)
