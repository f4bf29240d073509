-- A record that is meant: as `odd_even` of the controller.
use Rattle.machine.specs.Answers.{one}
use Rattle.host_calls.proofs.Laws.{graphics-asked}
use Rattle.host.proofs.ports.iddesmar_gc_odd_even.Goals as goal

pub returns : goal.returns
returns c = graphics-asked c.args.gc (one 0) _ _ _ c.meant.ensures c.in-Ok.is _ _ c.into.ensures c.odd_even.ensures
