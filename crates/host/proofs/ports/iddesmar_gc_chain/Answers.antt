-- A record that is meant: as `chain` of the controller.
use Rattle.machine.specs.Answers.{one}
use Rattle.host_calls.proofs.Laws.{graphics-asked}
use Rattle.host.proofs.ports.iddesmar_gc_chain.Goals as goal

pub returns : goal.returns
returns c = graphics-asked c.args.gc (one 0) _ _ _ c.meant.ensures c.in-Ok.is _ _ c.into.ensures c.chain.ensures
