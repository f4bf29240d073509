-- An accepted record is left as `write_address` of what it means leaves it.
use Rattle.machine.specs.Answers.{one}
use Rattle.machine.specs.Calls.{gc_write_address}
use Rattle.host_calls.proofs.Laws.{meant_of, graphics-known}
use Rattle.host_calls.proofs.address_of.Goals as goal

pub returns : goal.returns
returns c =
    let m = meant_of _ _ _ _ c.meant.ensures c.in-Ok.is in
    graphics-known c.args.gc (one 0) (gc_write_address c.args.byte) m.0 _ _ _ c.of_graphics_left.ensures (rw (← m.1) c.write_address.ensures)
