-- `cpu_read_u8` answers as the machine: refused by the judge's number, else from the latches that it loads, with one counter raised.
use Rattle.std.proofs.Common.{arith}
use Rattle.machine.proofs.Laws.{refusal-some, stored-at-le}
use Rattle.machine.specs.Memory.{seen}
use Rattle.graphics_controller.proofs.Accesses.{located, unlocated, read-refused, read_done}
use Rattle.graphics_controller.proofs.access.cpu_read_u8.Goals as goal

pub load-latches-requires : goal.load-latches-requires
load-latches-requires c =
    let l = located _ _ (seen c.args.memory.now) _ _ c.shape.ensures c.judge_access.ensures _ _ c.in-Ok.is in
    (l.shaped, omega (arith, c.stored_at-at.ensures, stored-at-le c.args.seq c.in-Ok.found.0, l.within))

pub read_done-requires : goal.read_done-requires
read_done-requires c =
    (located _ _ (seen c.args.memory.now) _ _ c.shape.ensures c.judge_access.ensures _ _ c.in-Ok.is).map-select

pub returns-in-Err : goal.returns-in-Err
returns-in-Err c =
    let a = c.args in
    read-refused a.gc a.seq (seen a.memory.now) a.address a.page _ _ (refusal-some c.in-Err.refusal) (unlocated _ _ _ _ _ c.shape.ensures c.judge_access.ensures _ c.in-Err.is) c.turned_away.ensures

pub returns-in-Ok : goal.returns-in-Ok
returns-in-Ok c =
    let a = c.args in
    let l = located _ _ (seen a.memory.now) _ _ c.shape.ensures c.judge_access.ensures _ _ c.in-Ok.is in
    read_done a.gc a.seq (seen a.memory.now) a.address a.page _ _ _ _ _ l.accepted l.offset c.stored_at-at.ensures c.load-latches.ensures c.read_done.ensures
