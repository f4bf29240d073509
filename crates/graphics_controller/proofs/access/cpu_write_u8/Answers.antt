-- `cpu_write_u8` answers as the machine: refused by the judge's number, else the mode's deed done and one counter raised.
use Rattle.machine.specs.Memory.{lent}
use Rattle.machine.proofs.Laws.{refusal-some}
use Rattle.graphics_controller.proofs.Accesses.{located, unlocated, write-refused, write_done}
use Rattle.graphics_controller.proofs.access.cpu_write_u8.Goals as goal

pub write_planes-changed-requires : goal.write_planes-changed-requires
write_planes-changed-requires c =
    let l = located _ _ (lent c.args.memory.now) _ _ c.shape.ensures c.judge_access.ensures _ _ c.in-Ok.is in
    (l.shaped, (l.within, (l.fits-seq, l.bit0)))

pub returns-in-Err-clause-does : goal.returns-in-Err-clause-does
returns-in-Err-clause-does c =
    let a = c.args in
    write-refused a.gc a.seq (lent a.memory.now) a.address a.page a.byte _ _ (refusal-some c.in-Err.refusal) (unlocated _ _ _ _ _ c.shape.ensures c.judge_access.ensures _ c.in-Err.is) c.turned_away.ensures

pub returns-in-Ok-clause-does : goal.returns-in-Ok-clause-does
returns-in-Ok-clause-does c =
    let a = c.args in
    let l = located _ _ (lent a.memory.now) _ _ c.shape.ensures c.judge_access.ensures _ _ c.in-Ok.is in
    write_done a.gc a.seq (lent a.memory.now) a.address a.page a.byte _ _ _ _ _ l.accepted l.offset c.write_done.ensures c.write_planes-changed.ensures.stored c.write_planes-changed.ensures.counted
