-- `plane_store` judges and then stores: the machine's store of each kind, by `store-refused` and `store-done`.
use Rattle.std.proofs.Common.{◌≡◌, rules}
use Rattle.machine.specs.Memory.{lent, shape}
use Rattle.machine.specs.Calls.{plane_number}
use Rattle.vram_reads.proofs.Laws.{plane-asked}
use Rattle.vram.proofs.Laws.{store-refused, store-done}
use Rattle.vram.proofs.plane_store.Goals as goal

pub returns-in_err-judge_plane-clause-does : goal.returns-in_err-judge_plane-clause-does
returns-in_err-judge_plane-clause-does c =
    let a = c.args in
    store-refused (lent a.memory.now) a.plane a.offset.0 a.byte a.kind _ c.in_err-judge_plane.field-0.0 (search rules) (search rules)

pub store-requires : goal.store-requires
store-requires c =
    let judged : 0 ≡ plane_number (shape (lent c.args.memory.now)) c.args.plane c.args.offset.0 = search rules in
    plane-asked _ _ _ judged

pub returns-clause-does : goal.returns-clause-does
returns-clause-does c =
    let a = c.args in
    let judged : 0 ≡ plane_number (shape (lent a.memory.now)) a.plane a.offset.0 = search rules in
    store-done (lent a.memory.now) a.plane a.offset.0 a.byte a.kind _ _ judged (search rules) c.store.ensures.stored c.store.ensures.counted
