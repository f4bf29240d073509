-- `plane_store` let through by the mask: the machine's store of each kind.
use Rattle.std.proofs.Common.{◌≡◌, rules}
use Rattle.machine.specs.Memory.{lent, shape}
use Rattle.machine.specs.Sequencer.{fits_seq}
use Rattle.machine.specs.Calls.{refuse, plane_number}
use Rattle.sequencer.proofs.DirectLaws.{let_through}
use Rattle.sequencer.proofs.direct.plane_store.Goals as goal

pub returns-clause-does : goal.returns-clause-does
returns-clause-does c =
    let a = c.args in
    let judged : 0 ≡ refuse (fits_seq a.seq) 6 (plane_number (shape (lent a.memory.now)) a.plane a.offset.0) = search rules in
    search (rules, let_through)
