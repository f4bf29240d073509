-- `write_planes` does the mode's deed: nothing where no plane is stored, else the bytes laid by `visit` and the pixels remade once.
use native.Mathlib.Omega.{arith}
use mathlib.Core.Path.{ap, ◌∙◌}
use Rattle.machine_types.specs.declared.gc.WriteMode.{WriteMode}
use Rattle.machine.specs.Graphics.{write_mode}
use Rattle.machine.specs.Calls.{write_deed}
use Rattle.machine.specs.Deeds.{remade, memory_after}
use Rattle.machine.specs.Memory.{lent}
use Rattle.machine.specs.Answers.{changed_value}
use Rattle.machine.proofs.Laws.{laid_within, stored-at-le}
use Rattle.machine.proofs.Changes.{none-changed}
use Rattle.graphics_visits.proofs.Planes.{write-none, write-some, write-numbers}
use Rattle.graphics_visits.proofs.inner.write_planes.Goals as goal

pub returns-then-none-clause-stored : goal.returns-then-none-clause-stored
returns-then-none-clause-stored c =
    let a = c.args in
    let r = a.gc.registers in
    write-none (write_mode r) r a.seq a.address a.at a.byte a.gc.latches _ _ c.target_of-target.ensures.0 c.if-none.true

pub returns-then-none-clause-counted : goal.returns-then-none-clause-counted
returns-then-none-clause-counted c = ap changed_value c.unchanged.ensures ∙ none-changed _ _

pub visit-changed-requires : goal.visit-changed-requires
visit-changed-requires c =
    (c.requires.0, omega (arith, stored-at-le c.args.seq c.args.at, c.target_of-target.ensures.1))

pub remake-requires : goal.remake-requires
remake-requires c =
    let place = c.target_of-target.result.place in
    laid_within place _ _ (lent c.args.memory.now) _ place c.visit-changed.ensures.down c.requires.0
    (omega (arith, stored-at-le c.args.seq c.args.at, c.target_of-target.ensures.1))

pub returns-clause-stored : goal.returns-clause-stored
returns-clause-stored c =
    let a = c.args in
    let m = lent a.memory.now in
    let r = a.gc.registers in
    c.remake.ensures.does
    ∙ ap (remade c.target_of-target.result.place) c.visit-changed.ensures.down
    -- the bytes laid and the pixels remade are the mode's deed
    ∙ write-some c.write_mode-mode.result r a.seq a.address a.at a.byte a.gc.latches m _ _ _
    c.target_of-target.ensures.0 c.if-none.false c.plane_bytes-bytes.ensures c.target_of-target.ensures.1
    ∙ ap (λ (w : WriteMode). memory_after (write_deed w r a.seq a.address a.at a.byte) a.gc.latches m) c.write_mode-mode.ensures

pub returns-clause-counted : goal.returns-clause-counted
returns-clause-counted c =
    write-numbers _ _ _ _ _ _ c.visit-changed.ensures.counted c.remake.ensures.does c.target_of-target.ensures.1
