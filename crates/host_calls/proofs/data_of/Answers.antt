-- Accepted data: the selected register alone is stored.
use mathlib.Core.Path.{refl, ap, ◌∙◌, sym}
use Rattle.machine.specs.Answers.{one, outcome, said, done_said}
use Rattle.host_calls.proofs.Laws.{meant_of, data-done}
use Rattle.host_calls.proofs.data_of.Goals as goal

pub returns-in-Ok-answer : goal.returns-in-Ok-answer
returns-in-Ok-answer c =
    let a = c.args in
    let m = meant_of _ _ _ _ c.meant.ensures c.in-Ok.is in
    rw (c.done.ensures, c.data_of-value.ensures) (data-done a.gc (one 0) a.byte m.0 (said 0 (one 0)) c.write_data-left.result.next
    (ap (λ x. outcome (done_said x) c.write_data-left.result.next) (sym c.in-Ok-answer.is) ∙ rw (← m.1) c.write_data-left.ensures) refl)
