-- What a judge answered, at the arm that a `match` on its answer took.
use Rattle.std.proofs.Common.{◌≡◌, ℕ, sym, ap, ◌∙◌}
use Rattle.std.specs.Prelude.{Result}
use Rattle.machine_types.specs.declared.answer.Refusal.{Refusal}
use Rattle.machine.specs.Answers.{done_said}

pub as-told : {d d' : Result Unit Refusal} {n : ℕ} → d ≡ d' → (done_said d).number ≡ n → (done_said d').number ≡ n
as-told e h = sym (ap (λ (d : Result Unit Refusal). (done_said d).number) e) ∙ h
