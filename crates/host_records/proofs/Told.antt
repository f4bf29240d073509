-- What is said tells the answer and the record beside it, and a number which counter goes up: two that say the same are one.
use Prim.Native.Nat.{ℕ}
use mathlib.Core.Path.{◌≡◌, refl, sym, ap, ap₂, ◌∙◌}
use mathlib.Core.List.{[], ◌∷◌}
use lib.ListN.{get_or}
use Rattle.std.specs.Prelude.{Option, None, Some, Result, Ok, Err}
use Rattle.machine_types.specs.declared.answer.After.{After}
use Rattle.machine_types.specs.declared.answer.Refusal.{Refusal}
use Rattle.machine.specs.Answers.{Value, Outcome, outcome, said_by}
use Rattle.machine.proofs.Injective.{answer-of, next_of}
use Rattle.answers.specs.declared.narrow.Answer.{Answer}
use Rattle.answers.specs.Answers.{answer_said}
use Rattle.answers.proofs.Told.{answer-is}
use Rattle.host_records.specs.declared.counter.Counter.{Counter}
use Rattle.host_records.specs.declared.counter.Counter.TheVariants.{Mode0Writes, Mode1Writes, Mode2Writes, Mode3Writes, Mode0Reads, Mode1Reads, RefusedAccesses}
use Rattle.host_records.specs.declared.record.ControllerRecord.{ControllerRecord}
use Rattle.host_records.specs.declared.record.SequencerRecord.{SequencerRecord}
use Rattle.host_records.specs.declared.left.SequencerAnswer.{SequencerAnswer}
use Rattle.host_records.specs.Records.{counter_number, counter_told, answer_number}

pub sequencer-answer-is : {o : Outcome SequencerRecord} (r r' : SequencerAnswer) → outcome (answer_said r.answer) r.seq ≡ o → outcome (answer_said r'.answer) r'.seq ≡ o → r ≡ r'
sequencer-answer-is r r' p q = ap₂ (λ (a : Answer) (s : SequencerRecord). record { answer = a; seq = s }) (answer-is r.answer r'.answer (answer-of p q)) (next_of p q)

pub controller-answer-is : {o : Outcome ControllerRecord} (r r' : After ControllerRecord Answer)
    → outcome (answer_said r.answer) r.next ≡ o → outcome (answer_said r'.answer) r'.next ≡ o → r ≡ r'
controller-answer-is r r' p q =
    ap₂ (λ (a : Answer) (g : ControllerRecord). record { answer = a; next = g }) (answer-is r.answer r'.answer (answer-of p q)) (next_of p q)

-- the number of what is said is the answer's own
pub number-said : {T : Type 0} (value : T → Value) (nothing : Value) (a : Result T Refusal) → (said_by value nothing a).number ≡ answer_number a
number-said value nothing (Ok x) = refl
number-said value nothing (Err r) = refl

-- the counter of a number; none from 7 on
counter_back : ℕ → Option Counter
counter_back n = get_or (Some Mode0Writes ∷ Some Mode1Writes ∷ Some Mode2Writes ∷ Some Mode3Writes ∷ Some Mode0Reads ∷ Some Mode1Reads ∷ Some RefusedAccesses ∷ []) n None

back : (k : Option Counter) → counter_back (counter_told k) ≡ k
unfolding counter_back
back None = refl
back (Some Mode0Writes) = refl
back (Some Mode1Writes) = refl
back (Some Mode2Writes) = refl
back (Some Mode3Writes) = refl
back (Some Mode0Reads) = refl
back (Some Mode1Reads) = refl
back (Some RefusedAccesses) = refl

pub counter-told-apart : (k l : Option Counter) → counter_told k ≡ counter_told l → k ≡ l
counter-told-apart k l e = sym (back k) ∙ ap counter_back e ∙ back l

some-back : (k : Counter) → counter_back (counter_number k) ≡ Some k
some-back k = back (Some k)

pub counter-apart : (k l : Counter) → counter_number k ≡ counter_number l → k ≡ l
counter-apart k l e = cc (counter-told-apart (Some k) (Some l) e)
