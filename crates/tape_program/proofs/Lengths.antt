-- An array keeps its length, and what a run writes is a part of the array that it was lent.
use Rattle.std.proofs.Common.{◌≡◌, ℕ, ◌*◌, ◌≤◌, Bool, true, false, leb, List, sym, ap, ◌∙◌, length, take, replicate, refl, arith}
use Rattle.std.proofs.lemmas.List.{length-replicate, length-take-le}
use borrow.Author.Tests.{leb-true}
use Rattle.bits.specs.Bit.{pick}
use Rattle.machine.specs.Step.{State}
use Rattle.tape_machine.specs.declared.ran.Ran.{Ran}
use Rattle.tape_machine.specs.Run.{longest, TapeRun, played_of, run_of}
use Rattle.tape_machine.specs.Program.{tape_start, Printed, printed, printed_of}
use Rattle.tape_machine.proofs.Room.{enough-room}

-- what has the length of an array of n bytes has n of them
pub of_length : (n : ℕ) {m : ℕ} → m ≡ length (replicate {A = ℕ} n 0) → n ≡ m
of_length n e = sym (e ∙ length-replicate n 0)

-- a property of both branches of a choice
either : {A : Type 0} (P : A → Type 0) (t : Bool) {x y : A} → (t ≡ true → P x) → P y → P (pick t x y)
either P true f g = f refl
either P false f g = g

-- a run's lines have room
run-fits : (tape : List ℕ) (s : State) (out : List ℕ) → (run_of tape s out).ran.written ≤ length out
unfolding run_of played_of
run-fits tape s out = either (λ (r : TapeRun). r.ran.written ≤ length out) (leb (longest * length tape) (length out)) (λ e. enough-room s tape (length out) (leb-true _ _ e)) (omega arith)

module _ (tape out out' : List ℕ) {r : Ran} (same : length out' ≡ length out) (ran : printed r out' ≡ printed_of tape out) where
  pub written_fits : r.written ≤ length out'
  unfolding printed_of
  written_fits = rw (same, ap (λ (p : Printed). p.ran.written) ran) (run-fits tape tape_start out)

  pub part_length : r.written ≡ length (take r.written out')
  part_length = sym (length-take-le r.written out' written_fits)
