-- What each answer of the code says of an argument and of a record.
use Prim.Native.Nat.{ℕ, zero, suc, ◌+◌, ◌-◌, ◌≤◌, ◌<◌}
use native.Mathlib.Omega.{arith}
use mathlib.Core.Path.{◌≡◌, refl, ap, sym, ◌∙◌}
use mathlib.Core.Bool.{Bool, true, false}
use mathlib.Core.List.{List}
use lib.Dec.{eqb, leb}
use lib.ListN.{length, take, drop, length-drop}
use lib.Seq.{take-length}
use borrow.Author.Tests.{ne_eqb, lt-leb, le-leb}
use Rattle.std.specs.Prelude.{Some, Result, Ok, Err, IsErrAnd}
use Rattle.bits.specs.Bit.{bit_of}
use Rattle.tape_numbers.specs.declared.Number.{Number}
use Rattle.tape_numbers.specs.declared.NumberFault.{NumberFault}
use Rattle.tape_numbers.specs.Numbers.{limit32, Reading, number_of}
use Rattle.tape_numbers.proofs.Sizes.{number_fits}
use Rattle.tape_records.specs.declared.arguments.Arguments.{Arguments}
use Rattle.tape_records.specs.declared.records.Command.{Command}
use Rattle.tape_records.specs.declared.records.Command.TheVariants.{Reset, Read, Write, Peek}
use Rattle.tape_records.specs.declared.records.Fault.{Fault}
use Rattle.tape_records.specs.declared.records.Fault.TheVariants.{Range}
use Rattle.tape_records.specs.Records.{good, Record, whole, broken, arguments, greatest_of, fault_of, judged, argument_of, command_of, goes_on, third_of, second_of, first_of, started, record_of}
use Rattle.tape_records.proofs.Sizes.{argument_fits}
use Rattle.tape_records.specs.Arguments.{took, Reads, made}

-- an error that a `?` passes on
pub err_so : {T E : Type 0} (r : Result T E) {e : E} → IsErrAnd r (λ g. g ≡ e) → r ≡ Err e
err_so (Ok x) h = absurd h
err_so (Err g) h = ap Err h

-- the rest of a slice
pub rest_of : (s : List ℕ) (at : ℕ) → take (length s - at) (drop at s) ≡ drop at s
rest_of s at = rw (← length-drop at s) (take-length (drop at s))

-- the number that was read for an argument of at most `most`, judged
module _ (most : ℕ) (old : Arguments) {r : Reading} (nonzero : 0 < most)
    (read : r ≡ number_of limit32 (take (length old.tape.now - old.taken) (drop old.taken old.tape.now))) where
  read-rest : r ≡ number_of limit32 (drop old.taken old.tape.now)
  read-rest = rw (← rest_of old.tape.now old.taken) read

  judged_so : {x : Reading} → r ≡ x → argument_of most (drop old.taken old.tape.now) ≡ judged most x
  unfolding argument_of
  judged_so q = rw (ne_eqb most 0 (λ e. omega arith), sym read-rest, q)

  pub bad_number : (q : Result ℕ Fault) {f : NumberFault} → r ≡ Err f → IsErrAnd q (λ g. g ≡ fault_of f) → Reads (λ x. x) most old old q
  unfolding judged
  bad_number q e k = record { same = refl; so = judged_so e ∙ ap (took (λ x. x) old.taken old.taken) (sym (err_so q k)); forward = omega arith }

  module _ {x : Number} (e : r ≡ Ok x) where
    pub too_large : most < x.value → Reads {A = ℕ} (λ x. x) most old old (Err Range)
    unfolding judged
    too_large h = record { same = refl; so = judged_so e ∙ rw (lt-leb _ _ h); forward = omega arith }

    pub fits : old.taken + x.taken ≤ length old.tape.now
    fits = let h = number_fits limit32 _ read-rest e in omega (arith, h.1, old.within, length-drop old.taken old.tape.now)

    pub in_range : (new : Arguments) → new.tape ≡ old.tape → new.taken ≡ old.taken + x.taken → x.value ≤ most → Reads (λ x. x) most old new (Ok x.value)
    unfolding judged
    in_range new t n h = record { same = t; so = judged_so e ∙ rw (le-leb _ _ h) (ap (good x.value) (omega arith)); forward = omega arith }

-- a good argument is in range
module _ (most : ℕ) {old new : Arguments} {v : ℕ} (reads : Reads (λ x. x) most old new (Ok v)) where
  pub small : v ≤ most
  small = (argument_fits most _ (sym reads.so) refl).0

-- a page's is 1 or 0
pub page_so : {old new : Arguments} (v : ℕ) → Reads (λ x. x) 1 old new (Ok v) → Reads bit_of 1 old new (Ok (eqb v 1))
page_so zero reads = record { same = reads.same; so = reads.so; forward = reads.forward }
page_so (suc zero) reads = record { same = reads.same; so = reads.so; forward = reads.forward }
page_so (suc (suc v)) reads = absurd (omega (arith, small 1 reads))

pub read_so : (a n : ℕ) (page : Bool) → whole (command_of 5 a (bit_of page) 0) n ≡ whole (Read a page) n
unfolding command_of
read_so a n true = refl
read_so a n false = refl

pub write_so : (a x n : ℕ) (page : Bool) → whole (command_of 6 a (bit_of page) x) n ≡ whole (Write a page x) n
unfolding command_of
write_so a x n true = refl
write_so a x n false = refl

pub peek_so : (a n : ℕ) (page : Bool) → whole (command_of 7 a (bit_of page) 0) n ≡ whole (Peek a page) n
unfolding command_of
peek_so a n true = refl
peek_so a n false = refl

-- arguments that an operation has not
module _ (s : List ℕ) (o a at : ℕ) where
  pub no_second : greatest_of o 1 ≡ 0 → second_of s o a at ≡ third_of s o a 0 at
  unfolding second_of argument_of goes_on
  no_second e = rw e (ap (third_of s o a 0) (omega arith))

  pub no_third : (b : ℕ) → greatest_of o 2 ≡ 0 → third_of s o a b at ≡ whole (command_of o a b 0) at
  unfolding third_of argument_of goes_on
  no_third b e = rw e (ap (whole (command_of o a b 0)) (omega arith))

pub at_reset : (s : List ℕ) (at : ℕ) → first_of s 0 at ≡ whole Reset at
unfolding first_of second_of third_of argument_of goes_on arguments greatest_of command_of
at_reset s at = ap (whole Reset) (omega arith)

pub out_of_range : (s : List ℕ) (o at : ℕ) → 8 < o → first_of s o at ≡ broken (Some o) Range
unfolding first_of
out_of_range s o at h = rw (lt-leb o 8 h)

-- an argument that was read, of tape s
module _ (s : List ℕ) (o : ℕ) {A : Type 0} (number : A → ℕ) {most : ℕ} {old new : Arguments} {r : Result A Fault} (reads : Reads number most old new r) (same : old.tape.now ≡ s) where
  good-next : (x : A) (then : ℕ → ℕ → Record) → r ≡ Ok x → goes_on o (argument_of most (drop old.taken s)) then ≡ then (number x) (new.taken - old.taken)
  unfolding goes_on
  good-next x then e = rw (sym same, reads.so, e)

  bad-next : (f : Fault) (then : ℕ → ℕ → Record) → r ≡ Err f → goes_on o (argument_of most (drop old.taken s)) then ≡ broken (Some o) f
  unfolding goes_on
  bad-next f then e = rw (sym same, reads.so, e)

  behind : old.taken + (new.taken - old.taken) ≡ new.taken
  behind = omega (arith, reads.forward)

  pub first_ok : (x : A) → r ≡ Ok x → leb o 8 ≡ true → greatest_of o 0 ≡ most → first_of s o old.taken ≡ second_of s o (number x) new.taken
  unfolding first_of
  first_ok x e h m = rw (h, m, good-next x _ e, behind)

  pub first_err : (q : Result Command Fault) (n : ℕ) {f : Fault} → r ≡ Err f → IsErrAnd q (λ g. g ≡ f) → leb o 8 ≡ true → greatest_of o 0 ≡ most → first_of s o old.taken ≡ made o n q
  unfolding first_of
  first_err q n {f} e k h m = rw (h, m, bad-next f _ e) (ap (made o n) (sym (err_so q k)))

  pub second_ok : (a : ℕ) (x : A) → r ≡ Ok x → greatest_of o 1 ≡ most → second_of s o a old.taken ≡ third_of s o a (number x) new.taken
  unfolding second_of
  second_ok a x e m = rw (m, good-next x _ e, behind)

  pub second_err : (a : ℕ) (q : Result Command Fault) (n : ℕ) {f : Fault} → r ≡ Err f → IsErrAnd q (λ g. g ≡ f) → greatest_of o 1 ≡ most → second_of s o a old.taken ≡ made o n q
  unfolding second_of
  second_err a q n {f} e k m = rw (m, bad-next f _ e) (ap (made o n) (sym (err_so q k)))

  pub third_ok : (a b : ℕ) (x : A) → r ≡ Ok x → greatest_of o 2 ≡ most → third_of s o a b old.taken ≡ whole (command_of o a b (number x)) new.taken
  unfolding third_of
  third_ok a b x e m = rw (m, good-next x _ e, behind)

  pub third_err : (a b : ℕ) (q : Result Command Fault) (n : ℕ) {f : Fault} → r ≡ Err f → IsErrAnd q (λ g. g ≡ f) → greatest_of o 2 ≡ most → third_of s o a b old.taken ≡ made o n q
  unfolding third_of
  third_err a b q n {f} e k m = rw (m, bad-next f _ e) (ap (made o n) (sym (err_so q k)))

-- an operation that was read
pub started_so : (s : List ℕ) {r x : Reading} → r ≡ number_of limit32 s → r ≡ x → started s x ≡ record_of s
unfolding record_of
started_so s p q = rw (sym p, q)
