-- A record takes at least one byte, and no more than there are; a good argument is in range.
use Prim.Native.Nat.{ℕ, ◌+◌, ◌≤◌, ◌<◌}
use native.Mathlib.Omega.{arith}
use mathlib.Core.Path.{◌≡◌, sym, subst, ◌∙◌}
use mathlib.Core.List.{List}
use lib.Dec.{eqb, leb}
use lib.ListN.{length, drop, length-drop}
use borrow.Author.Tests.{leb-true}
use Rattle.std.specs.Prelude.{Ok, Err}
use Rattle.tape_numbers.specs.Numbers.{limit32, Reading}
use Rattle.tape_numbers.proofs.Sizes.{either, Within, number-within}
use Rattle.tape_records.specs.declared.records.Command.{Command}
use Rattle.tape_records.specs.Records.{Argument, good, Record, whole, judged, argument_of, goes_on, third_of, second_of, first_of, started, record_of}

-- ---- arguments

-- in range, at most k bytes
abbrev pub InRange : ℕ → ℕ → Argument → Type 0
InRange most k (Ok x) = (x.value ≤ most) × (x.taken ≤ k)
InRange most k (Err f) = Unit

judged-sound : (most k : ℕ) (x : Reading) → Within k x → InRange most k (judged most x)
unfolding judged
judged-sound most k (Ok x) h = either (InRange most k) (leb x.value most) (λ e. (leb-true x.value most e, h.1)) (λ e. tt)
judged-sound most k (Err f) h = tt

argument-sound : (most : ℕ) (s : List ℕ) → InRange most (length s) (argument_of most s)
unfolding argument_of
argument-sound most s = either (InRange most (length s)) (eqb most 0) (λ e. (omega arith, omega arith)) (λ e. judged-sound most (length s) _ (number-within limit32 s))

-- ---- records

abbrev pub Taken : ℕ → Record → Type 0
Taken k (Ok r) = (0 < r.taken) × (r.taken ≤ k)
Taken k (Err r) = Unit

next-taken : (o most k m : ℕ) (x : Argument) (then : ℕ → ℕ → Record) → InRange most m x → ((v n : ℕ) → n ≤ m → Taken k (then v n)) → Taken k (goes_on o x then)
unfolding goes_on
next-taken o most k m (Ok x) then h f = f x.value x.taken h.1
next-taken o most k m (Err e) then h f = tt

third-taken : (s : List ℕ) (o a b at : ℕ) → 0 < at → at ≤ length s → Taken (length s) (third_of s o a b at)
unfolding third_of
third-taken s o a b at p h = next-taken o _ _ _ _ _ (argument-sound _ (drop at s)) λ c n k. (omega arith, omega (arith, length-drop at s))

second-taken : (s : List ℕ) (o a at : ℕ) → 0 < at → at ≤ length s → Taken (length s) (second_of s o a at)
unfolding second_of
second-taken s o a at p h = next-taken o _ _ _ _ _ (argument-sound _ (drop at s)) λ b n k. third-taken s o a b (at + n) (omega arith) (omega (arith, length-drop at s))

first_taken : (s : List ℕ) (o at : ℕ) → 0 < at → at ≤ length s → Taken (length s) (first_of s o at)
unfolding first_of
first_taken s o at p h =
    either (Taken (length s)) (leb o 8) (λ e.
    next-taken o _ _ _ _ _ (argument-sound _ (drop at s)) λ a n k. second-taken s o a (at + n) (omega arith) (omega (arith, length-drop at s))) (λ e. tt)

started-taken : (s : List ℕ) (x : Reading) → Within (length s) x → Taken (length s) (started s x)
unfolding started
started-taken s (Ok x) h = first_taken s x.value x.taken h.0 h.1
started-taken s (Err f) h = tt

record-taken : (s : List ℕ) → Taken (length s) (record_of s)
unfolding record_of
record-taken s = started-taken s _ (number-within limit32 s)

-- ---- as the code's answers have it

pub argument_fits : (most : ℕ) (s : List ℕ) {r : Argument} {v n : ℕ} → r ≡ argument_of most s → r ≡ good v n → (v ≤ most) × (n ≤ length s)
argument_fits most s p q = subst (InRange most (length s)) (sym p ∙ q) (argument-sound most s)

pub record-fits : (s : List ℕ) {r : Record} {f : Command} {n : ℕ} → r ≡ record_of s → r ≡ whole f n → (0 < n) × (n ≤ length s)
record-fits s p q = subst (Taken (length s)) (sym p ∙ q) (record-taken s)
