-- The records of a tape, one after the other.
use Prim.Native.Nat.{ℕ, zero, suc, ◌-◌, ◌≤◌, ◌<◌}
use native.Mathlib.Numerals.{sub-one}
use native.Mathlib.Omega.{arith}
use mathlib.Core.Path.{◌≡◌, refl, ap, sym, ◌∙◌}
use mathlib.Core.List.{List, [], ◌∷◌}
use lib.ListN.{length, take, drop, length-drop}
use lib.Seq.{take-length}
use Rattle.std.specs.Prelude.{Ok, Err}
use Rattle.tape_records.specs.declared.records.Whole.{Whole}
use Rattle.tape_records.specs.declared.records.Broken.{Broken}
use Rattle.tape_records.specs.Records.{Record, record_of}
use Rattle.tape_records.proofs.Sizes.{record-fits}
use Rattle.tape_machine.specs.Run.{up_to_stop, records_after, records_of}

records-after : (n : ℕ) (s : List ℕ) → records_after n s ≡ records_of (drop n s)
unfolding records_of records_after
records-after zero s = refl
records-after (suc n) [] = refl
records-after (suc n) (b ∷ s) = records-after n s

pub records_none : (s : List ℕ) → length s ≡ 0 → records_of s ≡ []
unfolding records_of records_after
records_none [] h = refl
records_none (b ∷ s) h = absurd (omega arith)

whole-first : (s : List ℕ) (x : Whole) (n : ℕ) → x.taken ≡ n → 0 < n → 0 < length s → record_of s ≡ Ok x → records_of s ≡ Ok x ∷ records_of (drop n s)
unfolding records_of records_after up_to_stop
whole-first [] x n p k h e = absurd (omega arith)
whole-first (b ∷ s) x zero p k h e = absurd (omega arith)
whole-first (b ∷ s) x (suc m) p k h e = rw e (ap (λ (rs : List Record). Ok x ∷ rs) (rw (p, sub-one (suc m)) (records-after m s)))

broken-first : (s : List ℕ) {x : Broken} → 0 < length s → record_of s ≡ Err x → records_of s ≡ Err x ∷ []
unfolding records_of records_after up_to_stop
broken-first [] h q = absurd (omega arith)
broken-first (b ∷ s) h q = rw q

module _ (s : List ℕ) {r : Record} (some : 0 < length s) (read : r ≡ record_of s) where
  pub taken_fits : {x : Whole} → r ≡ Ok x → x.taken ≤ length s
  taken_fits e = (record-fits s read e).1

  -- a whole record, and those of the rest of the slice
  pub records_whole : {x : Whole} → r ≡ Ok x → records_of s ≡ Ok x ∷ records_of (take (length s - x.taken) (drop x.taken s))
  records_whole {x} e = rw (← length-drop x.taken s, take-length (drop x.taken s)) (whole-first s x x.taken refl (record-fits s read e).0 some (sym read ∙ e))

  pub records_broken : {x : Broken} → r ≡ Err x → records_of s ≡ Err x ∷ []
  records_broken e = broken-first s some (sym read ∙ e)
