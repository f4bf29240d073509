-- Numbers written and read: a number in its shortest form is read back, and whatever is read is a number below its limit in its shortest form.
use Prim.Native.Nat.{ℕ, zero, suc, ◌+◌, ◌-◌, ◌*◌, ◌/◌, ◌%◌, ◌^◌, ◌≤◌, ◌<◌}
use native.Mathlib.Nat.{div-lt_iff_lt-mul, pow-suc, lt_of_not-le, mul-div-le}
use native.Mathlib.Decide.{dec_le}
use native.Mathlib.Omega.{arith}
use mathlib.Core.Path.{◌≡◌, refl, ap, ap₂, sym, subst}
use mathlib.Core.Bool.{Bool, true, false}
use mathlib.Core.List.{List, [], ◌∷◌, ◌++◌}
use lib.Dec.{eqb, ltb, leb, lit<}
use lib.ListN.{length, take}
use borrow.Author.Tests.{lt-ltb, le-ltb, lt-leb, ne_eqb, ltb-true, ltb-false, leb-false, eqb-true, eqb-false}
use Rattle.bits.specs.Bit.{pick}
use Rattle.std.specs.Prelude.{Ok, Err}
use Rattle.tape_numbers.specs.declared.NumberFault.TheVariants.{Damaged}
use Rattle.tape_numbers.specs.Numbers.{limit32, Reading, read, on_top, last_group, groups, number_of, shortest_form}
use Rattle.tape_numbers.proofs.Sizes.{either}

-- what a group may be: any number where none went before, else none that is 0
abbrev Allowed : Bool → ℕ → Type 0
Allowed true v = Unit
Allowed false v = 0 < v

-- ---- written, then read

-- a limit that cuts no group in the middle, as 2^32
data Whole : ℕ → Type 0 where
  one : {l : ℕ} → l ≤ 128 → Whole l
  more : {m : ℕ} → 2 ≤ m → Whole m → Whole (128 * m)

last-back : (first : Bool) (v : ℕ) → Allowed first v → last_group first v ≡ read v 1
unfolding last_group
last-back true zero h = refl
last-back true (suc v) h = rw (ne_eqb (suc v) 0 (λ q. omega arith))
last-back false zero h = absurd (omega arith)
last-back false (suc v) h = rw (ne_eqb (suc v) 0 (λ q. omega arith))

-- a number of one group
short_back : (k : ℕ) (first : Bool) (limit v : ℕ) (rest : List ℕ) → v < 128 → v < limit → Allowed first v
    → groups first limit (shortest_form (suc k) v ++ rest) ≡ read v (length (shortest_form (suc k) v))
unfolding shortest_form groups
short_back k first limit v rest h l f = rw (lt-ltb v 128 h, lt-leb limit v l, lt-ltb v 128 h) (last-back first v f)

-- a number of more, once the others are read back
long-back : (k : ℕ) (first : Bool) (m v : ℕ) (rest : List ℕ) → 2 ≤ m → 128 ≤ v → groups false m (shortest_form k (v / 128) ++ rest) ≡ read (v / 128) (length (shortest_form k (v / 128)))
    → groups first (128 * m) (shortest_form (suc k) v ++ rest) ≡ read v (length (shortest_form (suc k) v))
unfolding shortest_form groups on_top
long-back k first m v rest h l e =
    let a : 128 + v % 128 < 128 * m = omega arith in
    let b : 128 ≤ 128 + v % 128 = omega arith in
    let d : 128 * m / 128 ≡ m = omega arith in
    rw (le-ltb v 128 l, lt-leb (128 * m) (128 + v % 128) a, le-ltb (128 + v % 128) 128 b, d, e) (ap₂ read (omega arith) (omega arith))

back : (k : ℕ) (first : Bool) (limit v : ℕ) (rest : List ℕ) → Whole limit → v < 128 ^ suc k → v < limit → Allowed first v
    → groups first limit (shortest_form (suc k) v ++ rest) ≡ read v (length (shortest_form (suc k) v))
back zero first limit v rest e h l f = let a : v < 128 = h in short_back zero first limit v rest a l f
back (suc k) first limit v rest (one s) h l f = short_back (suc k) first limit v rest (omega arith) l f
back (suc k) first limit v rest (more {m} t e) h l f =
    let d : v / 128 < 128 ^ suc k = (div-lt_iff_lt-mul (lit< tt)).1 (rw pow-suc at h) in
    elim (dec_le 128 v) [
      | yes o ↦ long-back (suc k) first m v rest t o (back k false m (v / 128) rest e d (omega arith) (omega arith))
      | no o ↦ short_back (suc k) first (128 * m) v rest (lt_of_not-le o) l f
    ]

whole-32 : Whole limit32
whole-32 = more {m = 33554432} (omega arith) (more {m = 262144} (omega arith) (more {m = 2048} (omega arith) (more {m = 16} (omega arith) (one {l = 16} (omega arith)))))

-- a number written and read back is the number, and its bytes are those that were written, whatever follows
pub number-back : (v : ℕ) (rest : List ℕ) → v < limit32 → number_of limit32 (shortest_form 5 v ++ rest) ≡ read v (length (shortest_form 5 v))
unfolding number_of
number-back v rest h = back 4 true limit32 v rest whole-32 (omega arith) h tt

-- ---- read, then written

pub data Bytes : List ℕ → Type 0 where
  none : Bytes []
  byte : {b : ℕ} {s : List ℕ} → b < 256 → Bytes s → Bytes (b ∷ s)

-- a number that was read is below its limit and stands in its shortest form, wherever there is room for it
abbrev Shortest : Bool → ℕ → List ℕ → Reading → Type 0
Shortest first limit s (Ok x) = Allowed first x.value × (x.value < limit) × ((k : ℕ) → x.taken ≤ k → shortest_form k x.value ≡ take x.taken s)
Shortest first limit s (Err f) = Unit

allowed-some : (first : Bool) (v : ℕ) → 0 < v → Allowed first v
allowed-some true v h = tt
allowed-some false v h = h

last_written : (b : ℕ) (s : List ℕ) → b < 128 → (k : ℕ) → 1 ≤ k → shortest_form k b ≡ take 1 (b ∷ s)
unfolding shortest_form
last_written b s h zero l = absurd (omega arith)
last_written b s h (suc k) l = rw (lt-ltb b 128 h)

more-written : (b v n : ℕ) (s : List ℕ) → 128 ≤ b → b < 256 → 0 < v → ((k : ℕ) → n ≤ k → shortest_form k v ≡ take n s)
    → (k : ℕ) → 1 + n ≤ k → shortest_form k (b - 128 + 128 * v) ≡ take (1 + n) (b ∷ s)
unfolding shortest_form
more-written b v n s h o p f zero l = absurd (omega arith)
more-written b v n s h o p f (suc k) l =
    let a : 128 ≤ b - 128 + 128 * v = omega arith in
    let q : (b - 128 + 128 * v) / 128 ≡ v = omega arith in
    let r : 128 + (b - 128 + 128 * v) % 128 ≡ b = omega arith in
    let e : 1 + n ≡ suc n = omega arith in
    rw (le-ltb (b - 128 + 128 * v) 128 a, q, r, e) (ap (λ (t : List ℕ). b ∷ t) (f k (omega arith)))

module _ (first : Bool) (limit b : ℕ) (s : List ℕ) where
  on-top-shortest : (x : Reading) → 128 ≤ b → b < 256 → Shortest false (limit / 128) s x → Shortest first limit (b ∷ s) (on_top (b - 128) 128 1 x)
  unfolding on_top
  on-top-shortest (Ok x) h o (p, l, f) =
      (allowed-some first (b - 128 + 128 * x.value) (omega arith), omega (arith, mul-div-le limit 128), more-written b x.value x.taken s h o p f)
  on-top-shortest (Err f) h o p = tt

  last-shortest : b < limit → b < 128 → Shortest first limit (b ∷ s) (last_group first b)
  unfolding last_group
  last-shortest l h = either (Shortest first limit (b ∷ s)) (eqb b 0) (λ z. nought first (eqb-true b 0 z)) (λ z. (allowed-some first b (some b (eqb-false b 0 z)), l, last_written b s h))
    where
      some : (b : ℕ) → (b ≡ 0 → ⊥) → 0 < b
      some zero n = absurd (n refl)
      some (suc b) n = omega arith

      nought : (first : Bool) → b ≡ 0 → Shortest first limit (b ∷ s) (pick first (read 0 1) (Err Damaged))
      nought true e = (tt, omega arith, λ k m. rw (sym e) (last_written b s h k m))
      nought false e = tt

forth : (first : Bool) (limit : ℕ) (s : List ℕ) → Bytes s → Shortest first limit s (groups first limit s)
unfolding groups
forth first limit [] none = tt
forth first limit (b ∷ s) (byte o r) =
    either (Shortest first limit (b ∷ s)) (leb limit b) (λ e. tt) λ e.
    either (Shortest first limit (b ∷ s)) (ltb b 128) (λ h. last-shortest first limit b s (leb-false limit b e) (ltb-true b 128 h)) λ h.
    on-top-shortest first limit b s _ (ltb-false b 128 h) o (forth false (limit / 128) s r)

-- what is read as a number is a number of the tape, and its bytes are that number written
pub number-forth : (s : List ℕ) (v n : ℕ) → Bytes s → number_of limit32 s ≡ read v n → (v < limit32) × (shortest_form n v ≡ take n s)
unfolding number_of
number-forth s v n h e =
    let f = subst (Shortest true limit32 s) e (forth true limit32 s h) in
    (f.1, f.2 n (omega arith))
