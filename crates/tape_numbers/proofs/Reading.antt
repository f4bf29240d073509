-- What holds in each turn of the loop that reads a number, and what each way out of it answers: from the definition's own recursion.
use Prim.Native.Nat.{ℕ, zero, suc, ◌+◌, ◌-◌, ◌*◌, ◌/◌, ◌≤◌, ◌<◌}
use native.Mathlib.Nat.{mul-le-mul_left, mul-suc, mul_assoc, mul-add, add_assoc, mul-div-le, one-mul, zero-add}
use native.Mathlib.Numerals.{add-one}
use native.Mathlib.Omega.{arith}
use mathlib.Core.Path.{◌≡◌, refl, ap, ap₂, sym, ◌∙◌}
use mathlib.Core.Bool.{Bool, true, false}
use mathlib.Core.List.{List}
use lib.Dec.{eqb, ltb, leb}
use lib.ListN.{length, drop, get_or, drop_of_length-le}
use lib.Seq.{drop-cons}
use borrow.Author.Tests.{le-ltb, lt-ltb, le-leb, lt-leb, eq-eqb, ne_eqb}
use Rattle.std.specs.Prelude.{Ok, Err}
use Rattle.bits.specs.Bit.{pick}
use Rattle.tape_numbers.specs.declared.NumberFault.TheVariants.{Ended, Damaged}
use Rattle.tape_numbers.specs.Numbers.{Reading, read, on_top, last_group, groups, number_of}

-- the groups before `at` make `value`, the next one weighs `weight` and has to be below `left`
pub record Held (s : List ℕ) (limit at value weight left : ℕ) : Type 0 where
  pub low : value < weight
  pub room : weight * left ≤ limit
  pub so : number_of limit s ≡ on_top value weight at (groups (eqb at 0) left (drop at s))

nothing-below : (x : Reading) → on_top 0 1 0 x ≡ x
unfolding on_top
nothing-below (Ok x) = ap₂ read (zero-add (1 * x.value) ∙ one-mul x.value) (zero-add x.taken)
nothing-below (Err f) = refl

-- one group more below
one_below : (a w t b : ℕ) (x : Reading) → on_top a w t (on_top b 128 1 x) ≡ on_top (a + w * b) (w * 128) (t + 1) x
unfolding on_top
one_below a w t b (Ok x) = ap₂ read (simp (mul-add, mul_assoc, add_assoc)) (simp add_assoc)
one_below a w t b (Err f) = refl

-- a last group that is no padding is the number
last_one : (first : Bool) (b : ℕ) → (b ≡ 0 → first ≡ true) → last_group first b ≡ read b 1
unfolding last_group
last_one first zero h = rw (h refl)
last_one first (suc b) h = rw (ne_eqb (suc b) 0 (λ q. omega arith))

pub at_first : (s : List ℕ) (limit : ℕ) → Held s limit 0 0 1 limit
unfolding number_of
at_first s limit = record {
  low = omega arith;
  room = omega (arith, one-mul limit);
  so = sym (nothing-below (groups true limit s));
}

module _ (s : List ℕ) (limit at value weight left : ℕ) (held : Held s limit at value weight left) where
  pub at_end : length s ≤ at → Err Ended ≡ number_of limit s
  unfolding on_top groups
  at_end h = rw (held.so, drop_of_length-le s h)

-- b is the group at hand
module _ (s : List ℕ) (limit at value weight left b : ℕ) (held : Held s limit at value weight left) (is : b ≡ get_or s at 0) (more : at < length s) where
  here : groups (eqb at 0) left (drop at s)
      ≡ pick (leb left b) (Err Damaged) (pick (ltb b 128) (last_group (eqb at 0) b) (on_top (b - 128) 128 1 (groups false (left / 128) (drop (at + 1) s))))
  unfolding groups
  here = rw (add-one, is, drop-cons s at 0)

  pub too_large : left ≤ b → Err Damaged ≡ number_of limit s
  unfolding on_top
  too_large h = rw (held.so, here, le-leb _ _ h)

  pub padded : b < left → b ≡ 0 → 0 < at → Err Damaged ≡ number_of limit s
  unfolding on_top last_group
  padded h e p =
      let k : b < 128 = omega arith in
      rw (held.so, here, lt-leb _ _ h, lt-ltb _ _ k, eq-eqb _ _ e, ne_eqb at 0 (λ q. omega arith))

  pub whole : b < left → b < 128 → (b ≡ 0 → at ≡ 0) → read (value + weight * b) (at + 1) ≡ number_of limit s
  unfolding on_top
  whole h k p = rw (held.so, here, lt-leb _ _ h, lt-ltb _ _ k, last_one (eqb at 0) b (λ e. eq-eqb _ _ (p e)))

  -- sums and products stay below the limit
  pub fits : b < left → value + weight * b < limit
  fits h = omega (arith, held.low, held.room, mul-le-mul_left weight h, mul-suc weight b)

  pub heavier : b < left → 128 ≤ b → weight * 128 ≤ limit
  heavier h k =
      let l : 128 ≤ left = omega arith in
      omega (arith, held.room, mul-le-mul_left weight l)

  lower : b < 256 → 128 ≤ b → value + weight * (b - 128) < weight * 128
  lower o k =
      let l : b - 128 < 128 = omega arith in
      omega (arith, held.low, mul-le-mul_left weight l, mul-suc weight (b - 128))

  pub below : b < left → 128 ≤ b → b < 256 → value + weight * (b - 128) < limit
  below h k o = omega (arith, lower o k, heavier h k)

  pub again : b < left → 128 ≤ b → b < 256 → Held s limit (at + 1) (value + weight * (b - 128)) (weight * 128) (left / 128)
  again h k o = record {
    low = lower o k;
    room = omega (arith, held.room, mul-le-mul_left weight (mul-div-le left 128), mul_assoc weight 128 (left / 128));
    so =
        held.so
        ∙ ap (on_top value weight at) (here ∙ rw (lt-leb _ _ h, le-ltb _ _ k))
        ∙ one_below value weight at (b - 128) (groups false (left / 128) (drop (at + 1) s))
        ∙ rw (ne_eqb (at + 1) 0 (λ q. omega arith));
  }
