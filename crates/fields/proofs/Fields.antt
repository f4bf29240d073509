-- A field of a kept byte, as the code takes it out: shifted down and masked. What the proofs of the fields cite.
use Prim.Native.Nat.{ℕ, ◌-◌, ◌/◌, ◌%◌, ◌^◌}
use native.Mathlib.Omega.{arith}
use mathlib.Core.Path.{◌≡◌, sym, ap, ◌∙◌}
use lib.Bits.{bit_and, and_mask}
use Rattle.bits.specs.Bit.{field}

module _ (i n x y : ℕ) (shifted : y ≡ x / 2 ^ i) where
  pub field-masked : field i n x ≡ bit_and y (2 ^ n - 1)
  unfolding field
  field-masked = ap (λ (z : ℕ). z % 2 ^ n) (sym shifted) ∙ sym (and_mask y n)

-- what a `match` knows of the field in its arms: the number of the arm; in the last, none of the earlier ones
module _ (i x y : ℕ) (shifted : y ≡ x / 2 ^ i) where
  pub last-of-2 : Unit {0} × (bit_and y 1 ≡ 0 → ⊥) → field i 1 x ≡ 1
  unfolding field
  last-of-2 h = omega (arith, field-masked i 1 x y shifted, h.1)

  pub last-of-4 : ((Unit {0} × (bit_and y 3 ≡ 0 → ⊥)) × (bit_and y 3 ≡ 1 → ⊥)) × (bit_and y 3 ≡ 2 → ⊥) → field i 2 x ≡ 3
  unfolding field
  last-of-4 h = omega (arith, field-masked i 2 x y shifted, h.0.0.1, h.0.1, h.1)
