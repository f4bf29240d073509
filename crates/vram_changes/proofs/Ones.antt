-- The ones of old byte exclusive-or new byte are the bits that changed.
use Prim.Native.Nat.{ℕ, zero, suc, ◌+◌, ◌<◌}
use mathlib.Core.Path.{◌≡◌, refl, ap₂, ◌∙◌}
use lib.Dec.{eqb}
use lib.Bits.{bit_xor, differ}
use lib.Count.{ones, ones_in}
use Rattle.bits.specs.Bit.{bit, sum_of, pick}
use Rattle.bits.proofs.Laws.{bit-lt}
use Rattle.bits.proofs.Bitwise.{bit-xor, xor8}
use Rattle.bits.proofs.Decide.{agree1, agree2}
use Rattle.machine.specs.Deeds.{changed_bit, changed_bits}

ones-summed : (x : ℕ) → x < 256 → ones x ≡ sum_of 8 (λ i. bit i x)
unfolding ones ones_in sum_of bit
ones-summed = agree1 256 ones (λ x. sum_of 8 (λ i. bit i x)) tt

sum_same : (n : ℕ) (f g : ℕ → ℕ) → ((i : ℕ) → f i ≡ g i) → sum_of n f ≡ sum_of n g
unfolding sum_of
sum_same zero f g h = refl
sum_same (suc n) f g h = ap₂ (λ (a b : ℕ). a + b) (h 0) (sum_same n (λ i. f (suc i)) (λ i. g (suc i)) (λ i. h (suc i)))

differ-changed : (a b : ℕ) → a < 2 → b < 2 → differ a b ≡ pick (eqb a b) 0 1
differ-changed = agree2 2 2 differ (λ a b. pick (eqb a b) 0 1) tt

pub ones_changed : (old new : ℕ) → old < 256 → new < 256 → ones (bit_xor old new) ≡ changed_bits old new
unfolding changed_bits
ones_changed old new h l =
    ones-summed (bit_xor old new) (xor8 old new h l)
    ∙ sum_same 8 (λ i. bit i (bit_xor old new)) (changed_bit old new) (λ i. bit-xor i old new ∙ differ-changed (bit i old) (bit i new) (bit-lt i old) (bit-lt i new))
