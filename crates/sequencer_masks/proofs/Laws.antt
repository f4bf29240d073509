-- What the proofs of the masks, and of the crates above, cite: where chain-four leads, and the mask as a number.
use Prim.Native.Nat.{ℕ, ◌-◌, ◌*◌, ◌/◌, ◌%◌, ◌^◌, ◌≤◌, ◌<◌, min}
use native.Mathlib.Nat.{lt_of_le_of_lt, mod-eq_of_lt, zero-mul}
use native.Mathlib.Omega.{arith}
use mathlib.Core.Path.{◌≡◌, refl, sym, ap, ◌∙◌}
use mathlib.Core.Bool.{Bool, true, false, ◌&&◌}
use lib.Dec.{eqb, leb}
use lib.Bits.{bit_and, and_mask, and_le_l, and_high}
use lib.Pow.{pow_pos}
use mir.Val.{bool_byte}
use borrow.Author.Tests.{leb-true}
use Rattle.bits.specs.Bit.{bit, of_bits, is_one, bit_of, pick}
use Rattle.bits.proofs.Laws.{bit-lt, test-lt, bit-of, is-of}
use Rattle.bits.proofs.Bitwise.{bit-and, and-one-shl}
use Rattle.bits.proofs.Decide.{agree1, agree2}
use Rattle.machine_types.specs.declared.seq.Sequencer.{Sequencer}
use Rattle.machine_types.specs.declared.seq.OddEvenMode.TheVariants.{OddEven, Sequential}
use Rattle.machine.specs.Sequencer.{fits_seq, seq_odd_even, is_seq_odd_even, chain_four, in_mask, stored_at, gc_read_at}
use Rattle.machine.proofs.Laws.{both, stored-at-le}
use Rattle.sequencer_masks.specs.Mask.{mask_of}

-- ---- where chain-four leads

-- `offset & !3`
pub cleared : (x : ℕ) → x < 2 ^ 64 → bit_and x (2 ^ 64 - 4) ≡ x / 4 * 4
cleared x h = and_high x 62 2 ∙ ap (λ (q : ℕ). q * 4) (mod-eq_of_lt (omega arith))

-- never past the offset that was judged
pub gc_read_at_le : (s : Sequencer) (o : ℕ) → gc_read_at s o ≤ o
unfolding gc_read_at stored_at
gc_read_at_le s o = go (is_seq_odd_even (seq_odd_even s))
  where
    go : (b : Bool) → pick b o (stored_at s o) ≤ o
    go true = omega arith
    go false = stored-at-le s o

-- ---- the mask

-- a record that fits has a Map Mask of four bits
pub map-mask-lt : (s : Sequencer) → fits_seq s ≡ true → s.map_mask < 16
unfolding fits_seq
map-mask-lt s e =
    let rest = (both (leb s.reset 3) _ e).1 in
    let h : s.map_mask ≤ 15 = leb-true _ _ (both (leb s.map_mask 15) _ rest).0 in
    omega arith

bit-again : (b : ℕ) → b < 2 → b ≡ bit_of (is_one b && true)
bit-again = agree1 2 (λ b. b) (λ b. bit_of (is_one b && true)) tt

bits-both : (a b : ℕ) → a < 2 → b < 2 → min a b ≡ bit_of (is_one a && is_one b)
bits-both = agree2 2 2 min (λ a b. bit_of (is_one a && is_one b)) tt

-- 5 shifted left by a0, at a byte
shifted : (a0 : Bool) → 5 * 2 ^ bool_byte a0 % 256 ≡ 5 * 2 ^ bit_of a0
shifted true = refl
shifted false = refl

pub a0-lt : (a0 : Bool) → bool_byte a0 < 8
a0-lt true = omega arith
a0-lt false = omega arith

module _ (s : Sequencer) (o : ℕ) (a0 : Bool) where
  -- the number that the code makes, in each of its three cases
  pub mask-chained : chain_four s ≡ true → 1 * 2 ^ bit_and o 3 % 256 ≡ mask_of s o a0
  unfolding mask_of in_mask of_bits
  mask-chained e = simp (e, and_mask o 2) (agree1 4 (λ k. 1 * 2 ^ k % 256) (λ k. of_bits 4 (λ p. bit_of (eqb p k))) tt (o % 4) (omega arith))

  pub mask-sequential : fits_seq s ≡ true → chain_four s ≡ false → seq_odd_even s ≡ Sequential → s.map_mask ≡ mask_of s o a0
  unfolding mask_of in_mask
  mask-sequential h e f = simp (e, f) (is-of 4 (map-mask-lt s h) (λ p l. bit-again _ (bit-lt p _)))

  pub mask-odd-even : fits_seq s ≡ true → chain_four s ≡ false → seq_odd_even s ≡ OddEven → bit_and s.map_mask (5 * 2 ^ bool_byte a0 % 256) ≡ mask_of s o a0
  unfolding mask_of in_mask
  mask-odd-even h e f =
      simp (e, f, shifted a0)
      (is-of 4 (lt_of_le_of_lt (and_le_l s.map_mask (5 * 2 ^ bit_of a0)) (map-mask-lt s h))
      (λ p l. bit-and p _ _ ∙ bits-both _ _ (bit-lt p _) (bit-lt p _)))

  -- what a caller knows of that number
  pub mask-bit : (p : ℕ) → p ≤ 3 → bit p (mask_of s o a0) ≡ bit_of (in_mask s o a0 p)
  unfolding mask_of
  mask-bit p h = bit-of 4 (λ p. bit_of (in_mask s o a0 p)) (λ p. test-lt (in_mask s o a0 p)) p (omega arith)

  -- `mask & (1 << p) != 0`, of a mask r of the code's
  pub mask-has : (r p : ℕ) → r ≡ mask_of s o a0 → p ≤ 3 → (bit_and r (1 * 2 ^ p % 256) ≡ 0 → ⊥) → in_mask s o a0 p ≡ true
  mask-has r p g h n = go (in_mask s o a0 p) (ap (bit p) g ∙ mask-bit p h)
    where
      go : (b : Bool) → bit p r ≡ bit_of b → b ≡ true
      go true e = refl
      go false e = absurd (n (and-one-shl r p (omega arith) ∙ ap (λ (b : ℕ). b * 2 ^ p) e ∙ zero-mul (2 ^ p)))

  pub mask-lacks : (r p : ℕ) → r ≡ mask_of s o a0 → p ≤ 3 → bit_and r (1 * 2 ^ p % 256) ≡ 0 → in_mask s o a0 p ≡ false
  mask-lacks r p g h z = go (in_mask s o a0 p) (ap (bit p) g ∙ mask-bit p h)
    where
      go : (b : Bool) → bit p r ≡ bit_of b → b ≡ false
      go true e = absurd (omega (arith, sym z ∙ and-one-shl r p (omega arith) ∙ ap (λ (b : ℕ). b * 2 ^ p) e, pow_pos p))
      go false e = refl
