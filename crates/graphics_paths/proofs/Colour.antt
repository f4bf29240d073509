-- The compare read: an exclusive or with one bit spread, and four planes' bytes joined, are the machine's rule bit by bit.
use Rattle.std.proofs.Common.{◌≡◌, ℕ, ◌-◌, ◌<◌, min, Bool, true, false, eqb, List, refl, ap, ◌∙◌, arith}
use lib.Bits.{bit_and, bit_xor, differ}
use Rattle.bits.specs.Bit.{bit, byte_of, is_one, bit_of, pick, every}
use Rattle.bits.proofs.Laws.{bit-lt, bit-of, of_lt, is-of}
use Rattle.bits.proofs.Bitwise.{bit-and, bit-xor, bit-flip, bit-spread, and8, xor8, flip8}
use Rattle.bits.proofs.Decide.{agree2}
use Rattle.machine.specs.Deeds.{latch, agrees, compared}

-- ---- one plane

same : (a b : ℕ) → a < 2 → b < 2 → 1 - differ a b ≡ bit_of (eqb a b)
same = agree2 2 2 (λ a b. 1 - differ a b) (λ a b. bit_of (eqb a b)) tt

-- the bits at which l has the bit b, which s has eight times
pub same_bits : (l s b : ℕ) → l < 256 → s < 256 → b < 2 → s ≡ byte_of (λ i. b) → 255 - bit_xor l s ≡ byte_of (λ i. bit_of (eqb (bit i l) b))
same_bits l s b hl hs hb e = is-of 8 (flip8 (bit_xor l s)) (λ i h.
    bit-flip i (bit_xor l s) (xor8 l s hl hs) h
    ∙ ap (λ (x : ℕ). 1 - x) (bit-xor i l s ∙ ap (differ (bit i l)) (ap (bit i) e ∙ bit-spread i b h hb))
    ∙ same (bit i l) b (bit-lt i l) hb)

-- ---- four planes

both : (p q : Bool) → min (bit_of p) (bit_of q) ≡ bit_of (pick q p false)
both true true = refl
both true false = refl
both false true = refl
both false false = refl

kept : (p : Bool) → pick p true false ≡ p
kept true = refl
kept false = refl

all-four : (f : ℕ → Bool) → min (min (min (bit_of (f 0)) (bit_of (f 1))) (bit_of (f 2))) (bit_of (f 3)) ≡ bit_of (every 4 f)
all-four f = rw (kept (f 0), both (f 0) (f 1), both (pick (f 1) (f 0) false) (f 2), both (pick (f 2) (pick (f 1) (f 0) false) false) (f 3))

bit-of-test : (b : Bool) → bit_of b < 2
bit-of-test true = omega arith
bit-of-test false = omega arith

module _ (care colour : ℕ) (l : List ℕ) where
  -- the bits at which plane p agrees
  abbrev pub agreed : ℕ → ℕ
  agreed p = byte_of (λ i. bit_of (pick (is_one (bit p care)) (eqb (bit i (latch l p)) (bit p colour)) true))

  at : (p i : ℕ) → i < 8 → bit i (agreed p) ≡ bit_of (pick (is_one (bit p care)) (eqb (bit i (latch l p)) (bit p colour)) true)
  at p i h =
      bit-of 8 (λ i. bit_of (pick (is_one (bit p care)) (eqb (bit i (latch l p)) (bit p colour)) true))
      (λ i. bit-of-test (pick (is_one (bit p care)) (eqb (bit i (latch l p)) (bit p colour)) true)) i h

  pub all-agreed : bit_and (bit_and (bit_and (agreed 0) (agreed 1)) (agreed 2)) (agreed 3) ≡ compared care colour l
  unfolding agrees compared
  all-agreed =
      let of-8 = of_lt 8 (λ i. bit_of (pick (is_one (bit 3 care)) (eqb (bit i (latch l 3)) (bit 3 colour)) true))
      (λ i. bit-of-test (pick (is_one (bit 3 care)) (eqb (bit i (latch l 3)) (bit 3 colour)) true)) in
      is-of 8 (and8 (bit_and (bit_and (agreed 0) (agreed 1)) (agreed 2)) (agreed 3) of-8) (λ i h.
      simp (bit-and, at 0 i h, at 1 i h, at 2 i h, at 3 i h) (all-four (λ p. pick (is_one (bit p care)) (eqb (bit i (latch l p)) (bit p colour)) true)))
