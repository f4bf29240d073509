-- A word by its bytes; its bits exchanged under a mask; four bytes in a word turned into eight.
use Prim.Native.Nat.{ℕ, zero, suc, ◌+◌, ◌-◌, ◌*◌, ◌/◌, ◌%◌, ◌^◌, ◌≤◌, ◌<◌, min, max}
use native.Mathlib.Nat.{lt_of_le_of_lt, mul-mod_left}
use native.Mathlib.Omega.{arith}
use mathlib.Core.Path.{◌≡◌, refl, sym, ap, ap₂, ◌∙◌}
use mathlib.Core.Bool.{Bool, true, false}
use mathlib.Core.List.{List, [], ◌∷◌}
use lib.ListN.{get_or}
use lib.Pow.{shl-shr, shr-shr, shr_le}
use lib.Bits.{bit_and, bit_or, bit_xor, differ, or_lt, xor_lt, and_le_r, or_shifted_r}
use lib.Dec.{T, leb, ltb, ltb→lt}
use borrow.Author.Tests.{leb-true, leb-false}
use Rattle.bits.specs.Bit.{bit, field, of_bits, is_one, pick, every}
use Rattle.bits.proofs.Laws.{bit-lt, bit-shr, bit-mod, bit_high, bit-of, of-ext, is-of}
use Rattle.bits.proofs.Bitwise.{bit-and, bit-or, bit-xor, differ-lt}
use Rattle.bits.proofs.Decide.{every-at, agree1, agree2}
use Rattle.machine.specs.Deeds.{eight}
use Rattle.vram_pixels.specs.Word.{of_bytes, across, turned, came_from}

-- ---- a word by its bytes

-- that each entry is a byte
abbrev pub Bytes : List ℕ → Type 0
Bytes [] = Unit {0}
Bytes (b ∷ l) = (b < 256) × Bytes l

-- byte j of the word is entry j
pub byte_at : (l : List ℕ) → Bytes l → (j : ℕ) → field (8 * j) 8 (of_bytes l) ≡ get_or l j 0
unfolding of_bytes field
byte_at [] t j = omega (arith, shr_le 0 (8 * j))
byte_at (b ∷ l) (h, t) zero = omega arith
byte_at (b ∷ l) (h, t) (suc j) =
    ap (λ (k : ℕ). (b + 256 * of_bytes l) / 2 ^ k % 256) (omega arith)
    ∙ ap (λ (q : ℕ). q % 256) (sym (shr-shr (b + 256 * of_bytes l) 8 (8 * j)) ∙ ap (λ (q : ℕ). q / 2 ^ (8 * j)) (omega arith))
    ∙ byte_at l t j

-- .. and so is each of its bits
byte-bit : (l : List ℕ) → Bytes l → (i : ℕ) → bit i (of_bytes l) ≡ bit (i % 8) (get_or l (i / 8) 0)
unfolding field
byte-bit l t i =
    ap (λ (k : ℕ). bit k (of_bytes l)) (omega arith)
    ∙ sym (bit-shr (i % 8) (8 * (i / 8)) (of_bytes l))
    ∙ sym (bit-mod 8 (i % 8) (of_bytes l / 2 ^ (8 * (i / 8))) (omega arith))
    ∙ ap (bit (i % 8)) (byte_at l t (i / 8))

-- bytes shifted and joined by `|`
pub joined : (a b c d : ℕ) → Bytes (a ∷ b ∷ c ∷ d ∷ [])
    → bit_or (bit_or (bit_or a (b * 2 ^ 8 % 2 ^ 32)) (c * 2 ^ 16 % 2 ^ 32)) (d * 2 ^ 24 % 2 ^ 32) ≡ of_bytes (a ∷ b ∷ c ∷ d ∷ [])
unfolding of_bytes
joined a b c d (ha, (hb, (hc, (hd, t)))) =
    let eb : b * 2 ^ 8 % 2 ^ 32 ≡ b * 2 ^ 8 = omega arith in
    let ec : c * 2 ^ 16 % 2 ^ 32 ≡ c * 2 ^ 16 = omega arith in
    let ed : d * 2 ^ 24 % 2 ^ 32 ≡ d * 2 ^ 24 = omega arith in
    rw (eb, ec, ed, or_shifted_r b 8 a ha, or_shifted_r c 16 (b * 2 ^ 8 + a) (omega arith), or_shifted_r d 24 (c * 2 ^ 16 + (b * 2 ^ 8 + a)) (omega arith)) (omega arith)

-- ---- bits under a mask, and moved up

-- bit k of what stands under a mask, moved up d places, where v is the bit that comes to k
up : (d m x k v : ℕ) → k < 64 → (d ≤ k → bit (k - d) x ≡ v) → bit k (bit_and x m * 2 ^ d % 2 ^ 64) ≡ min v (bit k (m * 2 ^ d))
up d m x k v l comes = bit-mod 64 k (bit_and x m * 2 ^ d) l ∙ go (leb d k) refl
  where
    moved : d ≤ k → (y : ℕ) → bit k (y * 2 ^ d) ≡ bit (k - d) y
    moved h y = ap (λ (i : ℕ). bit i (y * 2 ^ d)) (omega arith) ∙ sym (bit-shr (k - d) d (y * 2 ^ d)) ∙ ap (bit (k - d)) (shl-shr y d)

    empty : k < d → (y : ℕ) → bit k (y * 2 ^ d) ≡ 0
    empty h y = sym (bit-mod d k (y * 2 ^ d) h) ∙ ap (bit k) (mul-mod_left y (2 ^ d)) ∙ bit_high 0 k 0 (omega arith) (omega arith)

    go : (t : Bool) → leb d k ≡ t → bit k (bit_and x m * 2 ^ d) ≡ min v (bit k (m * 2 ^ d))
    go true e =
        let h : d ≤ k = leb-true d k e in
        moved h (bit_and x m) ∙ bit-and (k - d) x m ∙ ap₂ min (comes h) (sym (moved h m))
    go false e =
        let h : k < d = leb-false d k e in
        rw (empty h (bit_and x m), empty h m) (omega arith)

-- bit k of two words under masks that have no bit in common
either : (k m n a b : ℕ) → bit_and m n ≡ 0 → a < 2 → b < 2 → max (min a (bit k m)) (min b (bit k n)) ≡ pick (is_one (bit k m)) a (pick (is_one (bit k n)) b 0)
either k m n a b apart ha hb = go (bit k m) (bit k n) (bit-lt k m) (bit-lt k n) (sym (bit-and k m n) ∙ ap (bit k) apart ∙ bit_high 0 k 0 (omega arith) (omega arith))
  where
    go : (p q : ℕ) → p < 2 → q < 2 → min p q ≡ 0 → max (min a p) (min b q) ≡ pick (is_one p) a (pick (is_one q) b 0)
    go zero zero hp hq n = omega arith
    go zero (suc zero) hp hq n = omega arith
    go (suc zero) zero hp hq n = omega arith
    go (suc zero) (suc q) hp hq n = absurd (omega arith)
    go zero (suc (suc q)) hp hq n = absurd (omega arith)
    go (suc (suc p)) q hp hq n = absurd (omega arith)

-- ---- bits exchanged

-- where the bits of each two differ, at the lower of their places
abbrev unlike : ℕ → ℕ → ℕ → ℕ
unlike d m y = bit_and (bit_xor y (y / 2 ^ d)) m

module _ (d m y : ℕ) (apart : bit_and m (m * 2 ^ d) ≡ 0) (k : ℕ) (l : k < 64) where
  -- bit k, and those that stand d above it and d below it
  abbrev here : ℕ
  here = bit k y

  abbrev above : ℕ
  above = bit (d + k) y

  abbrev below : ℕ
  below = bit (k - d) y

  -- whether bit k changes: under the mask, and under the mask moved up
  changes : bit k (bit_or (unlike d m y) (unlike d m y * 2 ^ d % 2 ^ 64)) ≡ pick (is_one (bit k m)) (differ here above) (pick (is_one (bit k (m * 2 ^ d))) (differ below here) 0)
  changes =
      bit-or k (unlike d m y) _
      ∙ ap₂ max
      (bit-and k (bit_xor y (y / 2 ^ d)) m ∙ ap (λ (b : ℕ). min b (bit k m)) (bit-xor k y (y / 2 ^ d) ∙ ap (differ here) (bit-shr k d y)))
      (up d m (bit_xor y (y / 2 ^ d)) k (differ below here) l λ h. bit-xor (k - d) y (y / 2 ^ d) ∙ ap (differ below) (bit-shr (k - d) d y ∙ ap (λ (i : ℕ). bit i y) (omega arith)))
      ∙ either k m (m * 2 ^ d) (differ here above) (differ below here) apart (differ-lt here above (bit-lt k y) (bit-lt (d + k) y)) (differ-lt below here (bit-lt (k - d) y) (bit-lt k y))

  -- changed where it differs from another, it is the other
  becomes : (u v : Bool) → differ here (pick u (differ here above) (pick v (differ below here) 0)) ≡ bit (pick u (d + k) (pick v (k - d) k)) y
  becomes true v = agree2 2 2 (λ a b. differ a (differ a b)) (λ a b. b) tt here above (bit-lt k y) (bit-lt (d + k) y)
  becomes false true = agree2 2 2 (λ a b. differ a (differ b a)) (λ a b. b) tt here below (bit-lt k y) (bit-lt (k - d) y)
  becomes false false = agree1 2 (λ a. differ a 0) (λ a. a) tt here (bit-lt k y)

  bit-exchanged : bit k (bit_xor y (bit_or (unlike d m y) (unlike d m y * 2 ^ d % 2 ^ 64))) ≡ bit (came_from d m k) y
  unfolding came_from
  bit-exchanged = bit-xor k y _ ∙ ap (differ here) changes ∙ becomes (is_one (bit k m)) (is_one (bit k (m * 2 ^ d)))

-- the code's expression
pub exchanged-is : (d m y : ℕ) → bit_and m (m * 2 ^ d) ≡ 0 → y < 2 ^ 64 → m < 2 ^ 64
    → bit_xor y (bit_or (unlike d m y) (unlike d m y * 2 ^ d % 2 ^ 64)) ≡ of_bits 64 (λ k. bit (came_from d m k) y)
exchanged-is d m y apart hy hm =
    is-of 64 (xor_lt 64 y _ hy (or_lt 64 _ _ (lt_of_le_of_lt (and_le_r (bit_xor y (y / 2 ^ d)) m) hm) (omega arith))) (bit-exchanged d m y apart)

-- ---- four bytes turned

-- the low halves of four bytes, and the high ones
abbrev lows : ℕ
lows = 0x0F0F0F0F

abbrev highs : ℕ
highs = 0xF0F0F0F0

-- where a bit comes from by the first exchange, and by the second
abbrev by14 : ℕ → ℕ
by14 = came_from 14 0x00000C0C_00000C0C

abbrev by7 : ℕ → ℕ
by7 = came_from 7 0x000A000A_000A000A

-- bit q of the halves put apart, of a word whose bit i is f i
abbrev halved : (ℕ → ℕ) → ℕ → ℕ
halved f q = pick (is_one (bit q lows)) (f q) (pick (is_one (bit q (highs * 2 ^ 28))) (f (q - 28)) 0)

bit-halved : (x q : ℕ) → q < 64 → bit q (bit_or (bit_and x lows) (bit_and x highs * 2 ^ 28 % 2 ^ 64)) ≡ halved (λ i. bit i x) q
bit-halved x q l =
    bit-or q (bit_and x lows) _
    ∙ ap₂ max (bit-and q x lows) (up 28 highs x q (bit (q - 28) x) l λ h. refl)
    ∙ either q lows (highs * 2 ^ 28) (bit q x) (bit (q - 28) x) refl (bit-lt q x) (bit-lt (q - 28) x)

-- the law of the turn, where c p j is bit j of byte p: it becomes bit p of byte j, and the other bits are 0
placed : (c : ℕ → ℕ → ℕ) → of_bits 64 (λ k. halved (λ i. c (i / 8) (i % 8)) (by14 (by7 k))) ≡ of_bytes (eight (λ j. of_bits 4 (λ p. c p j)))
unfolding bit of_bits of_bytes came_from
placed c = omega arith

-- the bits that an exchange brings come from within the word
within : (d m : ℕ) → T (every 64 (λ k. ltb (came_from d m k) 64)) → (k : ℕ) → k < 64 → came_from d m k < 64
within d m t k h = ltb→lt (came_from d m k) 64 (every-at 64 (λ k. ltb (came_from d m k) 64) t k h)

-- a word of bytes whose halves are put apart, and whose bits are exchanged twice
pub turned-is : (l : List ℕ) → Bytes l → (x y z : ℕ) → x ≡ of_bytes l → y ≡ of_bits 64 (λ k. bit (by14 k) (bit_or (bit_and x lows) (bit_and x highs * 2 ^ 28 % 2 ^ 64)))
    → z ≡ of_bits 64 (λ k. bit (by7 k) y) → z ≡ of_bytes (turned l)
unfolding across came_from bit
turned-is l are x y z ex ey ez = ez ∙ of-ext 64 each ∙ placed (λ p j. bit j (get_or l p 0))
  where
    bits : (i : ℕ) → bit i x ≡ bit (i % 8) (get_or l (i / 8) 0)
    bits i = ap (bit i) ex ∙ byte-bit l are i

    each : (k : ℕ) → k < 64 → bit (by7 k) y ≡ halved (λ i. bit (i % 8) (get_or l (i / 8) 0)) (by14 (by7 k))
    each k h =
        let inner : by7 k < 64 = within 7 _ tt k h in
        ap (bit (by7 k)) ey
        ∙ bit-of 64 (λ k. bit (by14 k) _) (λ k. bit-lt (by14 k) _) (by7 k) inner
        ∙ bit-halved x (by14 (by7 k)) (within 14 _ tt (by7 k) inner)
        ∙ ap₂ (λ (a b : ℕ). pick (is_one (bit (by14 (by7 k)) lows)) a (pick (is_one (bit (by14 (by7 k)) (highs * 2 ^ 28))) b 0)) (bits (by14 (by7 k))) (bits (by14 (by7 k) - 28))
