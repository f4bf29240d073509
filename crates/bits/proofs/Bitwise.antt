-- `&`, `|`, `^`, `!` and shifts, bit by bit: `simp bitwise` turns bit i of an expression on numbers into the same expression on bits.
use Prim.Native.Nat.{ℕ, zero, suc, ◌-◌, ◌*◌, ◌/◌, ◌%◌, ◌^◌, ◌<◌, min, max}
use native.Mathlib.Nat.{pow-suc, lt_of_le_of_lt, le_of_suc-le-suc, not-suc-le-zero, mod-eq_of_lt}
use native.Mathlib.Numerals.{add-one}
use native.Mathlib.Omega.{arith}
use mathlib.Core.Path.{◌≡◌, refl, sym, ap, ◌∙◌}
use lib.Arith.{digits_mod}
use lib.Pow.{shr_lt, pow-lt, pow_pos, pow-add}
use lib.Bits.{bit_and, bit_or, bit_xor, differ, and_step, or_step, xor_step, and_shr, or_shr, xor_shr, and_le_l, and_le_r, or_lt, xor_lt, or_add_and, and_mask, and_high}
use lib.Dec.{leb}
use mathlib.Core.Bool.{Bool, true, false, ◌&&◌}
use borrow.Author.Tests.{leb-true, leb-false, le-leb, lt-leb}
use Rattle.bits.specs.Bit.{bit, byte_of}
use Rattle.bits.proofs.Laws.{bit-lt, bit-zero, bit-suc, bit-of}

-- ---- the operations

pub bit-and : (i a b : ℕ) → bit i (bit_and a b) ≡ min (bit i a) (bit i b)
unfolding bit
bit-and i a b = ap (λ (q : ℕ). q % 2) (and_shr a b i ∙ and_step (a / 2 ^ i) (b / 2 ^ i)) ∙ omega arith

pub bit-or : (i a b : ℕ) → bit i (bit_or a b) ≡ max (bit i a) (bit i b)
unfolding bit
bit-or i a b = ap (λ (q : ℕ). q % 2) (or_shr a b i ∙ or_step (a / 2 ^ i) (b / 2 ^ i)) ∙ omega arith

pub differ-lt : (x y : ℕ) → x < 2 → y < 2 → differ x y < 2
differ-lt zero y h k = k
differ-lt (suc x) zero h k = h
differ-lt (suc x) (suc y) h k = differ-lt x y (omega arith) (omega arith)

pub bit-xor : (i a b : ℕ) → bit i (bit_xor a b) ≡ differ (bit i a) (bit i b)
unfolding bit
bit-xor i a b =
    ap (λ (q : ℕ). q % 2) (xor_shr a b i ∙ xor_step (a / 2 ^ i) (b / 2 ^ i))
    ∙ digits_mod (bit_xor (a / 2 ^ i / 2) (b / 2 ^ i / 2)) (differ-lt (a / 2 ^ i % 2) (b / 2 ^ i % 2) (omega arith) (omega arith))

-- the complement in n bits
pub bit_not : (n : ℕ) {x : ℕ} → x < 2 ^ n → (i : ℕ) → i < n → bit i (2 ^ n - 1 - x) ≡ 1 - bit i x
bit_not zero h i l = absurd (not-suc-le-zero l)
bit_not (suc n) {x} h zero l = simp bit-zero (omega (arith, pow-suc 2 n))
bit_not (suc n) {x} h (suc i) l =
    bit-suc i (2 ^ suc n - 1 - x)
    ∙ ap (bit i) (omega (arith, pow-suc 2 n))
    ∙ bit_not n (shr_lt n 1 (rw add-one h)) i (le_of_suc-le-suc l)
    ∙ ap (λ (b : ℕ). 1 - b) (sym (bit-suc i x))

pub bit-flip : (i x : ℕ) → x < 256 → i < 8 → bit i (255 - x) ≡ 1 - bit i x
bit-flip i x h l = bit_not 8 h i l

-- eight times one bit
pub bit-spread : (i b : ℕ) → i < 8 → b < 2 → bit i (byte_of (λ k. b)) ≡ b
bit-spread i b h l = bit-of 8 (λ k. b) (λ k. l) i h

pub ruleset bitwise = (bit-and, bit-or, bit-xor, bit-flip)

-- ---- bytes in, a byte out: `search bytes`

pub and8 : (a b : ℕ) → b < 256 → bit_and a b < 256
and8 a b h = lt_of_le_of_lt (and_le_r a b) h

pub or8 : (a b : ℕ) → a < 256 → b < 256 → bit_or a b < 256
or8 a b = or_lt 8 a b

pub xor8 : (a b : ℕ) → a < 256 → b < 256 → bit_xor a b < 256
xor8 a b = xor_lt 8 a b

pub flip8 : (a : ℕ) → 255 - a < 256
flip8 a = omega arith

pub ruleset bytes = (and8, or8, xor8, flip8)

-- ---- several numbers held to one width: `(a | b) <= 2^n - 1`

pub or-within : (n a b : ℕ) → leb (bit_or a b) (2 ^ n - 1) ≡ (leb a (2 ^ n - 1) && leb b (2 ^ n - 1))
or-within n a b = go (leb a (2 ^ n - 1)) (leb b (2 ^ n - 1)) refl refl
  where
    go : (t u : Bool) → leb a (2 ^ n - 1) ≡ t → leb b (2 ^ n - 1) ≡ u → leb (bit_or a b) (2 ^ n - 1) ≡ (t && u)
    go true true e f =
        let la : a < 2 ^ n = omega (arith, leb-true a _ e, pow_pos n) in
        let lb : b < 2 ^ n = omega (arith, leb-true b _ f, pow_pos n) in
        le-leb (bit_or a b) (2 ^ n - 1) (omega (arith, or_lt n a b la lb))
    go true false e f = lt-leb (bit_or a b) (2 ^ n - 1) (omega (arith, leb-false b _ f, or_add_and a b, and_le_l a b))
    go false u e f = lt-leb (bit_or a b) (2 ^ n - 1) (omega (arith, leb-false a _ e, or_add_and a b, and_le_r a b))

pub and_right : (a b c : Bool) → ((a && b) && c) ≡ (a && (b && c))
and_right true b c = refl
and_right false b c = refl

three-within : (n a b c : ℕ) → leb (bit_or (bit_or a b) c) (2 ^ n - 1) ≡ (leb a (2 ^ n - 1) && (leb b (2 ^ n - 1) && leb c (2 ^ n - 1)))
three-within n a b c = or-within n (bit_or a b) c ∙ ap (λ (t : Bool). t && leb c (2 ^ n - 1)) (or-within n a b) ∙ and_right (leb a (2 ^ n - 1)) (leb b (2 ^ n - 1)) (leb c (2 ^ n - 1))

pub five-within : (n a b c d e : ℕ) → leb (bit_or (bit_or (bit_or (bit_or a b) c) d) e) (2 ^ n - 1)
    ≡ (leb a (2 ^ n - 1) && (leb b (2 ^ n - 1) && (leb c (2 ^ n - 1) && (leb d (2 ^ n - 1) && leb e (2 ^ n - 1)))))
five-within n a b c d e =
    three-within n (bit_or (bit_or a b) c) d e
    ∙ ap (λ (t : Bool). t && (leb d (2 ^ n - 1) && leb e (2 ^ n - 1))) (three-within n a b c)
    ∙ and_right (leb a (2 ^ n - 1)) (leb b (2 ^ n - 1) && leb c (2 ^ n - 1)) (leb d (2 ^ n - 1) && leb e (2 ^ n - 1))
    ∙ ap (λ (t : Bool). leb a (2 ^ n - 1) && t) (and_right (leb b (2 ^ n - 1)) (leb c (2 ^ n - 1)) (leb d (2 ^ n - 1) && leb e (2 ^ n - 1)))

-- ---- one bit taken out

-- `(x >> k) & 1`
pub shr_and_one : (x k : ℕ) → bit_and (x / 2 ^ k) 1 ≡ bit k x
unfolding bit
shr_and_one x k = and_mask (x / 2 ^ k) 1

-- `x & (1 << p)` at a byte
pub and-one-shl : (x p : ℕ) → p < 8 → bit_and x (1 * 2 ^ p % 256) ≡ bit p x * 2 ^ p
unfolding bit
and-one-shl x p h = ap (bit_and x) (omega (arith, mod-eq_of_lt (pow-lt {i = p} {j = 8} h), pow-add 2 1 p)) ∙ and_high x 1 p

-- the test `x & (1 << p) != 0`, passed and not
module _ (x p : ℕ) (h : p < 8) where
  pub bit-set : (bit_and x (1 * 2 ^ p % 256) ≡ 0 → ⊥) → bit p x ≡ 1
  bit-set n = go (bit p x) (bit-lt p x) (λ e. n (and-one-shl x p h ∙ e))
    where
      go : (b : ℕ) → b < 2 → (b * 2 ^ p ≡ 0 → ⊥) → b ≡ 1
      go zero l n = absurd (n (omega arith))
      go (suc b) l n = omega arith

  pub bit-clear : bit_and x (1 * 2 ^ p % 256) ≡ 0 → bit p x ≡ 0
  bit-clear e = go (bit p x) (bit-lt p x) (sym (and-one-shl x p h) ∙ e)
    where
      go : (b : ℕ) → b < 2 → b * 2 ^ p ≡ 0 → b ≡ 0
      go zero l e = refl
      go (suc zero) l e = absurd (omega (arith, pow_pos p))
      go (suc (suc b)) l e = absurd (omega arith)
