-- The laws of `bit` and `of_bits`, over any width: what a proof about shifts, masks and bytes cites, so that none looks inside the two.
use Prim.Native.Nat.{ℕ, zero, suc, ◌+◌, ◌*◌, ◌/◌, ◌%◌, ◌^◌, ◌≤◌, ◌<◌, zero-le, suc-le-suc}
use native.Mathlib.Nat.{pow-suc, div-div-eq-div-mul, mul_comm, div-eq_of_lt, lt_of_lt_of_le, le_of_suc-le-suc, not-suc-le-zero}
use native.Mathlib.Numerals.{add-one}
use native.Mathlib.Omega.{arith}
use mathlib.Core.Path.{◌≡◌, refl, sym, ap, ap₂, ◌∙◌}
use mathlib.Core.Bool.{Bool, true, false}
use lib.Pow.{pow_mono, shr_lt, shr-shr, mod-mod-pow}
use lib.Pow
use Rattle.bits.specs.Bit.{bit, of_bits, bit_of}

-- ---- one bit

pub bit-lt : (i x : ℕ) → bit i x < 2
unfolding bit
bit-lt i x = omega arith

pub test-lt : (b : Bool) → bit_of b < 2
test-lt true = omega arith
test-lt false = omega arith

pub bit-zero : (x : ℕ) → bit 0 x ≡ x % 2
unfolding bit
bit-zero x = omega arith

pub bit-suc : (i x : ℕ) → bit (suc i) x ≡ bit i (x / 2)
unfolding bit
bit-suc i x = ap (λ (d : ℕ). x / d % 2) (pow-suc 2 i ∙ mul_comm (2 ^ i) 2) ∙ ap (λ (q : ℕ). q % 2) (sym (div-div-eq-div-mul x 2 (2 ^ i)))

-- past its width a number has no bit
pub bit_high : (n i x : ℕ) → x < 2 ^ n → n ≤ i → bit i x ≡ 0
unfolding bit
bit_high n i x h l = ap (λ (q : ℕ). q % 2) (div-eq_of_lt (lt_of_lt_of_le h (pow_mono l)))

pub bit-shr : (i k x : ℕ) → bit i (x / 2 ^ k) ≡ bit (k + i) x
unfolding bit
bit-shr i k x = ap (λ (q : ℕ). q % 2) (shr-shr x k i)

-- what is kept of the low bits
pub bit-mod : (n i x : ℕ) → i < n → bit i (x % 2 ^ n) ≡ bit i x
bit-mod zero i x h = absurd (not-suc-le-zero h)
bit-mod (suc n) zero x h = bit-zero (x % 2 ^ suc n) ∙ rw (← add-one n) (mod-mod-pow x n 1) ∙ sym (bit-zero x)
bit-mod (suc n) (suc i) x h =
    bit-suc i (x % 2 ^ suc n)
    ∙ ap (bit i) (rw (← add-one n) (Pow.field x n 1))
    ∙ bit-mod n i (x / 2) (le_of_suc-le-suc h)
    ∙ sym (bit-suc i x)

-- ---- a number of n bits

-- bit i of the number made of f's bits is f i
pub bit-of : (n : ℕ) (f : ℕ → ℕ) → ((k : ℕ) → f k < 2) → (i : ℕ) → i < n → bit i (of_bits n f) ≡ f i
unfolding of_bits
bit-of zero f h i l = absurd (not-suc-le-zero l)
bit-of (suc n) f h zero l = bit-zero (f 0 + 2 * of_bits n (λ k. f (suc k))) ∙ omega (arith, h 0)
bit-of (suc n) f h (suc i) l =
    bit-suc i (f 0 + 2 * of_bits n (λ k. f (suc k)))
    ∙ ap (bit i) (omega (arith, h 0))
    ∙ bit-of n (λ k. f (suc k)) (λ k. h (suc k)) i (le_of_suc-le-suc l)

pub of_lt : (n : ℕ) (f : ℕ → ℕ) → ((k : ℕ) → f k < 2) → of_bits n f < 2 ^ n
unfolding of_bits
of_lt zero f h = omega arith
of_lt (suc n) f h = omega (arith, pow-suc 2 n, h 0, of_lt n (λ k. f (suc k)) (λ k. h (suc k)))

pub of-ext : (n : ℕ) {f g : ℕ → ℕ} → ((i : ℕ) → i < n → f i ≡ g i) → of_bits n f ≡ of_bits n g
unfolding of_bits
of-ext zero h = refl
of-ext (suc n) h = ap₂ (λ (a b : ℕ). a + 2 * b) (h 0 (suc-le-suc zero-le)) (of-ext n λ i l. h (suc i) (suc-le-suc l))

-- a number is made of its bits
pub of-bit : (n x : ℕ) → x < 2 ^ n → of_bits n (λ i. bit i x) ≡ x
unfolding of_bits
of-bit zero x h = omega arith
of-bit (suc n) x h =
    let rest : of_bits n (λ i. bit (suc i) x) ≡ x / 2 = of-ext n (λ i l. bit-suc i x) ∙ of-bit n (x / 2) (shr_lt n 1 (rw add-one h)) in
    omega (arith, bit-zero x)

-- the entry point: a number of n bits, each of which is f's, is the number made of f's bits
pub is-of : (n : ℕ) {x : ℕ} {f : ℕ → ℕ} → x < 2 ^ n → ((i : ℕ) → i < n → bit i x ≡ f i) → x ≡ of_bits n f
is-of n {x} h e = sym (of-bit n x h) ∙ of-ext n e

pub bits-ext : (n : ℕ) {x y : ℕ} → x < 2 ^ n → y < 2 ^ n → ((i : ℕ) → i < n → bit i x ≡ bit i y) → x ≡ y
bits-ext n {x} {y} h k e = is-of n h e ∙ of-bit n y k

-- numbers of any width are equal where all their bits are
lt-pow : (n : ℕ) → n < 2 ^ n
lt-pow zero = omega arith
lt-pow (suc n) = omega (arith, pow-suc 2 n, lt-pow n)

pub all-bits : (x y : ℕ) → ((i : ℕ) → bit i x ≡ bit i y) → x ≡ y
all-bits x y e = bits-ext (x + y) (lt_of_lt_of_le (lt-pow x) (pow_mono (omega arith))) (lt_of_lt_of_le (lt-pow y) (pow_mono (omega arith))) λ i h. e i
