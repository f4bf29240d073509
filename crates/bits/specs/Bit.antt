-- Numbers by their bits: bit i of a number, the number whose bits are given, and a choice by a test.
use Rattle.std.specs.Prelude.{ℕ, zero, suc, ◌+◌, ◌*◌, ◌/◌, ◌%◌, ◌^◌, Bool, true, false, eqb}

-- bit i of x, 0 or 1; bit 0 is the lowest
unfoldable pub bit : ℕ → ℕ → ℕ
bit i x = x / 2 ^ i % 2

-- the field of x that begins at bit i and is n bits wide
unfoldable pub field : ℕ → ℕ → ℕ → ℕ
field i n x = x / 2 ^ i % 2 ^ n

-- the number of n bits whose bit i is f i
unfoldable pub of_bits : ℕ → (ℕ → ℕ) → ℕ
of_bits zero f = 0
of_bits (suc n) f = f 0 + 2 * of_bits n (λ i. f (suc i))

-- f 0, f 1 and so on, n of them, added
unfoldable pub sum_of : ℕ → (ℕ → ℕ) → ℕ
sum_of zero f = 0
sum_of (suc n) f = f 0 + sum_of n (λ i. f (suc i))

-- the byte whose bit i is f i
abbrev pub byte_of : (ℕ → ℕ) → ℕ
byte_of f = of_bits 8 f

-- whether a bit is 1
abbrev pub is_one : ℕ → Bool
is_one b = eqb b 1

-- the bit of a test: 1 where it holds
abbrev pub bit_of : Bool → ℕ
bit_of true = 1
bit_of false = 0

-- by a test: the first where it holds, else the second
abbrev pub pick {ℓ} : {A : Type ℓ} → Bool → A → A → A
pick true a b = a
pick false a b = b

-- whether a test holds at each number below n
abbrev pub every : ℕ → (ℕ → Bool) → Bool
every zero f = true
every (suc n) f = pick (f n) (every n f) false
