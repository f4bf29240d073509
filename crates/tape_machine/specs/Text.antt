-- Numbers and pixels as text, and text written into a list.
use Rattle.std.specs.Prelude.{ℕ, zero, suc, ◌+◌, ◌/◌, ◌%◌, ◌≡◌, List, [], ◌∷◌, ◌++◌, map, ltb, length, get_or}
use Rattle.std.proofs.lemmas.List.Edits.{sets}
use Rattle.bits.specs.Bit.{pick}

-- at most k decimal digits: those of n / 10, where n has more than one, and the last
unfoldable pub digits_of : ℕ → ℕ → List ℕ
digits_of zero n = []
digits_of (suc k) n = pick (ltb n 10) [] (digits_of k (n / 10)) ++ ((48 + n % 10) ∷ [])

-- a number in decimal; one of 64 bits has at most 20 digits
unfoldable pub decimal_of : ℕ → List ℕ
decimal_of n = digits_of 20 n

-- a number in decimal, and the blank after it
unfoldable pub field_of : ℕ → List ℕ
field_of n = decimal_of n ++ (32 ∷ [])

-- 0 to 9, A to F
abbrev pub hex_digits : List ℕ
hex_digits = 48 ∷ 49 ∷ 50 ∷ 51 ∷ 52 ∷ 53 ∷ 54 ∷ 55 ∷ 56 ∷ 57 ∷ 65 ∷ 66 ∷ 67 ∷ 68 ∷ 69 ∷ 70 ∷ []

-- the digit of a pixel's low four bits
unfoldable pub hex_of : ℕ → ℕ
hex_of x = get_or hex_digits (x % 16) 48

-- "eight hexadecimal digits for an accepted show": a digit for each pixel, the first pixel first
abbrev pub hexes_of : List ℕ → List ℕ
hexes_of l = map hex_of l

-- `text` is written over `before` from `at` on, and `r` is the place after it
pub record Put (before : List ℕ) (at : ℕ) (text after : List ℕ) (r : ℕ) : Type 0 where
  pub wrote : after ≡ sets before at text
  pub ends : r ≡ at + length text
