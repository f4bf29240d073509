-- Parts of bytes as the code takes them out, by shifts and masks, are the machine's pixels.
use Prim.Native.Nat.{ℕ, ◌/◌, ◌<◌, ◌^◌}
use native.Mathlib.Omega.{arith}
use mathlib.Core.Path.{◌≡◌, refl, sym}
use mathlib.Core.List.{[], ◌∷◌}
use lib.Bits.{bit_and}
use lib.ListN.{get_or}
use Rattle.bits.specs.Bit.{field}
use Rattle.machine.specs.Deeds.{eight, nibble, pair}
use Rattle.fields.proofs.Fields.{field-masked}

-- ---- the fields of a byte: the uppermost needs no mask

high-four : (x : ℕ) → x < 256 → x / 2 ^ 4 ≡ field 4 4 x
unfolding field
high-four x h = omega arith

low-four : (x : ℕ) → bit_and x 15 ≡ field 0 4 x
low-four x = sym (field-masked 0 4 x x (omega arith))

high-two : (x : ℕ) → x < 256 → x / 2 ^ 6 ≡ field 6 2 x
unfolding field
high-two x h = omega arith

second-two : (x : ℕ) → bit_and (x / 2 ^ 4) 3 ≡ field 4 2 x
second-two x = sym (field-masked 4 2 x (x / 2 ^ 4) refl)

third-two : (x : ℕ) → bit_and (x / 2 ^ 2) 3 ≡ field 2 2 x
third-two x = sym (field-masked 2 2 x (x / 2 ^ 2) refl)

low-two : (x : ℕ) → bit_and x 3 ≡ field 0 2 x
low-two x = sym (field-masked 0 2 x x (omega arith))

-- ---- eight pixels

pub nibbles_are : (a b c d : ℕ) → a < 256 → b < 256 → c < 256 → d < 256
    → a / 2 ^ 4 ∷ bit_and a 15 ∷ b / 2 ^ 4 ∷ bit_and b 15 ∷ c / 2 ^ 4 ∷ bit_and c 15 ∷ d / 2 ^ 4 ∷ bit_and d 15 ∷ [] ≡ eight (λ j. nibble j (get_or (a ∷ b ∷ c ∷ d ∷ []) (j / 2) 0))
unfolding nibble
nibbles_are a b c d ha hb hc hd = rw (high-four a ha, low-four a, high-four b hb, low-four b, high-four c hc, low-four c, high-four d hd, low-four d)

pub pairs_are : (a b : ℕ) → a < 256 → b < 256
    → a / 2 ^ 6 ∷ bit_and (a / 2 ^ 4) 3 ∷ bit_and (a / 2 ^ 2) 3 ∷ bit_and a 3 ∷ b / 2 ^ 6 ∷ bit_and (b / 2 ^ 4) 3 ∷ bit_and (b / 2 ^ 2) 3 ∷ bit_and b 3 ∷ []
    ≡ eight (λ j. pair j (get_or (a ∷ b ∷ []) (j / 4) 0))
unfolding pair
pairs_are a b ha hb = rw (high-two a ha, second-two a, third-two a, low-two a, high-two b hb, second-two b, third-two b, low-two b)
