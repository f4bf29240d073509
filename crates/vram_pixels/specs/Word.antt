-- A word by its bytes, and by where its bits come from.
use Rattle.std.specs.Prelude.{ℕ, ◌+◌, ◌-◌, ◌*◌, ◌^◌, List, [], ◌∷◌, get_or}
use Rattle.bits.specs.Bit.{bit, of_bits, is_one, pick}
use Rattle.machine.specs.Deeds.{eight}

-- the word whose byte i is entry i; byte 0 is the lowest
unfoldable pub of_bytes : List ℕ → ℕ
of_bytes [] = 0
of_bytes (b ∷ l) = b + 256 * of_bytes l

-- bit j of each of four bytes, byte p's as bit p
unfoldable pub across : List ℕ → ℕ → ℕ
across l j = of_bits 4 (λ p. bit j (get_or l p 0))

-- four bytes turned: entry j has bit j of each
abbrev pub turned : List ℕ → List ℕ
turned l = eight (across l)

-- where bit k comes from when each bit under mask m is exchanged with the one d places above it
unfoldable pub came_from : ℕ → ℕ → ℕ → ℕ
came_from d m k = pick (is_one (bit k m)) (d + k) (pick (is_one (bit k (m * 2 ^ d))) (k - d) k)
