-- Which byte of a turned word is which pixel: eight bytes of it stored one by one are the machine's eight remade.
use Prim.Native.Nat.{ℕ, ◌-◌, ◌*◌, ◌<◌}
use native.Mathlib.Omega.{arith}
use mathlib.Core.Path.{◌≡◌, ap}
use mathlib.Core.List.{List}
use lib.ListN.{get_or}
use lib.Seq.{sets}
use Rattle.bits.specs.Bit.{bit, field, of_bits}
use Rattle.bits.proofs.Laws.{bit-lt, of_lt}
use Rattle.machine.specs.Memory.{Memory, mem}
use Rattle.machine.specs.Deeds.{loaded, pixel_of, eight, remade}
use Rattle.vram_pixels.specs.Word.{of_bytes, across, turned}
use Rattle.vram_pixels.proofs.Words.{byte_at}

across_lt : (l : List ℕ) (j : ℕ) → across l j < 256
unfolding across
across_lt l j = omega (arith, of_lt 4 (λ p. bit j (get_or l p 0)) (λ p. bit-lt j (get_or l p 0)))

module _ (m : Memory) (o w : ℕ) (is : w ≡ of_bytes (turned (loaded m o))) where
  byte-is : (j : ℕ) → field (8 * j) 8 w ≡ get_or (turned (loaded m o)) j 0
  byte-is j = rw is (byte_at (turned (loaded m o)) (lt 0, (lt 1, (lt 2, (lt 3, (lt 4, (lt 5, (lt 6, (lt 7, tt)))))))) j)
    where
      lt : (j : ℕ) → across (loaded m o) j < 256
      lt = across_lt (loaded m o)

  -- pixel i is byte 7 - i of the word that the offset's four bytes are turned into
  pixels-are : eight (λ i. field (8 * (7 - i)) 8 w) ≡ eight (pixel_of m o)
  unfolding pixel_of loaded across of_bits
  pixels-are = rw (byte-is 7, byte-is 6, byte-is 5, byte-is 4, byte-is 3, byte-is 2, byte-is 1, byte-is 0)

  -- .. and so, stored from byte 7 down, they are the eight remade
  pub remade-eight : (i : ℕ) (l : List ℕ) → i ≡ 8 * o → l ≡ sets m.picture i (eight (λ j. field (8 * (7 - j)) 8 w)) → mem m.p0 m.p1 m.p2 m.p3 l ≡ remade o m
  unfolding remade
  remade-eight i l ei el = rw (el, ei) (ap (λ (e : List ℕ). mem m.p0 m.p1 m.p2 m.p3 (sets m.picture (8 * o) e)) pixels-are)
