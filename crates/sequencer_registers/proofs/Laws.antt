-- What the proofs of the ports cite: the bytes that registers keep, and the clock.
use Prim.Native.Nat.{ℕ, ◌+◌, ◌-◌, ◌*◌, ◌/◌, ◌%◌, ◌^◌, ◌<◌}
use native.Mathlib.Omega.{arith}
use mathlib.Core.Path.{◌≡◌, refl, sym, ap, ◌∙◌}
use mathlib.Core.Bool.{Bool}
use lib.Dec.{eqb}
use lib.Bits.{bit_and, and_mask}
use Rattle.bits.specs.Bit.{bit, is_one, bit_of}
use Rattle.bits.proofs.Laws.{bit-lt, bit-zero, bit-mod}
use Rattle.bits.proofs.Bitwise.{shr_and_one}
use Rattle.bits.proofs.Decide.{agree1}
use Rattle.machine.specs.Sequencer.{divisor_of, clock_of}

-- data lose bits 6 and 7, then a register keeps its low 2 or 4
pub six_kept : (x : ℕ) → bit_and x 63 ≡ x % 64
six_kept x = and_mask x 6

pub two_kept : (x : ℕ) → bit_and x 3 ≡ x % 4
two_kept x = and_mask x 2

pub four_kept : (x : ℕ) → bit_and x 15 ≡ x % 16
four_kept x = and_mask x 4

-- .. and the clock knows no bit that they lose
pub divisor_kept : (x : ℕ) → divisor_of (bit_and x 63) ≡ divisor_of x
divisor_kept x = rw (and_mask x 6, bit-mod 6 3 x (omega arith))

pub clock_kept : (x : ℕ) → clock_of (bit_and x 63) ≡ clock_of x
clock_kept x = rw (and_mask x 6, bit-mod 6 3 x (omega arith), bit-mod 6 0 x (omega arith))

pub ruleset kept = (six_kept, two_kept, four_kept, divisor_kept, clock_kept)

-- the bit that a test found
tested : {b : ℕ} {t : Bool} → b < 2 → is_one b ≡ t → b ≡ bit_of t
tested {b} h e = agree1 2 (λ b. b) (λ b. bit_of (is_one b)) tt b h ∙ ap bit_of e

-- the two numbers that bits 0 and 3 of Clocking Mode stand for, by the code's tests of them
pub clocks_of : (x : ℕ) (dots half : Bool) → eqb (bit_and x 1) 1 ≡ dots → eqb (bit_and (x / 2 ^ 3) 1) 1 ≡ half
    → (1 + bit_of half ≡ divisor_of x) × ((9 - bit_of dots) * (1 + bit_of half) ≡ clock_of x)
clocks_of x dots half e f =
    let d : bit 0 x ≡ bit_of dots = tested (bit-lt 0 x) (ap is_one (bit-zero x ∙ sym (and_mask x 1)) ∙ e) in
    let h : bit 3 x ≡ bit_of half = tested (bit-lt 3 x) (ap is_one (sym (shr_and_one x 3)) ∙ f) in
    rw (d, h) (refl, refl)
