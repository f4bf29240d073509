-- Bit 0 of an address or a map select, as the code takes it out and replaces it.
use Prim.Native.Nat.{ℕ, zero, suc, ◌-◌, ◌*◌, ◌/◌, ◌^◌, ◌≤◌, ◌<◌}
use native.Mathlib.Omega.{arith}
use mathlib.Core.Path.{◌≡◌, refl, sym, ap, ◌∙◌}
use lib.Bits.{bit_and, bit_or, and_mask, and_high, or_shifted}
use Rattle.bits.specs.Bit.{bit, is_one, bit_of}
use Rattle.bits.proofs.Laws.{bit-lt, bit-zero}
use Rattle.machine.specs.Address.{with_bit0, a0}

-- `(x & !1) | b`
pub bit0-replaced : (x b : ℕ) → x < 2 ^ 64 → b ≤ 1 → bit_or (bit_and x (2 ^ 64 - 2)) b ≡ with_bit0 b x
bit0-replaced x b h l =
    let e : bit_and x (2 ^ 64 - 2) ≡ x / 2 * 2 = and_high x 63 1 ∙ omega arith in
    ap (λ (y : ℕ). bit_or y b) e ∙ or_shifted (x / 2) 1 b (omega arith)

-- `x & 1`
pub bit0_is : (x : ℕ) → bit_and x 1 ≡ bit 0 x
bit0_is x = and_mask x 1 ∙ sym (bit-zero x)

pub bit0-of : (x : ℕ) → bit_and x 1 ≡ bit_of (a0 x)
bit0-of x = bit0_is x ∙ go (bit 0 x) (bit-lt 0 x)
  where
    go : (b : ℕ) → b < 2 → b ≡ bit_of (is_one b)
    go zero l = refl
    go (suc zero) l = refl
    go (suc (suc b)) l = absurd (omega arith)
