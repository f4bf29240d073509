-- What a register keeps of a byte, by the code's masks.
use Rattle.std.proofs.Common.{◌≡◌, ℕ, ◌%◌}
use lib.Bits.{bit_and, and_mask}

pub four_kept : (x : ℕ) → bit_and x 15 ≡ x % 16
four_kept x = and_mask x 4

pub two_kept : (x : ℕ) → bit_and x 3 ≡ x % 4
two_kept x = and_mask x 2
