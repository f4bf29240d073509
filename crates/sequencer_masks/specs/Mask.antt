-- The plane mask as one number, as the code hands it round.
use Rattle.std.specs.Prelude.{ℕ, Bool}
use Rattle.bits.specs.Bit.{of_bits, bit_of}
use Rattle.machine_types.specs.declared.seq.Sequencer.{Sequencer}
use Rattle.machine.specs.Sequencer.{in_mask}

-- four bits: bit p is 1 where a store at the offset reaches plane p
unfoldable pub mask_of : Sequencer → ℕ → Bool → ℕ
mask_of s o a0 = of_bits 4 (λ p. bit_of (in_mask s o a0 p))
