-- Short names for parts of the machine's plan of a write: nothing is defined here that the machine has not.
use Rattle.std.specs.Prelude.{ℕ, Bool, ◌&&◌}
use Rattle.bits.specs.Bit.{of_bits, bit_of}
use Rattle.machine_types.specs.declared.gc.GraphicsRegisters.{GraphicsRegisters}
use Rattle.machine_types.specs.declared.seq.Sequencer.{Sequencer}
use Rattle.machine.specs.Address.{a0}
use Rattle.machine.specs.Sequencer.{in_mask}
use Rattle.machine.specs.DataPath.{visits}

-- whether a write at address x and offset o stores plane p: it visits it, and the mask has it
unfoldable pub stores : GraphicsRegisters → Sequencer → ℕ → ℕ → ℕ → Bool
stores r s x o p = visits r x p && in_mask s o (a0 x) p

-- the same as four bits
unfoldable pub stores_to : GraphicsRegisters → Sequencer → ℕ → ℕ → ℕ
stores_to r s x o = of_bits 4 (λ p. bit_of (stores r s x o p))
