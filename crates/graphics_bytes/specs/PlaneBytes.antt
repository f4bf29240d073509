-- Short names for parts of the machine's plan of a write: nothing is defined here that the machine has not.
use Rattle.std.specs.Prelude.{ℕ, List, [], ◌∷◌}
use Rattle.bits.specs.Bit.{bit, byte_of}
use Rattle.machine_types.specs.declared.gc.GraphicsRegisters.{GraphicsRegisters}
use Rattle.machine_types.specs.declared.gc.WriteMode.{WriteMode}
use Rattle.machine.specs.DataPath.{written_bit}
use Rattle.machine.specs.Deeds.{latch}

-- the byte that a write of x puts into plane p
unfoldable pub plane_bytes : WriteMode → GraphicsRegisters → ℕ → List ℕ → ℕ → ℕ
plane_bytes w r x l p = byte_of (λ i. written_bit w r x p i (bit i (latch l p)))

-- one number for each plane
abbrev pub four : (ℕ → ℕ) → List ℕ
four f = f 0 ∷ f 1 ∷ f 2 ∷ f 3 ∷ []
