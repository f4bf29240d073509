-- A short name for a part of the machine's read: nothing is defined here that the machine has not.
use Rattle.std.specs.Prelude.{ℕ, List}
use Rattle.machine_types.specs.declared.gc.GraphicsRegisters.{GraphicsRegisters}
use Rattle.machine_types.specs.declared.gc.ReadMode.{ReadMode}
use Rattle.machine_types.specs.declared.gc.ReadMode.TheVariants.{ReadSelectedPlane, ReadComparedPlanes}
use Rattle.machine_types.specs.declared.seq.Sequencer.{Sequencer}
use Rattle.machine.specs.DataPath.{selected_plane}
use Rattle.machine.specs.Deeds.{latch, compared}

-- what the machine's read of an address, which leads to an offset, replies from the latches that it loaded
unfoldable pub read_byte : ReadMode → GraphicsRegisters → Sequencer → ℕ → ℕ → List ℕ → ℕ
read_byte ReadSelectedPlane r s x o l = latch l (selected_plane r s x o)
read_byte ReadComparedPlanes r s x o l = compared r.color_dont_care r.color_compare l
