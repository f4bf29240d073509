-- `digits` has written a digit for each pixel before.
use Rattle.std.proofs.Common.{take}
use Rattle.tape_machine.specs.Text.{hexes_of}
use Rattle.tape_reader.specs.Writes.{Writes}
use Rattle.tape_reader.proofs.text.Text.digits.Given as goal

abbrev pub invariant-loop-pixel : goal.invariant-loop-pixel
invariant-loop-pixel l = Writes (hexes_of (take l.pixel-index l.fn.pixels)) l.fn.self l.self
