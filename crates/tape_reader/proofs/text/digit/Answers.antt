-- `digit` is the table of sixteen digits at a pixel's low four bits.
use lib.Bits.{and_mask}
use Prim.Native.Nat.{◌%◌}
use native.Mathlib.Omega.{arith}
use Rattle.tape_machine.specs.Text.{hex_of}
use Rattle.tape_reader.proofs.Texts.{digit_so}
use Rattle.tape_reader.proofs.text.digit.Goals as goal

pub returns : goal.returns
unfolding hex_of
returns c = rw (c.from.ensures, and_mask c.args.pixel 4) (digit_so (c.args.pixel % 16) (omega arith))
