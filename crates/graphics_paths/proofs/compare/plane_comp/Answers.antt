-- `plane_comp` is the machine's rule for a plane at each bit: from the test of its Don't Care bit.
use Rattle.std.proofs.Common.{arith, rules}
use Rattle.bits.specs.Bit.{bit, of_bits}
use Rattle.bits.proofs.Laws.{bit-lt}
use Rattle.bits.proofs.Bitwise.{bit-set, bit-clear}
use Rattle.graphics_paths.proofs.Colour.{same_bits}
use Rattle.graphics_paths.proofs.compare.plane_comp.Goals as goal

pub returns-then-color_dont_care-plane-ne0 : goal.returns-then-color_dont_care-plane-ne0
returns-then-color_dont_care-plane-ne0 c =
    rw (bit-set c.args.color_dont_care c.args.plane (omega arith) c.if-color_dont_care-plane-ne0.true)
    (same_bits c.args.latch c.spread.result (bit c.args.plane c.args.color_compare) (search rules) (search rules) (bit-lt _ _) c.spread.ensures)

pub returns : goal.returns
unfolding of_bits
returns c =
    rw (bit-clear c.args.color_dont_care c.args.plane (omega arith) c.if-color_dont_care-plane-ne0.false)
