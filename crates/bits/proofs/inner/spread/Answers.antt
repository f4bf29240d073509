-- `spread` is one bit, eight times: from the test of the bit.
use Rattle.std.proofs.Common.{arith}
use Rattle.bits.proofs.Bitwise.{bit-set, bit-clear}
use Rattle.bits.specs.Bit.{of_bits}
use Rattle.bits.proofs.inner.spread.Goals as goal

pub returns-then-byte-index-ne0 : goal.returns-then-byte-index-ne0
unfolding of_bits
returns-then-byte-index-ne0 c =
    rw (bit-set c.args.byte c.args.index (omega arith) c.if-byte-index-ne0.true)

pub returns : goal.returns
unfolding of_bits
returns c =
    rw (bit-clear c.args.byte c.args.index (omega arith) c.if-byte-index-ne0.false)
