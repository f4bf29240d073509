-- `set_reset` is the plane's Set/Reset bit, spread, or the data: from the test of the Enable bit.
use native.Mathlib.Omega.{arith}
use Rattle.bits.proofs.Bitwise.{bit-set, bit-clear}
use Rattle.graphics_bytes.proofs.set_reset.Goals as goal

pub returns-then-registers-plane-ne0 : goal.returns-then-registers-plane-ne0
returns-then-registers-plane-ne0 c =
    rw (bit-set c.args.registers.enable_set_reset c.args.plane (omega arith) c.if-registers-plane-ne0.true) c.spread.ensures

pub returns : goal.returns
returns c =
    rw (bit-clear c.args.registers.enable_set_reset c.args.plane (omega arith) c.if-registers-plane-ne0.false)
