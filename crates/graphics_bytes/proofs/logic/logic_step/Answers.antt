-- `logic_step` is the rule bit by bit: from the law of the code's expression for each function.
use Rattle.machine_types.specs.declared.gc.LogicFunction.TheVariants.{Unmodified, And, Or, Xor}
use Rattle.graphics_bytes.proofs.Step.{whole_is}
use Rattle.graphics_bytes.proofs.logic.logic_step.Goals as goal

pub returns-in-Unmodified : goal.returns-in-Unmodified
returns-in-Unmodified c =
    rw c.in-Unmodified.is (whole_is _ _ _ c.ranges.mask.fits c.ranges.«data».fits c.ranges.latch.fits Unmodified)

pub returns-in-And : goal.returns-in-And
returns-in-And c =
    rw c.in-And.is (whole_is _ _ _ c.ranges.mask.fits c.ranges.«data».fits c.ranges.latch.fits And)

pub returns-in-Or : goal.returns-in-Or
returns-in-Or c =
    rw c.in-Or.is (whole_is _ _ _ c.ranges.mask.fits c.ranges.«data».fits c.ranges.latch.fits Or)

pub returns-in-Xor : goal.returns-in-Xor
returns-in-Xor c =
    rw c.in-Xor.is (whole_is _ _ _ c.ranges.mask.fits c.ranges.«data».fits c.ranges.latch.fits Xor)
