-- `write_mode` takes out Mode's bits 0-1.
use mathlib.Core.Path.{◌∙◌}
use native.Mathlib.Omega.{arith}
use Rattle.machine.specs.Graphics.{write_mode}
use Rattle.fields.proofs.Fields.{field-masked, last-of-4}
use Rattle.fields.proofs.gc.write_mode.Goals as goal

pub returns-in-0 : goal.returns-in-0
unfolding write_mode
returns-in-0 c =
    rw (field-masked 0 2 c.args.registers.mode c.args.registers.mode (omega arith) ∙ c.in-0.is)

pub returns-in-1 : goal.returns-in-1
unfolding write_mode
returns-in-1 c =
    rw (field-masked 0 2 c.args.registers.mode c.args.registers.mode (omega arith) ∙ c.in-1.is)

pub returns-in-2 : goal.returns-in-2
unfolding write_mode
returns-in-2 c =
    rw (field-masked 0 2 c.args.registers.mode c.args.registers.mode (omega arith) ∙ c.in-2.is)

pub returns-in_default : goal.returns-in_default
unfolding write_mode
returns-in_default c =
    rw (last-of-4 0 c.args.registers.mode c.args.registers.mode (omega arith) c.in_default.in_default-own.rest)
