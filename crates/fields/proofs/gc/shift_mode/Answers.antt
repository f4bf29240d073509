-- `shift_mode` takes out Mode's bits 5-6.
use mathlib.Core.Path.{refl, ◌∙◌}
use Rattle.machine.specs.Graphics.{shift_mode}
use Rattle.fields.proofs.Fields.{field-masked, last-of-4}
use Rattle.fields.proofs.gc.shift_mode.Goals as goal

pub returns-in-0 : goal.returns-in-0
unfolding shift_mode
returns-in-0 c =
    rw (field-masked 5 2 c.args.registers.mode _ refl ∙ c.in-0.is)

pub returns-in-1 : goal.returns-in-1
unfolding shift_mode
returns-in-1 c =
    rw (field-masked 5 2 c.args.registers.mode _ refl ∙ c.in-1.is)

pub returns-in-2 : goal.returns-in-2
unfolding shift_mode
returns-in-2 c =
    rw (field-masked 5 2 c.args.registers.mode _ refl ∙ c.in-2.is)

pub returns-in_default : goal.returns-in_default
unfolding shift_mode
returns-in_default c =
    rw (last-of-4 5 c.args.registers.mode _ refl c.in_default.in_default-own.rest)
