-- `read_mode` takes out Mode's bit 3.
use mathlib.Core.Path.{refl, ◌∙◌}
use Rattle.machine.specs.Graphics.{read_mode}
use Rattle.fields.proofs.Fields.{field-masked, last-of-2}
use Rattle.fields.proofs.gc.read_mode.Goals as goal

pub returns-in-0 : goal.returns-in-0
unfolding read_mode
returns-in-0 c =
    rw (field-masked 3 1 c.args.registers.mode _ refl ∙ c.in-0.is)

pub returns-in_default : goal.returns-in_default
unfolding read_mode
returns-in_default c =
    rw (last-of-2 3 c.args.registers.mode _ refl c.in_default.in_default-own.rest)
