-- `odd_even` takes out Mode's bit 4.
use mathlib.Core.Path.{refl, ◌∙◌}
use Rattle.machine.specs.Graphics.{odd_even}
use Rattle.fields.proofs.Fields.{field-masked, last-of-2}
use Rattle.fields.proofs.gc.odd_even.Goals as goal

pub returns-in-0 : goal.returns-in-0
unfolding odd_even
returns-in-0 c =
    rw (field-masked 4 1 c.args.registers.mode _ refl ∙ c.in-0.is)

pub returns-in_default : goal.returns-in_default
unfolding odd_even
returns-in_default c =
    rw (last-of-2 4 c.args.registers.mode _ refl c.in_default.in_default-own.rest)
