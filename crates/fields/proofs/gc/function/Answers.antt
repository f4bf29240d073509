-- `function` takes out Data Rotate's bits 3-4.
use mathlib.Core.Path.{refl, ◌∙◌}
use Rattle.machine.specs.Graphics.{logic_function}
use Rattle.fields.proofs.Fields.{field-masked, last-of-4}
use Rattle.fields.proofs.gc.function.Goals as goal

pub returns-in-0 : goal.returns-in-0
unfolding logic_function
returns-in-0 c =
    rw (field-masked 3 2 c.args.registers.data_rotate _ refl ∙ c.in-0.is)

pub returns-in-1 : goal.returns-in-1
unfolding logic_function
returns-in-1 c =
    rw (field-masked 3 2 c.args.registers.data_rotate _ refl ∙ c.in-1.is)

pub returns-in-2 : goal.returns-in-2
unfolding logic_function
returns-in-2 c =
    rw (field-masked 3 2 c.args.registers.data_rotate _ refl ∙ c.in-2.is)

pub returns-in_default : goal.returns-in_default
unfolding logic_function
returns-in_default c =
    rw (last-of-4 3 c.args.registers.data_rotate _ refl c.in_default.in_default-own.rest)
