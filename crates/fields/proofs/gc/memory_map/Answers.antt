-- `memory_map` takes out Miscellaneous' bits 2-3.
use mathlib.Core.Path.{refl, ◌∙◌}
use Rattle.machine.specs.Graphics.{memory_map}
use Rattle.fields.proofs.Fields.{field-masked, last-of-4}
use Rattle.fields.proofs.gc.memory_map.Goals as goal

pub returns-in-0 : goal.returns-in-0
unfolding memory_map
returns-in-0 c =
    rw (field-masked 2 2 c.args.registers.miscellaneous _ refl ∙ c.in-0.is)

pub returns-in-1 : goal.returns-in-1
unfolding memory_map
returns-in-1 c =
    rw (field-masked 2 2 c.args.registers.miscellaneous _ refl ∙ c.in-1.is)

pub returns-in-2 : goal.returns-in-2
unfolding memory_map
returns-in-2 c =
    rw (field-masked 2 2 c.args.registers.miscellaneous _ refl ∙ c.in-2.is)

pub returns-in_default : goal.returns-in_default
unfolding memory_map
returns-in_default c =
    rw (last-of-4 2 c.args.registers.miscellaneous _ refl c.in_default.in_default-own.rest)
