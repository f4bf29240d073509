-- `odd_even` takes out Memory Mode's bit 2.
use mathlib.Core.Path.{refl, ◌∙◌}
use Rattle.machine.specs.Sequencer.{seq_odd_even}
use Rattle.fields.proofs.Fields.{field-masked, last-of-2}
use Rattle.fields.proofs.seq.odd_even.Goals as goal

pub returns-in-0 : goal.returns-in-0
unfolding seq_odd_even
returns-in-0 c =
    rw (field-masked 2 1 c.args.seq.memory_mode _ refl ∙ c.in-0.is)

pub returns-in_default : goal.returns-in_default
unfolding seq_odd_even
returns-in_default c =
    rw (last-of-2 2 c.args.seq.memory_mode _ refl c.in_default.in_default-own.rest)
