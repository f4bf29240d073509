-- `gc_read_at` goes by odd/even first, then as a store does.
use mathlib.Core.Path.{sym, ◌∙◌}
use Rattle.machine.specs.Sequencer.{stored_at, gc_read_at}
use Rattle.sequencer_masks.proofs.inner.gc_read_at.Goals as goal

pub returns-in-OddEven : goal.returns-in-OddEven
unfolding gc_read_at
returns-in-OddEven c =
    rw (sym c.odd_even-odd_even.ensures ∙ c.in-OddEven.is)

pub returns-in-Sequential : goal.returns-in-Sequential
unfolding gc_read_at stored_at
returns-in-Sequential c =
    rw (sym c.odd_even-odd_even.ensures ∙ c.in-Sequential.is) c.stored_at.ensures
