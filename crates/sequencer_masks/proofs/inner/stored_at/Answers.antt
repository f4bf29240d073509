-- `stored_at` clears the low two bits under chain-four.
use mathlib.Core.Path.{sym, ◌∙◌}
use borrow.Author.Rules.{rules}
use Rattle.machine.specs.Sequencer.{stored_at}
use Rattle.sequencer_masks.proofs.Laws.{cleared}
use Rattle.sequencer_masks.proofs.inner.stored_at.Goals as goal

pub returns-then-chain_four : goal.returns-then-chain_four
unfolding stored_at
returns-then-chain_four c = rw (sym c.chain_four.ensures ∙ c.if-chain_four.true) (cleared _ (search rules))

pub returns : goal.returns
unfolding stored_at
returns c = rw (sym c.chain_four.ensures ∙ c.if-chain_four.false)
