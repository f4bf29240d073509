-- `mask` makes the machine's mask in each of its three cases, by the laws of the mask.
use native.Mathlib.Omega.{arith}
use mathlib.Core.Path.{sym, ◌∙◌}
use lib.Bits.{and_mask}
use Rattle.sequencer_masks.proofs.Laws.{mask-chained, mask-sequential, mask-odd-even, a0-lt}
use Rattle.sequencer_masks.proofs.inner.mask.Goals as goal

pub overflow_cast-result : goal.overflow_cast-result
overflow_cast-result c =
    omega (arith, and_mask c.args.offset 2)

pub overflow_shl-result : goal.overflow_shl-result
overflow_shl-result c =
    omega (arith, and_mask c.args.offset 2)

pub returns-then-chain_four : goal.returns-then-chain_four
returns-then-chain_four c = mask-chained _ _ _ (sym c.chain_four.ensures ∙ c.if-chain_four.true)

pub overflow_shl-result-in-OddEven : goal.overflow_shl-result-in-OddEven
overflow_shl-result-in-OddEven c =
    a0-lt c.args.a0

pub returns-in-Sequential : goal.returns-in-Sequential
returns-in-Sequential c =
    mask-sequential _ _ _ c.requires (sym c.chain_four.ensures ∙ c.if-chain_four.false) (sym c.odd_even-odd_even.ensures ∙ c.in-Sequential.is)

pub returns-in-OddEven : goal.returns-in-OddEven
returns-in-OddEven c =
    mask-odd-even _ _ _ c.requires (sym c.chain_four.ensures ∙ c.if-chain_four.false) (sym c.odd_even-odd_even.ensures ∙ c.in-OddEven.is)
