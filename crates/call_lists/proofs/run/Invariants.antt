-- Each turn reads bytes of those that may still be read.
use Rattle.call_lists.proofs.run.Given as goal

abbrev pub decreases-loop-left : goal.decreases-loop-left
decreases-loop-left l = l.left
