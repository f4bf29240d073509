-- Each tape's bytes are passed, its length's byte among them.
use Rattle.std.proofs.Common.{length}
use Rattle.tape_cases.proofs.each.Given as goal

abbrev pub decreases-loop-tapes : goal.decreases-loop-tapes
decreases-loop-tapes l = length l.tapes
