-- `clocking` has the four pairs of Clocking Mode's bits 0 and 3.
use Rattle.std.proofs.Common.{true, false}
use Rattle.sequencer_registers.proofs.Laws.{clocks_of}
use Rattle.sequencer_registers.proofs.registers.clocking.Goals as goal

pub returns-in-true-true : goal.returns-in-true-true
returns-in-true-true c = clocks_of c.args.mode true true c.in-true-true.is-1 c.in-true-true.is-0

pub returns-in-true-false : goal.returns-in-true-false
returns-in-true-false c = clocks_of c.args.mode false true c.in-true-false.is-1 c.in-true-false.is-0

pub returns-in-false-true : goal.returns-in-false-true
returns-in-false-true c = clocks_of c.args.mode true false c.in-false-true.is-1 c.in-false-true.is-0

pub returns-in-false-false : goal.returns-in-false-false
returns-in-false-false c = clocks_of c.args.mode false false c.in-false-false.is-1 c.in-false-false.is-0
