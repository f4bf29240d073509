-- `selected` names the register of each address byte.
use native.Mathlib.Omega.{arith}
use Rattle.machine.specs.Sequencer.{selects_seq}
use Rattle.fields.proofs.Selects.{selects-invalid}
use Rattle.fields.proofs.seq.selected.Goals as goal

pub returns-in-0 : goal.returns-in-0
unfolding selects_seq
returns-in-0 c = rw c.in-0.is

pub returns-in-1 : goal.returns-in-1
unfolding selects_seq
returns-in-1 c = rw c.in-1.is

pub returns-in-2 : goal.returns-in-2
unfolding selects_seq
returns-in-2 c = rw c.in-2.is

pub returns-in-3 : goal.returns-in-3
unfolding selects_seq
returns-in-3 c = rw c.in-3.is

pub returns-in-4 : goal.returns-in-4
unfolding selects_seq
returns-in-4 c = rw c.in-4.is

pub returns-in_default : goal.returns-in_default
returns-in_default c = selects-invalid _ (omega (arith, c.in_default.in_default-own.rest))
