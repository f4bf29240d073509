-- `name` writes an operation's number or '-', and a blank.
use mathlib.Core.List.{[], ◌∷◌}
use Rattle.tape_machine.specs.Lines.{name_of}
use Rattle.tape_reader.proofs.Texts.{first_room, more_room, writes_then}
use Rattle.tape_reader.proofs.text.Text.name.Goals as goal

pub field-requires : goal.field-requires
unfolding name_of
field-requires c = rw c.in-Some.is at c.requires

pub put-requires : goal.put-requires
unfolding name_of
put-requires c = first_room (32 ∷ []) (rw c.in-None.is at c.requires)

pub put-requires-in-None : goal.put-requires-in-None
unfolding name_of
put-requires-in-None c = more_room (45 ∷ []) (rw c.in-None.is at c.requires) c.put.ensures

pub returns-in-Some : goal.returns-in-Some
unfolding name_of
returns-in-Some c = rw c.in-Some.is c.field.ensures

pub returns-in-None : goal.returns-in-None
unfolding name_of
returns-in-None c = rw c.in-None.is (writes_then c.put.ensures c.put-in-None.ensures)
