-- `field` writes a number and a blank.
use Rattle.tape_machine.specs.Text.{field_of}
use Rattle.tape_reader.proofs.Texts.{first_room, more_room, writes_then}
use Rattle.tape_reader.proofs.text.Text.field.Goals as goal

pub decimal-requires : goal.decimal-requires
unfolding field_of
decimal-requires c = first_room _ c.requires

pub put-requires : goal.put-requires
unfolding field_of
put-requires c = more_room _ c.requires c.decimal.ensures

pub returns : goal.returns
unfolding field_of
returns c = writes_then c.decimal.ensures c.put.ensures
