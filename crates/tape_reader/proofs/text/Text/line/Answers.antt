-- `line` writes the five parts of a line, one after the other.
use Rattle.tape_machine.specs.Lines.{line_of}
use Rattle.tape_reader.proofs.Texts.{first_room, more_room, writes_then}
use Rattle.tape_reader.proofs.text.Text.line.Goals as goal

pub field-requires : goal.field-requires
unfolding line_of
field-requires c = first_room _ c.requires

pub name-requires : goal.name-requires
unfolding line_of
name-requires c = first_room _ (more_room _ c.requires c.field.ensures)

pub field-requires-2 : goal.field-requires-2
unfolding line_of
field-requires-2 c =
    rw (c.from.ensures, c.number.ensures) (first_room _ (more_room _ (more_room _ c.requires c.field.ensures) c.name.ensures))

pub value-requires : goal.value-requires
unfolding line_of
value-requires c =
    let f = rw (c.from.ensures, c.number.ensures) at c.field-2.ensures in
    first_room _ (more_room _ (more_room _ (more_room _ c.requires c.field.ensures) c.name.ensures) f)

pub put-requires : goal.put-requires
unfolding line_of
put-requires c =
    let f = rw (c.from.ensures, c.number.ensures) at c.field-2.ensures in
    more_room _ (more_room _ (more_room _ (more_room _ c.requires c.field.ensures) c.name.ensures) f) c.value.ensures

pub returns : goal.returns
unfolding line_of
returns c =
    let f = rw (c.from.ensures, c.number.ensures) at c.field-2.ensures in
    writes_then c.field.ensures (writes_then c.name.ensures (writes_then f (writes_then c.value.ensures c.put.ensures)))
