-- `value` writes a byte, eight digits or 0.
use Rattle.tape_reader.proofs.Texts.{answer_text, pixels_text, refused_text, changes_text}
use Rattle.tape_reader.proofs.text.Text.value.Goals as goal

pub decimal-requires : goal.decimal-requires
decimal-requires c = rw c.from.ensures (rw (answer_text c.in-Byte.is c.from-answer.ensures) at c.requires)

pub digits-requires : goal.digits-requires
digits-requires c = rw (pixels_text c.in-Pixels-default-Ok.is (rw c.in-Pixels-default-Ok.is at c.in-Pixels-default-Ok.field-1-is)) at c.requires

pub decimal-requires-in-Pixels-default-Err : goal.decimal-requires-in-Pixels-default-Err
decimal-requires-in-Pixels-default-Err c = rw (refused_text c.in-Pixels-default-Err.is (rw c.in-Pixels-default-Err.is at c.in-Pixels-default-Err.field-1-is)) at c.requires

pub decimal-requires-in-Changes : goal.decimal-requires-in-Changes
decimal-requires-in-Changes c = rw (changes_text c.in-Changes.is) at c.requires

pub returns-in-Byte : goal.returns-in-Byte
returns-in-Byte c = rw (answer_text c.in-Byte.is c.from-answer.ensures) (rw c.from.ensures at c.decimal.ensures)

pub returns-in-Pixels-default-Ok : goal.returns-in-Pixels-default-Ok
returns-in-Pixels-default-Ok c = rw (pixels_text c.in-Pixels-default-Ok.is (rw c.in-Pixels-default-Ok.is at c.in-Pixels-default-Ok.field-1-is)) c.digits.ensures

pub returns-in-Pixels-default-Err : goal.returns-in-Pixels-default-Err
returns-in-Pixels-default-Err c = rw (refused_text c.in-Pixels-default-Err.is (rw c.in-Pixels-default-Err.is at c.in-Pixels-default-Err.field-1-is)) c.decimal-in-Pixels-default-Err.ensures

pub returns-in-Changes : goal.returns-in-Changes
returns-in-Changes c = rw (changes_text c.in-Changes.is) c.decimal-in-Changes.ensures
