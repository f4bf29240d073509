-- `digits` has room for each digit.
use borrow.Author.Rules.{rules}
use Rattle.tape_reader.proofs.Texts.{next_room}
use Rattle.tape_reader.proofs.text.Text.digits.Goals as goal

pub put-requires : goal.put-requires
put-requires c = next_room c.args.pixels _ _ (search rules) c.loop-pixel-test.true c.requires c.loop-pixel.invariant
