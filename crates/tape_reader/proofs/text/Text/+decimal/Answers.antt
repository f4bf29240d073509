-- `decimal` writes its only digit, or the digits of n / 10 and then the last: from the equations of decimal digits.
use Rattle.std.proofs.Common.{rules, arith}
use Rattle.tape_reader.proofs.Texts.{first_room, more_room, writes_then, decimal_one, decimal_more}
use Rattle.tape_reader.proofs.text.Text.+decimal.Goals as goal

pub put-requires : goal.put-requires
put-requires t c =
    let h = c.requires in
    rw (decimal_one c.args.number c.if-number-lt10.true) at h

pub decimal-requires : goal.decimal-requires
decimal-requires t c =
    let h = c.requires in
    (omega (arith, c.decreases), first_room _ (rw (decimal_more c.args.number c.if-number-lt10.false (search rules)) at h))

pub put-requires-2 : goal.put-requires-2
put-requires-2 t c =
    let h = c.requires in
    more_room _ (rw (decimal_more c.args.number c.if-number-lt10.false (search rules)) at h) c.decimal.ensures

pub returns-then-number-lt10 : goal.returns-then-number-lt10
returns-then-number-lt10 t c = rw (decimal_one c.args.number c.if-number-lt10.true) c.put.ensures

pub returns : goal.returns
returns t c = rw (decimal_more c.args.number c.if-number-lt10.false (search rules)) (writes_then c.decimal.ensures c.put-2.ensures)
