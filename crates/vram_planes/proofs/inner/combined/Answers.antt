-- `combined` makes the byte by its kind, bit by bit by the laws of `and` and `or`.
use borrow.Author.Rules.{rules}
use Rattle.bits.proofs.Bitwise.{bit-and, bit-or, and8, or8}
use Rattle.bits.proofs.Laws.{is-of}
use Rattle.vram_planes.proofs.inner.combined.Goals as goal

pub returns-in-And : goal.returns-in-And
returns-in-And c =
    rw c.in-And.is (is-of 8 (and8 c.args.x c.args.old (search rules)) (λ i l. bit-and i _ _))

pub returns-in-Or : goal.returns-in-Or
returns-in-Or c =
    rw c.in-Or.is (is-of 8 (or8 c.args.x c.args.old (search rules) (search rules)) (λ i l. bit-or i _ _))
