-- `byte_of` is the field of eight bits from bit 8 times j on.
use lib.Bits.{and_mask}
use borrow.Author.Rules.{rules}
use Rattle.bits.specs.Bit.{field}
use Rattle.bits.proofs.Bitwise.{and8}
use Rattle.vram_pixels.proofs.inner.byte_of.Goals as goal

pub overflow_cast-result-2 : goal.overflow_cast-result-2
overflow_cast-result-2 c = search (rules, and8)

pub returns : goal.returns
unfolding field
returns c = and_mask _ 8
