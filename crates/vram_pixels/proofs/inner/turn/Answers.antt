-- `turn` has bit j of each byte in its byte j, by `turned-is`.
use native.Mathlib.Omega.{arith}
use lib.Bits.{and_le_r}
use borrow.Author.Rules.{rules}
use Rattle.vram_pixels.proofs.Words.{turned-is}
use Rattle.vram_pixels.proofs.inner.turn.Goals as goal

pub overflow_cast-low : goal.overflow_cast-low
overflow_cast-low c = omega (arith, and_le_r c.one_word-planes.result 0x0F0F0F0F)

pub overflow_cast-high : goal.overflow_cast-high
overflow_cast-high c = omega (arith, and_le_r c.one_word-planes.result 0xF0F0F0F0)

pub returns : goal.returns
returns c =
    turned-is _ (search rules, (search rules, (search rules, (search rules, tt)))) _ _ _ c.one_word-planes.ensures c.exchange-pairs.ensures c.exchange.ensures
