-- `exchange` exchanges each bit under its mask with the one above, by `exchanged-is`.
use borrow.Author.Rules.{rules}
use Rattle.vram_pixels.proofs.Words.{exchanged-is}
use Rattle.vram_pixels.proofs.inner.exchange.Goals as goal

pub returns : goal.returns
returns c = exchanged-is _ _ _ (search rules) (search rules) (search rules)
