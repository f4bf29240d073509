-- `one_word` has plane p's byte as its byte p, by `joined`.
use borrow.Author.Rules.{rules}
use Rattle.vram_pixels.proofs.Words.{joined}
use Rattle.vram_pixels.proofs.inner.one_word.Goals as goal

pub returns : goal.returns
returns c = joined _ _ _ _ (search rules, (search rules, (search rules, (search rules, tt))))
