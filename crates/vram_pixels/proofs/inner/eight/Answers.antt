-- `eight` is the part of eight pixels from 8 times the offset on.
use native.Mathlib.Nat.{add-sub_cancel_left}
use Rattle.vram_pixels.proofs.inner.eight.Goals as goal

pub returns : goal.returns
returns c = rw (add-sub_cancel_left, c.first_pixel-first.ensures)
