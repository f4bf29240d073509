-- `remake` leaves the machine's `remade` memory: the bytes of a turned word in their places, by `remade-eight`.
use mathlib.Core.Path.{◌≡◌}
use Rattle.machine.specs.Memory.{Memory, behind}
use Rattle.machine.specs.Deeds.{loaded}
use Rattle.vram_pixels.specs.Word.{of_bytes, turned}
use Rattle.vram_pixels.proofs.Pixels.{remade-eight}
use Rattle.vram_pixels.proofs.inner.remake.Goals as goal

pub returns-clause-does : goal.returns-clause-does
unfolding loaded
returns-clause-does g c =
    let m : Memory = behind g.P.Bytes.bytes (λ s. s.now) c.args.memory.now in
    let word : c.turn.result ≡ of_bytes (turned (loaded m c.args.at)) = rw (← c.byte-b0.ensures, ← c.byte-b1.ensures, ← c.byte-b2.ensures, ← c.byte-b3.ensures) c.turn.ensures in
    remade-eight m c.args.at c.turn.result word _ _ c.first_pixel-first.ensures c.put_eight.ensures
