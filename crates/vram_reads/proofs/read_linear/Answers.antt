-- `read_linear` answers as the machine: refused by `judge_place`'s number, else the pixel.
use Rattle.std.proofs.Common.{◌≡◌, refl, sym, rules}
use Rattle.machine.proofs.Laws.{perform-done, place-accepted}
use Rattle.machine.specs.Memory.{seen, shape}
use Rattle.machine.specs.Step.{vram_step}
use Rattle.machine.specs.Calls.{vram_plan, place_number}
use Rattle.machine.specs.Deeds.{memory_after, value_of}
use Rattle.vram_reads.proofs.Laws.{refused}
use Rattle.vram_reads.proofs.read_linear.Goals as goal

pub bounds-memory-place : goal.bounds-memory-place
bounds-memory-place c =
    let judged : 0 ≡ place_number (shape (seen c.args.memory.now)) c.args.place.0 = search rules in
    (place-accepted _ _ (sym judged)).place

pub returns-in_err-judge_place : goal.returns-in_err-judge_place
unfolding vram_plan value_of
returns-in_err-judge_place c = refused _ _ _ _ c.in_err-judge_place.field-0.0 (search rules) refl _ (search rules)

pub returns : goal.returns
unfolding vram_step vram_plan memory_after value_of
returns c =
    let judged : 0 ≡ place_number (shape (seen c.args.memory.now)) c.args.place.0 = search rules in
    perform-done _ _ _ _ judged refl refl
