-- `read_u8` answers as the machine: refused by `judge_plane`'s number, else the plane's byte.
use Rattle.std.proofs.Common.{◌≡◌, refl, ap, rules}
use Rattle.machine.proofs.Laws.{perform-done}
use Rattle.machine.specs.Memory.{seen, shape}
use Rattle.machine.specs.Answers.{one}
use Rattle.machine.specs.Step.{vram_step}
use Rattle.machine.specs.Calls.{vram_plan, plane_number}
use Rattle.machine.specs.Deeds.{memory_after, value_of}
use Rattle.vram_reads.proofs.Laws.{refused, plane-asked}
use Rattle.vram_reads.proofs.read_u8.Goals as goal

pub byte-requires : goal.byte-requires
byte-requires c =
    let judged : 0 ≡ plane_number (shape (seen c.args.memory.now)) c.args.plane c.args.offset.0 = search rules in
    plane-asked _ _ _ judged

pub returns-in_err-judge_plane : goal.returns-in_err-judge_plane
unfolding vram_plan value_of
returns-in_err-judge_plane c = refused _ _ _ _ c.in_err-judge_plane.field-0.0 (search rules) refl _ (search rules)

pub returns : goal.returns
unfolding vram_step vram_plan memory_after value_of
returns c =
    let judged : 0 ≡ plane_number (shape (seen c.args.memory.now)) c.args.plane c.args.offset.0 = search rules in
    perform-done _ _ _ _ judged refl (ap one c.byte.ensures)
