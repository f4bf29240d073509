-- `serialize_linear` answers as the machine: refused by `judge_shown`'s number with an empty part, else eight pixels from 8 times the offset on.
use Rattle.std.proofs.Common.{◌≡◌, ◌∙◌, refl, sym, arith, rules}
use Rattle.machine.proofs.Laws.{answered-by, shown-accepted}
use Rattle.machine.specs.Memory.{seen, shape}
use Rattle.machine.specs.Answers.{done_said}
use Rattle.machine.specs.Step.{vram_step}
use Rattle.machine.specs.Calls.{vram_plan, shown_number}
use Rattle.machine.specs.Deeds.{memory_after, value_of}
use Rattle.vram_reads.proofs.serialize_linear.Goals as goal

pub part-requires : goal.part-requires
part-requires c =
    let judged : (done_said c.judge_shown-answer.result).number ≡ shown_number (shape (seen c.args.memory.now)) c.args.offset.0 = search rules in
    λ e. let h = shown-accepted _ _ (sym judged ∙ e) in (omega arith, omega arith)

pub returns : goal.returns
unfolding vram_step vram_plan memory_after value_of
returns c =
    let judged : (done_said c.judge_shown-answer.result).number ≡ shown_number (shape (seen c.args.memory.now)) c.args.offset.0 = search rules in
    rw c.part.ensures (answered-by _ _ _ _ c.judge_shown-answer.result judged refl refl refl)
