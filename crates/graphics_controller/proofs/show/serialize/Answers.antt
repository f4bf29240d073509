-- `serialize` answers as the machine: an empty part by the judge's number, else eight pixels from 8 times the offset on.
use Rattle.std.proofs.Common.{◌≡◌, sym, ◌∙◌, arith, rules}
use Rattle.machine.specs.Memory.{seen, shape}
use Rattle.machine.specs.Answers.{done_said}
use Rattle.machine.specs.Calls.{show_number}
use Rattle.graphics_controller.proofs.Accesses.{show-accepted, older-shown}
use Rattle.graphics_controller.proofs.show.serialize.Goals as goal

pub part-requires : goal.part-requires
part-requires c =
    let a = c.args in
    let j : (done_said c.judge_show-answer.result).number ≡ show_number a.gc.registers a.seq (shape (seen a.memory.now)) a.offset.0 = search rules in
    λ e. let h = show-accepted a.gc.registers a.seq (seen a.memory.now) _ (sym (sym j ∙ e)) in (omega arith, omega arith)

pub returns : goal.returns
returns c =
    let a = c.args in
    let j : (done_said c.judge_show-answer.result).number ≡ show_number a.gc.registers a.seq (shape (seen a.memory.now)) a.offset.0 = search rules in
    rw c.part.ensures (older-shown a.gc a.seq (seen a.memory.now) a.offset.0 c.judge_show-answer.result j)
