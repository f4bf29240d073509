-- `deplane` does as the machine: refused by `judge_offset`'s number, else the pixels that `remake` leaves.
use Rattle.std.proofs.Common.{◌≡◌, refl, rules}
use Rattle.machine.proofs.Laws.{perform-done}
use Rattle.machine.specs.Memory.{remade_in, shape}
use Rattle.machine.specs.Step.{vram_step}
use Rattle.machine.specs.Calls.{vram_plan, offset_number}
use Rattle.machine.specs.Deeds.{memory_after, value_of}
use Rattle.vram_reads.proofs.Laws.{refused}
use Rattle.vram.proofs.Laws.{offset-asked}
use Rattle.vram.proofs.deplane.Goals as goal

pub returns-in_err-judge_offset-clause-does : goal.returns-in_err-judge_offset-clause-does
unfolding vram_plan value_of
returns-in_err-judge_offset-clause-does c = refused _ _ _ _ c.in_err-judge_offset.field-0.0 (search rules) refl _ (search rules)

pub remake-requires : goal.remake-requires
remake-requires c =
    let judged : 0 ≡ offset_number (shape (remade_in c.args.memory.now)) c.args.offset.0 = search rules in
    offset-asked _ _ judged

pub returns-clause-does : goal.returns-clause-does
unfolding vram_step vram_plan memory_after value_of
returns-clause-does c =
    let judged : 0 ≡ offset_number (shape (remade_in c.args.memory.now)) c.args.offset.0 = search rules in
    perform-done _ _ _ _ judged c.remake.ensures.does refl
