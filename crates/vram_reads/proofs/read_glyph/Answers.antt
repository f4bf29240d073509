-- `read_glyph` answers as the machine: refused by `judge_offset`'s number, else plane 2's byte.
use Rattle.std.proofs.Common.{◌≡◌, refl, sym, arith, rules}
use Rattle.machine.proofs.Laws.{perform-done, offset-accepted}
use Rattle.machine.specs.Memory.{seen, shape}
use Rattle.machine.specs.Step.{vram_step}
use Rattle.machine.specs.Calls.{vram_plan, offset_number}
use Rattle.machine.specs.Deeds.{memory_after, value_of}
use Rattle.vram_reads.proofs.Laws.{refused}
use Rattle.vram_reads.proofs.read_glyph.Goals as goal

pub returns-in_err-judge_offset : goal.returns-in_err-judge_offset
unfolding vram_plan value_of
returns-in_err-judge_offset c = refused _ _ _ _ c.in_err-judge_offset.field-0.0 (search rules) refl _ (search rules)

pub bounds-memory-offset : goal.bounds-memory-offset
bounds-memory-offset c =
    let judged : 0 ≡ offset_number (shape (seen c.args.memory.now)) c.args.offset.0 = search rules in
    let h = offset-accepted _ _ (sym judged) in
    omega arith

pub returns : goal.returns
unfolding vram_step vram_plan memory_after value_of
returns c =
    let judged : 0 ≡ offset_number (shape (seen c.args.memory.now)) c.args.offset.0 = search rules in
    perform-done _ _ _ _ judged refl refl
