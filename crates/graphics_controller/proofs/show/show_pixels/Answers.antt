-- `show_pixels` answers as the machine: eight zeros by the judge's number, else the pixels of the shift mode.
use Rattle.std.proofs.Common.{◌≡◌, Err, ap, ◌∙◌, rules}
use Rattle.machine_types.specs.declared.gc.ShiftMode.{ShiftMode}
use Rattle.machine.specs.Memory.{seen, shape}
use Rattle.machine.specs.Deeds.{shown_in}
use Rattle.machine.specs.Calls.{pixels_number}
use Rattle.machine.proofs.Laws.{refusal-some}
use Rattle.graphics_controller.proofs.Accesses.{pixels-accepted, pixels-refused, pixels-done}
use Rattle.graphics_controller.proofs.show.show_pixels.Goals as goal

pub returns-in_err-judge_pixels : goal.returns-in_err-judge_pixels
returns-in_err-judge_pixels c =
    let x = c.in_err-judge_pixels.field-0.0 in
    let e : c.from_residual.result ≡ Err x = search rules in
    rw e (pixels-refused c.args.gc c.args.seq (seen c.args.memory.now) _ _ (refusal-some x) (search rules))

pub shown-requires : goal.shown-requires
shown-requires c =
    let a = c.args in
    let judged : 0 ≡ pixels_number a.gc.registers a.seq (shape (seen a.memory.now)) a.offset.0 = search rules in
    let h = pixels-accepted a.gc.registers a.seq (seen a.memory.now) _ judged in
    (h.shaped, rw c.shift_mode-mode.ensures h.offset)

pub returns : goal.returns
returns c =
    let a = c.args in
    let judged : 0 ≡ pixels_number a.gc.registers a.seq (shape (seen a.memory.now)) a.offset.0 = search rules in
    pixels-done a.gc a.seq (seen a.memory.now) _ _ judged (c.shown.ensures ∙ ap (λ (d : ShiftMode). shown_in d (seen a.memory.now) a.offset.0) c.shift_mode-mode.ensures)
