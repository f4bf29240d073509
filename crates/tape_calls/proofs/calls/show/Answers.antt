-- `show` is the machine's step: from what `show_pixels` ensures.
use mathlib.Core.Path.{refl, ap, ◌∙◌}
use Rattle.machine_types.specs.declared.gc.ShiftMode.{ShiftMode}
use Rattle.machine.specs.Answers.{shown_said}
use Rattle.machine.specs.Calls.{show_pixels}
use Rattle.tape_calls.proofs.Performing.{cpu-so}
use Rattle.tape_calls.proofs.calls.show.Goals as goal

pub returns : goal.returns
returns c =
    let told = c.from.ensures ∙ ap (λ (d : ShiftMode). shown_said d c.show_pixels-pixels.result) c.shift_mode-mode.ensures in
    cpu-so _ _ _ (show_pixels c.args.offset.0) c.show_pixels-pixels.ensures told refl refl
