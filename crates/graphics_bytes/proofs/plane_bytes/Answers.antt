-- `plane_bytes` gives the machine's byte for each plane: by mode, from the contracts of the data and of the logic steps.
use native.Mathlib.Omega.{arith}
use mathlib.Core.Path.{◌∙◌}
use Rattle.bits.specs.Bit.{field}
use Rattle.machine.specs.Graphics.{rotate_count}
use Rattle.graphics_bytes.proofs.Bytes.{turned_by, mode-0-are, mode-1-are, mode-2-are, mode-3-are}
use Rattle.graphics_bytes.proofs.plane_bytes.Goals as goal

pub rotate_right_u8-turned-requires : goal.rotate_right_u8-turned-requires
unfolding rotate_count field
rotate_right_u8-turned-requires c = omega (arith, c.rotate_count.ensures)

pub returns-in-Mode0 : goal.returns-in-Mode0
returns-in-Mode0 c =
    let a = c.args in
    rw c.in-Mode0.is (c.logic_steps.ensures
    ∙ mode-0-are a.registers a.byte a.latches _ c.function-function.ensures _ (turned_by a.registers a.byte _ _ c.rotate_right_u8-turned.ensures c.rotate_count.ensures) _ c.set_resets-data.ensures)

pub returns-in-Mode1 : goal.returns-in-Mode1
returns-in-Mode1 c =
    let a = c.args in
    rw c.in-Mode1.is (c.logic_steps-in-Mode1.ensures ∙ mode-1-are a.registers a.byte a.latches _)

pub returns-in-Mode2 : goal.returns-in-Mode2
returns-in-Mode2 c =
    let a = c.args in
    rw c.in-Mode2.is
    (c.logic_steps-in-Mode2.ensures ∙ mode-2-are a.registers a.byte a.latches _ c.function-function.ensures _ c.spreads-data.ensures)

pub returns-in-Mode3 : goal.returns-in-Mode3
returns-in-Mode3 c =
    let a = c.args in
    rw c.in-Mode3.is (c.logic_steps-in-Mode3.ensures
    ∙ mode-3-are a.registers a.byte a.latches _ c.function-function.ensures _ (turned_by a.registers a.byte _ _ c.rotate_right_u8-turned.ensures c.rotate_count.ensures)
    _ c.spreads-data-in-Mode3.ensures)
