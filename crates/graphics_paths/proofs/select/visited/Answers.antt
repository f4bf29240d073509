-- `visited` at an even address under odd/even, by computation; the check finds the other two cases, and this one only near its limits.
use Rattle.std.proofs.Common.{sym, ◌∙◌, ne_eqb}
use Rattle.bits.specs.Bit.{of_bits}
use Rattle.machine.specs.DataPath.{visits}
use Rattle.fields.proofs.Bit0.{bit0_is}
use Rattle.graphics_paths.proofs.select.visited.Goals as goal

pub returns-else-address-eq1 : goal.returns-else-address-eq1
unfolding of_bits visits
returns-else-address-eq1 c =
    simp (sym c.odd_even-mode.ensures ∙ c.in-OddEven.is, ne_eqb _ _ (λ e. c.if-address-eq1.false (bit0_is c.args.address ∙ e)))
