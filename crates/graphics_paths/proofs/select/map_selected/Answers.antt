-- `map_selected` is the map select's plane, its bit 0 replaced under odd/even: from the law of the two masks.
use Rattle.std.proofs.Common.{sym, ◌∙◌, arith}
use lib.Bits.{and_le_r}
use Rattle.fields.proofs.Bit0.{bit0-replaced, bit0-of}
use Rattle.graphics_paths.proofs.select.map_selected.Goals as goal

pub returns-in-OddEven : goal.returns-in-OddEven
returns-in-OddEven c =
    let a = c.args in
    bit0-replaced a.registers.read_map_select _ (omega arith) (and_le_r a.address 1)
    ∙ simp (sym c.odd_even-mode.ensures ∙ c.in-OddEven.is, bit0-of a.address)
