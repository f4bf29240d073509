-- Refusal 6's test of the controller's registers: those of four bits tested together, and the map select.
use Prim.Native.Nat.{ℕ, ◌≤◌}
use mathlib.Core.Path.{◌≡◌, ap, ◌∙◌}
use mathlib.Core.Bool.{Bool, true, ◌&&◌}
use lib.Bits.{bit_or}
use lib.Dec.{leb}
use borrow.Author.Tests.{leb-true}
use Rattle.bits.proofs.Bitwise.{five-within, and_right}
use Rattle.machine_types.specs.declared.gc.GraphicsRegisters.{GraphicsRegisters}
use Rattle.machine.specs.Graphics.{fits_gc}
use Rattle.machine.proofs.Laws.{both}

-- the registers of four bits, joined
abbrev pub joined : GraphicsRegisters → ℕ
joined r = bit_or (bit_or (bit_or (bit_or r.register_select_byte r.set_reset) r.enable_set_reset) r.color_compare) r.color_dont_care

pub fits_together : (r : GraphicsRegisters) → (leb (joined r) 15 && leb r.read_map_select 3) ≡ fits_gc r
unfolding fits_gc
fits_together r =
    ap (λ (t : Bool). t && leb r.read_map_select 3) (five-within 4 r.register_select_byte r.set_reset r.enable_set_reset r.color_compare r.color_dont_care)
    ∙ simp and_right

pub map_select_fits : (r : GraphicsRegisters) → fits_gc r ≡ true → r.read_map_select ≤ 3
map_select_fits r e = leb-true _ _ (both (leb (joined r) 15) _ (fits_together r ∙ e)).1
