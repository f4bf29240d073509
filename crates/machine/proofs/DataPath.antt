-- Rules of the data path that no worked case reaches, each put as what it rules out.
use Prim.Native.Nat.{ℕ, min}
use native.Mathlib.Omega.{arith}
use mathlib.Core.Path.{◌≡◌, refl}
use mathlib.Core.Logic.{◌⊎◌, inl, inr}
use Rattle.bits.specs.Bit.{bit}
use Rattle.machine_types.specs.declared.gc.GraphicsRegisters.{GraphicsRegisters}
use Rattle.machine_types.specs.declared.gc.LogicFunction.TheVariants.{Unmodified}
use Rattle.machine_types.specs.declared.gc.WriteMode.TheVariants.{Mode0, Mode1, Mode2, Mode3}
use Rattle.machine.specs.Graphics.{rotate_count, logic_function}
use Rattle.machine.specs.DataPath.{rotated, data_bit, combined, masked, mask_bit, written_bit}

-- a 0 of either makes the lesser 0
either-0 : (a b : ℕ) → (a ≡ 0) ⊎ (b ≡ 0) → min a b ≡ 0
either-0 a b (inl e) = omega arith
either-0 a b (inr e) = omega arith

-- the registers with another Enable
abbrev with_enable : ℕ → GraphicsRegisters → GraphicsRegisters
with_enable e r = record {
  register_select_byte = r.register_select_byte;
  register_selected = r.register_selected;
  set_reset = r.set_reset;
  enable_set_reset = e;
  color_compare = r.color_compare;
  data_rotate = r.data_rotate;
  read_map_select = r.read_map_select;
  mode = r.mode;
  miscellaneous = r.miscellaneous;
  color_dont_care = r.color_dont_care;
  bitmask = r.bitmask;
}

module _ (r : GraphicsRegisters) (x p i l : ℕ) where
  -- mode 0: an enabled Set/Reset bit replaces the byte, whatever it was
  pub set-reset-replaces : bit p r.enable_set_reset ≡ 1 → written_bit Mode0 r x p i l ≡ masked (logic_function r) (bit i r.bitmask) (bit p r.set_reset) l
  unfolding written_bit data_bit
  set-reset-replaces e = rw e

  -- mode 1 stores latches: no function, no Bit Mask, no Set/Reset
  pub latches-stored : written_bit Mode1 r x p i l ≡ l
  unfolding written_bit
  latches-stored = refl

  -- mode 2 spreads bit p of the byte over all eight bits: no rotation
  pub bit-spread : bit i r.bitmask ≡ 1 → logic_function r ≡ Unmodified → written_bit Mode2 r x p i l ≡ bit p x
  unfolding written_bit masked combined
  bit-spread e f = rw (e, f)

  -- a Bit Mask 0 takes the latch, in modes 0 and 2
  pub mask-keeps : bit i r.bitmask ≡ 0 → (written_bit Mode0 r x p i l ≡ l) × (written_bit Mode2 r x p i l ≡ l)
  unfolding written_bit masked
  mask-keeps e = (rw e, rw e)

  -- mode 3: a 0 of the rotated byte or of Bit Mask takes the latch; where both are 1, the function of the plane's Set/Reset bit and latch
  pub mode-3-masks : ((rotated (rotate_count r) x i ≡ 0) ⊎ (bit i r.bitmask ≡ 0) → written_bit Mode3 r x p i l ≡ l)
      × (rotated (rotate_count r) x i ≡ 1 → bit i r.bitmask ≡ 1 → written_bit Mode3 r x p i l ≡ combined (logic_function r) (bit p r.set_reset) l)
  unfolding written_bit masked mask_bit
  mode-3-masks = (λ h. rw (either-0 _ _ h), λ e f. rw (e, f))

  -- mode 3 ignores Enable: registers that differ in it alone write the same bit
  pub enable-ignored : (e : ℕ) → written_bit Mode3 (with_enable e r) x p i l ≡ written_bit Mode3 r x p i l
  unfolding written_bit mask_bit rotate_count logic_function
  enable-ignored e = refl
