-- The graphics controller's registers: what each keeps of a byte, its fields.
use Rattle.std.specs.Prelude.{ℕ, ◌%◌, Bool, true, false, ◌&&◌, List, [], ◌∷◌, eqb, leb, get_or}
use Rattle.bits.specs.Bit.{bit, field, is_one, pick}
use Rattle.machine_types.specs.declared.gc.GraphicsRegister.{GraphicsRegister}
use Rattle.machine_types.specs.declared.gc.GraphicsRegister.TheVariants.{SetReset, EnableSetReset, ColorCompare, DataRotate, ReadMapSelect, Mode, Miscellaneous, ColorDontCare, BitMask}
use Rattle.machine_types.specs.declared.gc.OddEvenModeComplement.{OddEvenModeComplement}
use Rattle.machine_types.specs.declared.gc.OddEvenModeComplement.TheVariants.{Sequential, OddEven}
use Rattle.machine_types.specs.declared.gc.MemoryMap.{MemoryMap}
use Rattle.machine_types.specs.declared.gc.MemoryMap.TheVariants.{A0000_128k, A0000_64K, B0000_32K, B8000_32K}
use Rattle.machine_types.specs.declared.gc.LogicFunction.{LogicFunction}
use Rattle.machine_types.specs.declared.gc.LogicFunction.TheVariants.{Unmodified, And, Or, Xor}
use Rattle.machine_types.specs.declared.gc.WriteMode.{WriteMode}
use Rattle.machine_types.specs.declared.gc.WriteMode.TheVariants.{Mode0, Mode1, Mode2, Mode3}
use Rattle.machine_types.specs.declared.gc.ReadMode.{ReadMode}
use Rattle.machine_types.specs.declared.gc.ReadMode.TheVariants.{ReadSelectedPlane, ReadComparedPlanes}
use Rattle.machine_types.specs.declared.gc.ShiftMode.{ShiftMode}
use Rattle.machine_types.specs.declared.gc.ShiftMode.TheVariants.{Standard, CGACompatible, Chain4, Unused}
use Rattle.machine_types.specs.declared.gc.GraphicsRegisters.{GraphicsRegisters}
use Rattle.machine_types.specs.declared.gc.GraphicsControllerStats.{GraphicsControllerStats}
use Rattle.machine_types.specs.declared.gc.GraphicsController.{GraphicsController}

-- ---- the address register

-- the order of the registers' numbers, 0 to 8
abbrev pub registers : List GraphicsRegister
registers = SetReset ∷ EnableSetReset ∷ ColorCompare ∷ DataRotate ∷ ReadMapSelect ∷ Mode ∷ Miscellaneous ∷ ColorDontCare ∷ BitMask ∷ []

-- 0 to 8 select in that order; 9 to 15 keep the earlier selection
unfoldable pub selects : ℕ → GraphicsRegister → GraphicsRegister
selects n earlier = get_or registers n earlier

-- the number of a register
abbrev pub register_number : GraphicsRegister → ℕ
register_number SetReset = 0
register_number EnableSetReset = 1
register_number ColorCompare = 2
register_number DataRotate = 3
register_number ReadMapSelect = 4
register_number Mode = 5
register_number Miscellaneous = 6
register_number ColorDontCare = 7
register_number BitMask = 8

-- GC address: the low four bits are kept
unfoldable pub with_address : ℕ → GraphicsRegisters → GraphicsRegisters
with_address x r = record {
  register_select_byte = x % 16;
  register_selected = selects (x % 16) r.register_selected;
  set_reset = r.set_reset;
  enable_set_reset = r.enable_set_reset;
  color_compare = r.color_compare;
  data_rotate = r.data_rotate;
  read_map_select = r.read_map_select;
  mode = r.mode;
  miscellaneous = r.miscellaneous;
  color_dont_care = r.color_dont_care;
  bitmask = r.bitmask;
}

-- ---- the data registers

-- registers 0, 1, 2, 7 keep four bits, 4 keeps two; 3, 5, 6, 8 keep the whole byte, skipped bits included
unfoldable pub keeps : GraphicsRegister → ℕ → ℕ
keeps SetReset x = x % 16
keeps EnableSetReset x = x % 16
keeps ColorCompare x = x % 16
keeps DataRotate x = x
keeps ReadMapSelect x = x % 4
keeps Mode x = x
keeps Miscellaneous x = x
keeps ColorDontCare x = x % 16
keeps BitMask x = x

-- the register p after data x went to the register q
abbrev pub written : GraphicsRegister → ℕ → GraphicsRegister → ℕ → ℕ
written q x p old = pick (eqb (register_number q) (register_number p)) (keeps p x) old

-- data go to the selected register
unfoldable pub with_data : ℕ → GraphicsRegisters → GraphicsRegisters
with_data x r = record {
  register_select_byte = r.register_select_byte;
  register_selected = r.register_selected;
  set_reset = written r.register_selected x SetReset r.set_reset;
  enable_set_reset = written r.register_selected x EnableSetReset r.enable_set_reset;
  color_compare = written r.register_selected x ColorCompare r.color_compare;
  data_rotate = written r.register_selected x DataRotate r.data_rotate;
  read_map_select = written r.register_selected x ReadMapSelect r.read_map_select;
  mode = written r.register_selected x Mode r.mode;
  miscellaneous = written r.register_selected x Miscellaneous r.miscellaneous;
  color_dont_care = written r.register_selected x ColorDontCare r.color_dont_care;
  bitmask = written r.register_selected x BitMask r.bitmask;
}

-- a register as it is kept
unfoldable pub data_of : GraphicsRegister → GraphicsRegisters → ℕ
data_of SetReset r = r.set_reset
data_of EnableSetReset r = r.enable_set_reset
data_of ColorCompare r = r.color_compare
data_of DataRotate r = r.data_rotate
data_of ReadMapSelect r = r.read_map_select
data_of Mode r = r.mode
data_of Miscellaneous r = r.miscellaneous
data_of ColorDontCare r = r.color_dont_care
data_of BitMask r = r.bitmask

-- not refusal 6: the address, Set/Reset, Enable, Compare and Don't Care are at most 15, map select at most 3
unfoldable pub fits_gc : GraphicsRegisters → Bool
fits_gc r = leb r.register_select_byte 15 && (leb r.set_reset 15 && (leb r.enable_set_reset 15
    && (leb r.color_compare 15 && (leb r.color_dont_care 15 && leb r.read_map_select 3))))

-- ---- fields of a kept byte

-- Data Rotate: count bits 0-2
unfoldable pub rotate_count : GraphicsRegisters → ℕ
rotate_count r = field 0 3 r.data_rotate

-- Data Rotate: function bits 3-4
unfoldable pub logic_function : GraphicsRegisters → LogicFunction
logic_function r = get_or (Unmodified ∷ And ∷ Or ∷ Xor ∷ []) (field 3 2 r.data_rotate) Unmodified

-- Mode: write mode bits 0-1
unfoldable pub write_mode : GraphicsRegisters → WriteMode
write_mode r = get_or (Mode0 ∷ Mode1 ∷ Mode2 ∷ Mode3 ∷ []) (field 0 2 r.mode) Mode0

-- Mode: read mode bit 3
unfoldable pub read_mode : GraphicsRegisters → ReadMode
read_mode r = get_or (ReadSelectedPlane ∷ ReadComparedPlanes ∷ []) (field 3 1 r.mode) ReadSelectedPlane

-- Mode: odd/even bit 4
unfoldable pub odd_even : GraphicsRegisters → OddEvenModeComplement
odd_even r = get_or (Sequential ∷ OddEven ∷ []) (field 4 1 r.mode) Sequential

-- Mode: shift bits 5-6
unfoldable pub shift_mode : GraphicsRegisters → ShiftMode
shift_mode r = get_or (Standard ∷ CGACompatible ∷ Chain4 ∷ Unused ∷ []) (field 5 2 r.mode) Standard

-- Miscellaneous: chain odd/even bit 1
unfoldable pub chained : GraphicsRegisters → Bool
chained r = is_one (bit 1 r.miscellaneous)

-- Miscellaneous: map bits 2-3
unfoldable pub memory_map : GraphicsRegisters → MemoryMap
memory_map r = get_or (A0000_128k ∷ A0000_64K ∷ B0000_32K ∷ B8000_32K ∷ []) (field 2 2 r.miscellaneous) A0000_128k

-- whether the controller's own odd/even is on
abbrev pub is_odd_even : OddEvenModeComplement → Bool
is_odd_even Sequential = false
is_odd_even OddEven = true

-- ---- the record

-- the controller's record of registers, counters and latches
abbrev pub gc_of : GraphicsRegisters → GraphicsControllerStats → List ℕ → GraphicsController
gc_of r c l = record { registers = r; stats = c; latches = l }
