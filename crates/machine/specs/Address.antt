-- Address to offset: the windows, the four memory maps, chain odd/even and the page bit.
use Rattle.std.specs.Prelude.{ℕ, ◌+◌, ◌-◌, ◌*◌, ◌/◌, ◌%◌, Bool, false, ◌&&◌, leb}
use Rattle.bits.specs.Bit.{bit, is_one, bit_of, pick}
use Rattle.machine_types.specs.declared.gc.MemoryMap.{MemoryMap}
use Rattle.machine_types.specs.declared.gc.MemoryMap.TheVariants.{A0000_128k, A0000_64K, B0000_32K, B8000_32K}
use Rattle.machine_types.specs.declared.gc.GraphicsRegisters.{GraphicsRegisters}
use Rattle.machine.specs.Graphics.{memory_map, chained}

-- not refusal 2: A0000..BFFFF, A0000..AFFFF, B8000..BFFFF, ends included; the map B0000_32K has no window
unfoldable pub in_window : MemoryMap → ℕ → Bool
in_window A0000_128k x = leb 0xA0000 x && leb x 0xBFFFF
in_window A0000_64K x = leb 0xA0000 x && leb x 0xAFFFF
in_window B0000_32K x = false
in_window B8000_32K x = leb 0xB8000 x && leb x 0xBFFFF

-- a0 is address bit 0
abbrev pub a0 : ℕ → Bool
a0 x = is_one (bit 0 x)

-- bit 0 of x becomes b
abbrev pub with_bit0 : ℕ → ℕ → ℕ
with_bit0 b x = x / 2 * 2 + b

-- 128K, chain set: bit 16 goes to bit 0; clear: address as it stands.
-- 64K, chain set: bit 0 becomes the page bit; clear: address minus A0000. B8000: minus B8000
unfoldable pub mapped : MemoryMap → Bool → ℕ → Bool → ℕ
mapped A0000_128k chain x page = pick chain (with_bit0 (bit 16 x) x) x
mapped A0000_64K chain x page = pick chain (with_bit0 (bit_of page) x) (x - 0xA0000)
mapped B0000_32K chain x page = 0
mapped B8000_32K chain x page = x - 0xB8000

-- then keep 16 bits
unfoldable pub offset : GraphicsRegisters → ℕ → Bool → ℕ
offset r x page = mapped (memory_map r) (chained r) x page % 65536
