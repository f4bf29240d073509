-- Short names for what the machine takes from Miscellaneous, over the register's byte: nothing is defined here that the machine has not.
use Rattle.std.specs.Prelude.{ℕ, ◌%◌, Bool, [], ◌∷◌, get_or, Option, Some, None}
use Rattle.bits.specs.Bit.{bit, field, is_one, pick}
use Rattle.machine_types.specs.declared.gc.MemoryMap.{MemoryMap}
use Rattle.machine_types.specs.declared.gc.MemoryMap.TheVariants.{A0000_128k, A0000_64K, B0000_32K, B8000_32K}
use Rattle.machine.specs.Address.{in_window, mapped}

-- the machine's `memory_map`, `chained` and `offset`
abbrev pub map_of : ℕ → MemoryMap
map_of b = get_or (A0000_128k ∷ A0000_64K ∷ B0000_32K ∷ B8000_32K ∷ []) (field 2 2 b) A0000_128k

abbrev pub chain_of : ℕ → Bool
chain_of b = is_one (bit 1 b)

abbrev pub offset_of : ℕ → ℕ → Bool → ℕ
offset_of b x page = mapped (map_of b) (chain_of b) x page % 65536

-- where an address leads: its offset, or nowhere where it is outside the window
unfoldable pub leads_to : MemoryMap → Bool → ℕ → Bool → Option ℕ
leads_to map chain x page = pick (in_window map x) (Some (mapped map chain x page % 65536)) None
