-- The three stores by plane, by their kind: the byte that is put down, and the machine's rule for its bits.
use Rattle.std.specs.Prelude.{ℕ}
use Rattle.bits.specs.Bit.{bit, byte_of}
use Rattle.machine.specs.Calls.{set_bit, and_bit, or_bit}
use Rattle.vram_planes.specs.declared.kind.PlaneStore.{PlaneStore}
use Rattle.vram_planes.specs.declared.kind.PlaneStore.TheVariants.{Set, And, Or}

-- the machine's rule for a bit, of the byte's bit and the old one
abbrev pub store_bit : PlaneStore → ℕ → ℕ → ℕ
store_bit Set = set_bit
store_bit And = and_bit
store_bit Or = or_bit

-- the byte that is put down, of the one given and the old one
abbrev pub combines : PlaneStore → ℕ → ℕ → ℕ
combines Set x old = x
combines And x old = byte_of (λ i. store_bit And (bit i x) (bit i old))
combines Or x old = byte_of (λ i. store_bit Or (bit i x) (bit i old))
