-- The stores by plane by their kind, so that one function serves them.
use Rattle.std.specs.Prelude.{ℕ}
use Rattle.machine.specs.Calls.{VramCall, plane_set, plane_and, plane_or}
use Rattle.vram_planes.specs.declared.kind.PlaneStore.{PlaneStore}
use Rattle.vram_planes.specs.declared.kind.PlaneStore.TheVariants.{Set, And, Or}

-- the machine's store of that kind
abbrev pub vram_store_call : PlaneStore → ℕ → ℕ → ℕ → VramCall
vram_store_call Set = plane_set
vram_store_call And = plane_and
vram_store_call Or = plane_or
