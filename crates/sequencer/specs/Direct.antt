-- The direct stores by their kind, so that one function serves them.
use Rattle.std.specs.Prelude.{ℕ, Bool}
use Rattle.machine.specs.Calls.{DirectCall, seq_plane_set, seq_plane_and, seq_plane_or}
use Rattle.vram_planes.specs.declared.kind.PlaneStore.{PlaneStore}
use Rattle.vram_planes.specs.declared.kind.PlaneStore.TheVariants.{Set, And, Or}

-- the machine's store of that kind
abbrev pub direct_store_call : PlaneStore → ℕ → ℕ → Bool → ℕ → DirectCall
direct_store_call Set = seq_plane_set
direct_store_call And = seq_plane_and
direct_store_call Or = seq_plane_or
