-- The register that an address byte selects.
use Prim.Native.Nat.{ℕ, zero, suc, ◌<◌}
use native.Mathlib.Omega.{arith}
use mathlib.Core.Path.{◌≡◌, refl}
use Rattle.machine_types.specs.declared.seq.SequencerRegister.TheVariants.{Invalid}
use Rattle.machine.specs.Sequencer.{selects_seq}

-- others select Invalid
pub selects-invalid : (x : ℕ) → 4 < x → Invalid ≡ selects_seq x
unfolding selects_seq
selects-invalid zero h = absurd (omega arith)
selects-invalid (suc zero) h = absurd (omega arith)
selects-invalid (suc (suc zero)) h = absurd (omega arith)
selects-invalid (suc (suc (suc zero))) h = absurd (omega arith)
selects-invalid (suc (suc (suc (suc zero)))) h = absurd (omega arith)
selects-invalid (suc (suc (suc (suc (suc x))))) h = refl
