-- A byte put down and its pixels remade, as the machine's store into one plane, whatever the kind.
use Prim.Native.Nat.{ℕ, zero, suc, ◌<◌, ◌≤◌}
use native.Mathlib.Omega.{arith}
use mathlib.Core.Path.{◌≡◌, refl, ap, ◌∙◌}
use mathlib.Core.Bool.{Bool, true}
use mathlib.Core.List.{[]}
use lib.Dec.{eqb}
use Rattle.bits.specs.Bit.{bit, byte_of}
use Rattle.bits.proofs.Laws.{is-of}
use Rattle.machine.specs.Memory.{Memory}
use Rattle.machine.specs.Deeds.{byte, remade, stored_byte, laid, memory_after}
use Rattle.machine.specs.Calls.{store_one}
use Rattle.machine.proofs.Laws.{stored_one}
use Rattle.vram_planes.specs.declared.kind.PlaneStore.{PlaneStore}
use Rattle.vram_planes.specs.declared.kind.PlaneStore.TheVariants.{Set, And, Or}
use Rattle.vram_planes.specs.Stores.{combines, store_bit}

-- what is put down has the bits that the machine puts there
combines-bits : (k : PlaneStore) (x old : ℕ) → x < 256 → combines k x old ≡ byte_of (λ i. store_bit k (bit i x) (bit i old))
combines-bits Set x old h = is-of 8 h (λ i l. refl)
combines-bits And x old h = refl
combines-bits Or x old h = refl

-- only the stored plane's byte matters
laid_one : (o p : ℕ) (b c : ℕ → ℕ) (m : Memory) → p ≤ 3 → b p ≡ c p → laid o (λ q. eqb q p) b m ≡ laid o (λ q. eqb q p) c m
unfolding laid
laid_one o zero b c m h e = rw e
laid_one o (suc zero) b c m h e = rw e
laid_one o (suc (suc zero)) b c m h e = rw e
laid_one o (suc (suc (suc zero))) b c m h e = rw e
laid_one o (suc (suc (suc (suc p)))) b c m h e = absurd (omega arith)

-- .. into a plane that the mask w has
pub store-one : (k : PlaneStore) (p o x : ℕ) (w : ℕ → Bool) (m : Memory) → p ≤ 3 → w p ≡ true → x < 256
    → remade o (laid o (λ q. eqb q p) (λ q. combines k x (byte m q o)) m) ≡ memory_after (store_one (store_bit k) p o w x) [] m
unfolding memory_after stored_byte
store-one k p o x w m h e fits =
    let b : ℕ → ℕ = stored_byte o (λ q i l old. store_bit k (bit i x) old) [] m in
    ap (remade o) (laid_one o p (λ q. combines k x (byte m q o)) b m h (combines-bits k x (byte m p o) fits)) ∙ stored_one o p w b m h e
