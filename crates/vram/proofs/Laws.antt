-- What the code's proofs cite: a call by what its judge answered, and a store of any kind as the machine's.
use Prim.Native.Nat.{ℕ, ◌<◌}
use mathlib.Core.Path.{◌≡◌, refl, sym, ◌∙◌}
use lib.Dec.{eqb}
use Rattle.std.specs.Prelude.{Result, Err}
use Rattle.machine_types.specs.declared.shape.Shape.{Shape}
use Rattle.machine.specs.Memory.{Memory, shape, size, Sound}
use Rattle.machine_types.specs.declared.answer.Refusal.{Refusal}
use Rattle.machine_types.specs.declared.answer.Changed.{Changed}
use Rattle.machine.specs.Answers.{refusal_number, Value, changes_of, said, outcome, store_said}
use Rattle.machine.specs.Deeds.{byte, remade, laid, changed_at, value_of}
use Rattle.machine.specs.Calls.{offset_number, plane_number, unmasked, vram_plan}
use Rattle.machine.specs.Step.{vram_step}
use Rattle.machine.proofs.Laws.{perform-done, perform-refused, refusal-some, offset-accepted}
use Rattle.vram_planes.specs.declared.kind.PlaneStore.{PlaneStore}
use Rattle.vram_planes.specs.declared.kind.PlaneStore.TheVariants.{Set, And, Or}
use Rattle.vram_planes.specs.Stores.{combines}
use Rattle.vram_planes.proofs.Stores.{store-one}
use Rattle.vram_reads.proofs.Laws.{plane-asked}
use Rattle.vram.specs.Stores.{vram_store_call}

-- ---- a call, by what its judge answered

-- what an inner function asks, where the judge accepts
pub offset-asked : (h : Shape) (o : ℕ) → 0 ≡ offset_number h o → Sound h × (o < size h)
offset-asked h o e = let a = offset-accepted h o (sym e) in (a.shaped, a.offset)

-- the stores by plane, by what their judge answered
module _ (m : Memory) (p o x : ℕ) where
  pub store-refused : (k : PlaneStore) (r : Result Changed Refusal) (e : Refusal) → r ≡ Err e → refusal_number e ≡ plane_number (shape m) p o
      → outcome (store_said r) m ≡ vram_step m (vram_store_call k p o x)
  unfolding vram_step vram_plan value_of
  store-refused Set r e is j = rw is (perform-refused _ m _ _ (refusal-some e) j refl)
  store-refused And r e is j = rw is (perform-refused _ m _ _ (refusal-some e) j refl)
  store-refused Or r e is j = rw is (perform-refused _ m _ _ (refusal-some e) j refl)

  pub store-done : (k : PlaneStore) (m' : Memory) (v : Value) → 0 ≡ plane_number (shape m) p o → x < 256
      → m' ≡ remade o (laid o (λ q. eqb q p) (λ q. combines k x (byte m q o)) m) → v ≡ changes_of (changed_at m m' o)
      → outcome (said 0 v) m' ≡ vram_step m (vram_store_call k p o x)
  unfolding vram_step vram_plan value_of
  store-done Set m' v j h g = perform-done _ m m' v j (g ∙ store-one Set p o x unmasked m (plane-asked (shape m) o p j).1.1 refl h)
  store-done And m' v j h g = perform-done _ m m' v j (g ∙ store-one And p o x unmasked m (plane-asked (shape m) o p j).1.1 refl h)
  store-done Or m' v j h g = perform-done _ m m' v j (g ∙ store-one Or p o x unmasked m (plane-asked (shape m) o p j).1.1 refl h)
