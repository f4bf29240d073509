-- What the code's proofs cite, the stores' above too: a plane and an offset that the judge accepted, and a refusal that is handed on.
use Rattle.std.proofs.Common.{◌≡◌, ℕ, ◌<◌, ◌≤◌, [], Result, Err, sym}
use Rattle.machine_types.specs.declared.answer.Refusal.{Refusal}
use Rattle.machine_types.specs.declared.shape.Shape.{Shape}
use Rattle.machine.specs.Memory.{Memory, shape, size, Sound}
use Rattle.machine.specs.Answers.{Value, blank, refusal_number, outcome, said_by}
use Rattle.machine.specs.Deeds.{memory_after, value_of}
use Rattle.machine.specs.Calls.{VramCall, vram_plan, plane_number}
use Rattle.machine.specs.Step.{vram_step}
use Rattle.machine.proofs.Laws.{plane-accepted, perform-refused, refusal-some}

-- what an inner function asks, where the judge accepts
pub plane-asked : (h : Shape) (o p : ℕ) → 0 ≡ plane_number h p o → Sound h × ((o < size h) × (p ≤ 3))
plane-asked h o p e = let a = plane-accepted h p o (sym e) in (a.shaped, (a.offset, a.plane))

-- the number that a call's plan has is answered
module _ (m : Memory) (c : VramCall) {T : Type 0} (value : T → Value) (nothing : Value) where
  pub refused : (x : Refusal) → refusal_number x ≡ (vram_plan (shape m) c).number
      → nothing ≡ blank (value_of (vram_plan (shape m) c).reply m [] (memory_after (vram_plan (shape m) c).deed [] m))
      → (r : Result T Refusal) → r ≡ Err x → outcome (said_by value nothing r) m ≡ vram_step m c
  unfolding vram_step
  refused x e b r is = rw is (perform-refused (vram_plan (shape m) c) m _ _ (refusal-some x) e b)
