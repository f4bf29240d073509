-- The direct stores, whatever their kind, where their judge accepts: stopped by the mask, or let through.
use Prim.Native.Nat.{ℕ, ◌*◌, ◌%◌, ◌^◌, ◌≤◌, ◌<◌}
use mathlib.Core.Path.{◌≡◌, refl, ap, ◌∙◌}
use mathlib.Core.Bool.{Bool}
use mathlib.Core.List.{[]}
use lib.Dec.{eqb}
use lib.Bits.{bit_and}
use Rattle.machine_types.specs.declared.seq.Sequencer.{Sequencer}
use Rattle.machine_types.specs.declared.shape.Shape.{Shape}
use Rattle.machine_types.specs.declared.answer.Refusal.{Refusal}
use Rattle.machine_types.specs.declared.answer.Changed.{Changed}
use Rattle.std.specs.Prelude.{Result, Err}
use Rattle.machine.specs.Memory.{Memory, shape, size, Sound}
use Rattle.machine.specs.Answers.{Value, changes, changes_of, said, outcome, refusal_number, store_said}
use Rattle.machine.specs.Deeds.{byte, laid, remade, changed_at, memory_after, value_of}
use Rattle.machine.specs.Sequencer.{fits_seq, in_mask, stored_at}
use Rattle.machine.specs.Calls.{store_one, direct_plan, plane_number, refuse}
use Rattle.machine.specs.Step.{direct_step}
use Rattle.machine.proofs.Laws.{perform-done, perform-refused, refusal-some, stored-none, stored-at-lt}
use Rattle.machine.proofs.Changes.{none-changed}
use Rattle.refusals_access.proofs.DirectJudged.{plane_asked, record_fits}
use Rattle.sequencer_masks.specs.Mask.{mask_of}
use Rattle.sequencer_masks.proofs.Laws.{mask-has, mask-lacks}
use Rattle.vram_planes.specs.Stores.{combines, store_bit}
use Rattle.vram_planes.proofs.Stores.{store-one}
use Rattle.vram_planes.specs.declared.kind.PlaneStore.{PlaneStore}
use Rattle.vram_planes.specs.declared.kind.PlaneStore.TheVariants.{Set, And, Or}
use Rattle.sequencer.specs.Direct.{direct_store_call}

-- what the store asks, at the offset where chain-four leads
pub stored_asked : (s : Sequencer) (h : Shape) (p o at : ℕ) → 0 ≡ refuse (fits_seq s) 6 (plane_number h p o) → at ≡ stored_at s o → Sound h × ((at < size h) × (p ≤ 3))
stored_asked s h p o at judged e = let a = plane_asked s h p o judged in (a.0, (stored-at-lt s o e a.1.0, a.1.1))

-- the number that the call's plan has is answered
pub refused : (s : Sequencer) (m : Memory) (p o : ℕ) (a : Bool) (x : ℕ) (k : PlaneStore) (e : Refusal) (r : Result Changed Refusal) → r ≡ Err e
    → refusal_number e ≡ refuse (fits_seq s) 6 (plane_number (shape m) p o) → outcome (store_said r) m ≡ direct_step s m (direct_store_call k p o a x)
unfolding direct_step direct_plan value_of
refused s m p o a x Set e r is n = rw is (perform-refused _ m _ _ (refusal-some e) n refl)
refused s m p o a x And e r is n = rw is (perform-refused _ m _ _ (refusal-some e) n refl)
refused s m p o a x Or e r is n = rw is (perform-refused _ m _ _ (refusal-some e) n refl)

module _ (s : Sequencer) (m : Memory) (p o : ℕ) (judged : 0 ≡ refuse (fits_seq s) 6 (plane_number (shape m) p o)) (a : Bool) (x : ℕ) where
  -- what the machine's store of that kind leaves, through the mask
  abbrev after : PlaneStore → Memory
  after k = memory_after (store_one (store_bit k) p (stored_at s o) (in_mask s o a) x) [] m

  done : (k : PlaneStore) (m' : Memory) (v : Value) → m' ≡ after k → v ≡ changes_of (changed_at m m' (stored_at s o))
      → outcome (said 0 v) m' ≡ direct_step s m (direct_store_call k p o a x)
  unfolding direct_step direct_plan value_of
  done Set m' v = perform-done _ m m' v judged
  done And m' v = perform-done _ m m' v judged
  done Or m' v = perform-done _ m m' v judged

  module _ (k : PlaneStore) (r : ℕ) (is : r ≡ mask_of s o a) where
    pub stopped : bit_and r (1 * 2 ^ p % 256) ≡ 0 → outcome (said 0 (changes 0 0 0 0)) m ≡ direct_step s m (direct_store_call k p o a x)
    unfolding memory_after
    stopped z =
        let h : p ≤ 3 = (plane_asked s (shape m) p o judged).1.1 in
        done k m _ (stored-none (stored_at s o) p (in_mask s o a) _ m h (mask-lacks s o a r p is h z)) (none-changed m _)

    pub let_through : {m' : Memory} (at : ℕ) (v : Value) → (bit_and r (1 * 2 ^ p % 256) ≡ 0 → ⊥) → at ≡ stored_at s o → x < 256
        → m' ≡ remade at (laid at (λ q. eqb q p) (λ q. combines k x (byte m q at)) m) → v ≡ changes_of (changed_at m m' at)
        → outcome (said 0 v) m' ≡ direct_step s m (direct_store_call k p o a x)
    let_through {m'} at v n e fits left ev =
        let h : p ≤ 3 = (plane_asked s (shape m) p o judged).1.1 in
        done k m' v (rw (← e) (left ∙ store-one k p at x (in_mask s o a) m h (mask-has s o a r p is h n) fits))
        (ev ∙ ap (λ (q : ℕ). changes_of (changed_at m m' q)) e)

-- what the goals of `plane_store` need
pub ruleset stores = (plane_asked, record_fits, stored_asked, refused, stopped)
