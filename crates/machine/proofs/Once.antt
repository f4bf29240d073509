-- `once`: a store of several planes, its pixels remade once, is the stores of its planes in turn, each of which remakes its offset's eight pixels.
use Prim.Native.Nat.{ℕ, zero, suc, ◌*◌, ◌<◌, ◌≤◌}
use native.Mathlib.Omega.{arith}
use mathlib.Core.Path.{◌≡◌, refl, sym, ap, ◌∙◌}
use mathlib.Core.Bool.{Bool, true, false, ◌&&◌, ◌||◌}
use mathlib.Core.List.{List, [], ◌∷◌}
use lib.Dec.{eqb}
use borrow.Author.Tests.{lt-ltb}
use lib.ListN.{length, set}
use lib.Seq.{sets, set-set, set_comm}
use Rattle.bits.specs.Bit.{of_bits, pick}
use Rattle.machine.specs.Memory.{Memory, mem}
use Rattle.machine.specs.Deeds.{pixel_of, eight, remade, laid, any, stored}
use Rattle.machine.proofs.Laws.{below, laid_more, stored_one, stored-none}

-- the planes below k that the test names, one store for each
unfoldable pub in_turn : ℕ → (ℕ → Bool) → (ℕ → ℕ) → ℕ → Memory → Memory
in_turn o w b zero m = m
in_turn o w b (suc k) m = stored o (λ q. eqb q k && w q) b (in_turn o w b k m)

-- ---- what is laid twice at one place was laid once

set-sets : (v l : List ℕ) (i j x : ℕ) → j < i → set (sets l i v) j x ≡ sets (set l j x) i v
set-sets [] l i j x h = refl
set-sets (y ∷ v) l i j x h = set-sets v (set l i y) (suc i) j x (omega arith) ∙ ap (λ (u : List ℕ). sets u (suc i) v) (set_comm l i j y x λ e. omega arith)

sets-sets : (v w l : List ℕ) (i : ℕ) → length v ≡ length w → sets (sets l i v) i w ≡ sets l i w
sets-sets [] [] l i h = refl
sets-sets [] (y ∷ w) l i h = absurd (omega arith)
sets-sets (x ∷ v) [] l i h = absurd (omega arith)
sets-sets (x ∷ v) (y ∷ w) l i h =
    ap (λ (u : List ℕ). sets u (suc i) w) (set-sets v (set l i x) (suc i) i y (omega arith) ∙ ap (λ (u : List ℕ). sets u (suc i) v) (set-set l i x y))
    ∙ sets-sets v w (set l i y) (suc i) (omega arith)

neither : (a b : Bool) → (a || b) ≡ false → (a ≡ false) × (b ≡ false)
neither false b e = (refl, e)
neither true b e = absurd (let z : ◌≡◌ {A = ℕ} 0 1 = cc in omega arith)

either : (a b : Bool) → b ≡ true → (a || b) ≡ true
either true b e = refl
either false b e = e

-- a test that names a plane names one
named : (w : ℕ → Bool) (k : ℕ) → k < 4 → w k ≡ true → any w ≡ true
named w zero h e = rw e
named w (suc zero) h e = either (w 0) _ (rw e)
named w (suc (suc zero)) h e = either (w 0) _ (either (w 1) _ (rw e))
named w (suc (suc (suc zero))) h e = either (w 0) _ (either (w 1) _ (either (w 2) _ e))
named w (suc (suc (suc (suc k)))) h e = absurd (omega arith)

module _ (o : ℕ) (b : ℕ → ℕ) where
  -- pixels remade before a store at the same offset are remade by it
  over : (w : ℕ → Bool) (m : Memory) → remade o (laid o w b (remade o m)) ≡ remade o (laid o w b m)
  unfolding remade laid pixel_of of_bits
  over w m = ap (mem _ _ _ _) (sets-sets (eight (pixel_of m o)) (eight (pixel_of (laid o w b m) o)) m.picture (8 * o) refl)

  laid-nothing : (w : ℕ → Bool) (m : Memory) → any w ≡ false → laid o w b m ≡ m
  unfolding laid
  laid-nothing w m e =
      let a = neither (w 0) _ e in
      let c = neither (w 1) _ a.1 in
      let d = neither (w 2) (w 3) c.1 in
      rw (a.0, c.0, d.0, d.1)

  -- a plane laid over what a store left is remade as if the store had only laid its bytes
  over-stored : (only v : ℕ → Bool) (m : Memory) → remade o (laid o only b (stored o v b m)) ≡ remade o (laid o only b (laid o v b m))
  unfolding stored
  over-stored only v m = go (any v) refl
    where
      go : (t : Bool) → any v ≡ t → remade o (laid o only b (pick t (remade o (laid o v b m)) m)) ≡ remade o (laid o only b (laid o v b m))
      go true e = over only (laid o v b m)
      go false e = ap (λ (n : Memory). remade o (laid o only b n)) (sym (laid-nothing v m e))

  module _ (w : ℕ → Bool) (m : Memory) where
    -- one plane more, where the test names it and where it doesn't
    stored_more : (k : ℕ) → k < 4 → w k ≡ true → remade o (laid o (below (suc k) w) b m) ≡ stored o (below (suc k) w) b m
    unfolding stored
    stored_more k h e = rw (named (below (suc k) w) k h (ap (λ (t : Bool). t && w k) (lt-ltb k (suc k) (omega arith)) ∙ e))

    stored-skip : (k : ℕ) → k < 4 → w k ≡ false → stored o (below k w) b m ≡ stored o (below (suc k) w) b m
    unfolding stored laid
    stored-skip zero h e = rw e
    stored-skip (suc zero) h e = rw e
    stored-skip (suc (suc zero)) h e = rw e
    stored-skip (suc (suc (suc zero))) h e = rw e
    stored-skip (suc (suc (suc (suc k)))) h e = absurd (omega arith)

    turn : (k : ℕ) → k < 4 → (t : Bool) → w k ≡ t → stored o (λ q. eqb q k && w q) b (stored o (below k w) b m) ≡ stored o (below (suc k) w) b m
    turn k h true e =
        sym (stored_one o k w b (stored o (below k w) b m) (omega arith) e)
        ∙ over-stored (λ q. eqb q k) (below k w) m
        ∙ ap (remade o) (laid_more o w b m k h e)
        ∙ stored_more k h e
    turn k h false e = sym (stored-none o k w b (stored o (below k w) b m) (omega arith) e) ∙ stored-skip k h e

    turns : (k : ℕ) → k ≤ 4 → in_turn o w b k m ≡ stored o (below k w) b m
    unfolding in_turn stored
    turns zero h = refl
    turns (suc k) h = ap (stored o (λ q. eqb q k && w q) b) (turns k (omega arith)) ∙ turn k h (w k) refl

    pub once : in_turn o w b 4 m ≡ stored o w b m
    unfolding stored laid
    once = turns 4 (omega arith)
