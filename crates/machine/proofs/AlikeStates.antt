-- Two states alike but for plane k, as the examples start from: plane k's bytes, latch k and bit k of each pixel are handed in, and all else is the same.
use Prim.Native.Nat.{ℕ, zero, suc, ◌*◌, ◌<◌}
use native.Mathlib.Omega.{arith}
use mathlib.Core.Logic.{◌≢◌}
use mathlib.Core.Path.{◌≡◌, refl}
use mathlib.Core.Bool.{Bool, true, false}
use mathlib.Core.List.{List, [], ◌∷◌}
use lib.Dec.{eqb}
use lib.ListN.{length, replicate}
use borrow.Author.Tests.{ne_eqb}
use Rattle.bits.specs.Bit.{of_bits, pick}
use Rattle.machine_types.specs.Start.{fresh_gc, fresh_seq}
use Rattle.machine.specs.Memory.{planes}
use Rattle.machine.specs.Graphics.{gc_of}
use Rattle.machine.specs.Deeds.{latch}
use Rattle.machine.specs.Step.{State, state}
use Rattle.machine.specs.Isolation.{Agree, Both, none, more, AlikeLatches, Alike}
use Rattle.machine.proofs.Isolation.{agree_of, alike-planes}

-- one thing at k, elsewhere what the others have
abbrev pub put : {A : Type 0} → ℕ → A → (ℕ → A) → ℕ → A
put k x f p = pick (eqb p k) x (f p)

-- 0 at every plane
abbrev zeros : ℕ → ℕ
zeros p = 0

-- registers at their start, latch k so and the others 0; plane k's bytes so, the other planes' as handed in; each pixel 0 but for bit k
unfoldable pub with_plane : ℕ → (ℕ → List ℕ) → List ℕ → ℕ → ℕ → State
with_plane k others bytes held dot =
    state (gc_of fresh_gc.registers fresh_gc.stats (put k held zeros 0 ∷ put k held zeros 1 ∷ put k held zeros 2 ∷ put k held zeros 3 ∷ [])) fresh_seq
    (planes (put k bytes others) (replicate (8 * length bytes) (of_bits 4 (put k dot zeros))))

put_other : {A : Type 0} (k : ℕ) (x y : A) (f : ℕ → A) (p : ℕ) → p ≢ k → put k x f p ≡ put k y f p
put_other k x y f p ne = rw (ne_eqb p k ne)

module _ (k : ℕ) where
  put-bit : (d : ℕ) → d < 2 → (p : ℕ) → put k d zeros p < 2
  put-bit d h p = go (eqb p k)
    where
      go : (t : Bool) → pick t d 0 < 2
      go true = h
      go false = omega arith

  module _ (others : ℕ → List ℕ) (a b : List ℕ) (e : length a ≡ length b) where
    put-length : (p : ℕ) → length (put k a others p) ≡ length (put k b others p)
    put-length p = go (eqb p k)
      where
        go : (t : Bool) → length (pick t a (others p)) ≡ length (pick t b (others p))
        go true = e
        go false = refl

    -- whatever the two latches and dots are
    pub with-plane-alike : (held kept dot dash : ℕ) → dot < 2 → dash < 2 → Alike k (with_plane k others a held dot) (with_plane k others b kept dash)
    unfolding with_plane AlikeLatches
    with-plane-alike held kept dot dash h i = record {
      gc = record { registers = record { same = refl }; stats = refl; latches = latches };
      seq = refl;
      memory = alike-planes k _ _ (put_other k a b others) put-length _ _ (rw e (dots (8 * length b)));
    }
      where
        latches : (p : ℕ) → p ≢ k → latch (with_plane k others a held dot).gc.latches p ≡ latch (with_plane k others b kept dash).gc.latches p
        latches zero ne = put_other k held kept zeros 0 ne
        latches (suc zero) ne = put_other k held kept zeros 1 ne
        latches (suc (suc zero)) ne = put_other k held kept zeros 2 ne
        latches (suc (suc (suc zero))) ne = put_other k held kept zeros 3 ne
        latches (suc (suc (suc (suc p)))) ne = refl

        dots : (n : ℕ) → Both (Agree k) (replicate n (of_bits 4 (put k dot zeros))) (replicate n (of_bits 4 (put k dash zeros)))
        dots zero = none
        dots (suc n) = more (agree_of k _ _ (put-bit dot h) (put-bit dash i) (put_other k dot dash zeros)) (dots n)
