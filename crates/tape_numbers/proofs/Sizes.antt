-- A number takes at least one byte, and no more than there are.
use Prim.Native.Nat.{ℕ, suc, ◌-◌, ◌/◌, ◌≤◌, ◌<◌}
use native.Mathlib.Omega.{arith}
use mathlib.Core.Path.{◌≡◌, refl, sym, subst, ◌∙◌}
use mathlib.Core.Bool.{Bool, true, false}
use mathlib.Core.List.{List, [], ◌∷◌}
use lib.Dec.{eqb, ltb, leb}
use lib.ListN.{length}
use Rattle.bits.specs.Bit.{pick}
use Rattle.std.specs.Prelude.{Ok, Err}
use Rattle.tape_numbers.specs.Numbers.{Reading, read, on_top, last_group, groups, number_of}

-- a property of both branches of a choice
pub either : {A : Type 0} (P : A → Type 0) (t : Bool) {x y : A} → (t ≡ true → P x) → (t ≡ false → P y) → P (pick t x y)
either P true f g = f refl
either P false f g = g refl

-- at least one byte, at most k
abbrev pub Within : ℕ → Reading → Type 0
Within k (Ok x) = (0 < x.taken) × (x.taken ≤ k)
Within k (Err f) = Unit

on-top-within : (low weight k : ℕ) (x : Reading) → Within k x → Within (suc k) (on_top low weight 1 x)
unfolding on_top
on-top-within low weight k (Ok x) h = (omega arith, omega arith)
on-top-within low weight k (Err f) h = tt

last_within : (first : Bool) (k b : ℕ) → 0 < k → Within k (last_group first b)
unfolding last_group
last_within first k b h =
    either (Within k) (eqb b 0) (λ e. either (Within k) first (λ e. (omega arith, omega arith)) (λ e. tt)) (λ e. (omega arith, omega arith))

groups-within : (first : Bool) (limit : ℕ) (s : List ℕ) → Within (length s) (groups first limit s)
unfolding groups
groups-within first limit [] = tt
groups-within first limit (b ∷ s) =
    either (Within (length (b ∷ s))) (leb limit b) (λ e. tt) λ e.
    either (Within (length (b ∷ s))) (ltb b 128) (λ e. last_within first _ b (omega arith)) λ e.
    on-top-within (b - 128) 128 (length s) _ (groups-within false (limit / 128) s)

pub number-within : (limit : ℕ) (s : List ℕ) → Within (length s) (number_of limit s)
unfolding number_of
number-within limit s = groups-within true limit s

-- as the code's answer has it
pub number_fits : (limit : ℕ) (s : List ℕ) {r : Reading} {v n : ℕ} → r ≡ number_of limit s → r ≡ read v n → (0 < n) × (n ≤ length s)
number_fits limit s p q = subst (Within (length s)) (sym p ∙ q) (number-within limit s)
