-- The corollary of `isolation`: whatever is handed out, less bit k of each pixel, less plane k's number of a store and less plane k's pixels of a show, agrees.
-- With k as 3, a label read without plane 3 holds no price.
use Prim.Native.Nat.{ℕ, suc, ◌+◌, ◌*◌, ◌/◌, ◌%◌, ◌^◌}
use native.Mathlib.Decide.{ℕ_discrete}
use native.Mathlib.Nat.{mod-lt}
use native.Mathlib.Omega.{arith}
use mathlib.Core.Logic.{◌≢◌}
use mathlib.Core.Path.{◌≡◌, refl, sym, ap, ap₂, ◌∙◌}
use mathlib.Core.Bool.{true}
use mathlib.Core.List.{List, [], ◌∷◌, ◌++◌, map}
use lib.Dec.{eqb}
use lib.ListN.{get_or}
use lib.Pow.{pow_pos}
use borrow.Author.Tests.{eq-eqb}
use Rattle.machine_types.specs.declared.gc.ShiftMode.{ShiftMode}
use Rattle.machine_types.specs.declared.gc.ShiftMode.TheVariants.{Standard, CGACompatible, Chain4, Unused}
use Rattle.bits.proofs.Laws.{bit-shr, bit-mod, bits-ext, all-bits}
use Rattle.machine.specs.Answers.{Value, one, two, pixel, part, changes, shown, pixels_of, Said, said}
use Rattle.machine.specs.Step.{State, Call, step, run}
use Rattle.machine.specs.Isolation.{Agree, Both, none, more, Alike, AlikePixel, AlikeValue, same, pixels, parts, numbers, eights, AlikeSaid, Obeys, Along, Throughout}
use Rattle.machine.specs.Isolation.{less, less_of, less_pixel, less_said}
use Rattle.machine.proofs.Isolation.{isolation}

eqb-self : (n : ℕ) → eqb n n ≡ true
eqb-self n = eq-eqb n n refl

module _ (k : ℕ) where
  agree_less : (x y : ℕ) → Agree k x y → less k x ≡ less k y
  unfolding Agree less
  agree_less x y h = ap₂ (λ (a b : ℕ). a * 2 ^ suc k + b) above below
    where
      above : x / 2 ^ suc k ≡ y / 2 ^ suc k
      above = all-bits _ _ λ i. bit-shr i (suc k) x ∙ h (suc k + i) (λ e. omega arith) ∙ sym (bit-shr i (suc k) y)

      below : x % 2 ^ k ≡ y % 2 ^ k
      below = bits-ext k (mod-lt x (pow_pos k)) (mod-lt y (pow_pos k)) λ i l. bit-mod k i x l ∙ h i (λ e. omega arith) ∙ sym (bit-mod k i y l)

  map-less : {l u : List ℕ} → Both (Agree k) l u → map (less k) l ≡ map (less k) u
  map-less none = refl
  map-less (more {x} {y} r h) = ap₂ {B = List ℕ} (λ a l. a ∷ l) (agree_less x y r) (map-less h)

  -- what is plane k's own is left out, all else is the same
  number-less : (p x y : ℕ) → (p ≢ k → x ≡ y) → less_of k p x ≡ less_of k p y
  number-less p x y h = go (ℕ_discrete p k)
    where
      go : Dec (p ≡ k) → less_of k p x ≡ less_of k p y
      go (yes e) = unfold less_of in rw e (simp eqb-self)
      go (no ne) = rw (h ne)

  pixel-less : (d : ShiftMode) (j x y : ℕ) → AlikePixel k d j x y → less_pixel k d j x ≡ less_pixel k d j y
  unfolding AlikePixel less_pixel
  pixel-less Standard j x y h = agree_less x y h
  pixel-less CGACompatible j x y h = number-less (j / 4) x y h
  pixel-less Chain4 j x y h = number-less (j / 2) x y h
  pixel-less Unused j x y h = agree_less x y h

  value-less : {v w : Value} → AlikeValue k v w → (n : ℕ) → less_said k (said n v) ≡ less_said k (said n w)
  unfolding less_said
  value-less same n = refl
  value-less (pixels {x} {y} r) n = ap (λ z. said n (pixel z)) (agree_less x y r)
  value-less (parts h) n = ap (λ z. said n (part z)) (map-less h)
  value-less (numbers {f} {g} h) n = let at : (p : ℕ) → less_of k p (f p) ≡ less_of k p (g p) = λ p. number-less p (f p) (g p) (h p) in rw (at 0, at 1, at 2, at 3)
  value-less (eights {d} {l} {u} h) n =
      let at : (j : ℕ) → less_pixel k d j (get_or l j 0) ≡ less_pixel k d j (get_or u j 0) = λ j. pixel-less d j (get_or l j 0) (get_or u j 0) (h.at j) in
      rw (at 0, at 1, at 2, at 3, at 4, at 5, at 6, at 7)

  said-less : (a b : Said) → AlikeSaid k a b → less_said k a ≡ less_said k b
  said-less a b h = value-less h.value a.number ∙ ap (λ n. less_said k (said n b.value)) h.number

  answers-less : (cs : List Call) (s t : State) → Throughout k s t cs → map (less_said k) (run s cs).answers ≡ map (less_said k) (run t cs).answers
  unfolding Throughout run
  answers-less [] s t h = refl
  answers-less (c ∷ cs) s t h = ap₂ {B = List Said} (λ a l. a ∷ l) (said-less _ _ h.1.answer) (answers-less cs (step s c).next (step t c).next h.2)

pub no-price : (cs : List Call) (s t : State) → Alike 3 s t → Along (Obeys 3) s cs → map (less_said 3) (run s cs).answers ≡ map (less_said 3) (run t cs).answers
no-price cs s t a h = answers-less 3 cs s t (isolation 3 cs s t a h)

-- a value less what each plane tells of it, k from 0 to 4
abbrev by_plane : Value → List Said
by_plane v = map (λ k. less_said k (said 0 v)) (0 ∷ 1 ∷ 2 ∷ 3 ∷ 4 ∷ [])

-- what `less` takes away, by computation: bit 3 of a pixel and of a part's pixels, and nothing of a byte, a refusal's number or an address;
-- of a store, with k as 0 to 3, plane k's number and no other, and none with k as 4
pub less-told : map (less_said 3) (said 0 (one 0xFF) ∷ said 0 (two 0xFF 1) ∷ said 5 (pixel 0) ∷ said 0 (pixel 0xFF) ∷ said 0 (part (0 ∷ 7 ∷ 8 ∷ 15 ∷ 0xF7 ∷ [])) ∷ [])
    ++ by_plane (changes 5 6 7 8)
    ≡ said 0 (one 0xFF) ∷ said 0 (two 0xFF 1) ∷ said 5 (pixel 0) ∷ said 0 (pixel 0xF7) ∷ said 0 (part (0 ∷ 7 ∷ 0 ∷ 7 ∷ 0xF7 ∷ []))
    ∷ said 0 (changes 0 6 7 8) ∷ said 0 (changes 5 0 7 8) ∷ said 0 (changes 5 6 0 8) ∷ said 0 (changes 5 6 7 0) ∷ said 0 (changes 5 6 7 8) ∷ []
unfolding less_said less less_of
less-told = refl

-- of a Chain4 show: pixels 2k and 2k + 1, and none with k as 4
pub less-told-chain4 : by_plane (shown Chain4 (1 ∷ 2 ∷ 3 ∷ 4 ∷ 5 ∷ 6 ∷ 7 ∷ 8 ∷ []))
    ≡ map (λ l. said 0 (shown Chain4 l))
    ((0 ∷ 0 ∷ 3 ∷ 4 ∷ 5 ∷ 6 ∷ 7 ∷ 8 ∷ [])
    ∷ (1 ∷ 2 ∷ 0 ∷ 0 ∷ 5 ∷ 6 ∷ 7 ∷ 8 ∷ [])
    ∷ (1 ∷ 2 ∷ 3 ∷ 4 ∷ 0 ∷ 0 ∷ 7 ∷ 8 ∷ [])
    ∷ (1 ∷ 2 ∷ 3 ∷ 4 ∷ 5 ∷ 6 ∷ 0 ∷ 0 ∷ [])
    ∷ (1 ∷ 2 ∷ 3 ∷ 4 ∷ 5 ∷ 6 ∷ 7 ∷ 8 ∷ [])
    ∷ [])
unfolding less_said less_pixel less_of
less-told-chain4 = refl

-- of a CGA show: the first four with k as 0, the last four with k as 1, none with k as 2, 3 or 4
pub less-told-cga : by_plane (shown CGACompatible (1 ∷ 2 ∷ 3 ∷ 1 ∷ 2 ∷ 3 ∷ 1 ∷ 2 ∷ []))
    ≡ map (λ l. said 0 (shown CGACompatible l))
    ((0 ∷ 0 ∷ 0 ∷ 0 ∷ 2 ∷ 3 ∷ 1 ∷ 2 ∷ [])
    ∷ (1 ∷ 2 ∷ 3 ∷ 1 ∷ 0 ∷ 0 ∷ 0 ∷ 0 ∷ [])
    ∷ (1 ∷ 2 ∷ 3 ∷ 1 ∷ 2 ∷ 3 ∷ 1 ∷ 2 ∷ [])
    ∷ (1 ∷ 2 ∷ 3 ∷ 1 ∷ 2 ∷ 3 ∷ 1 ∷ 2 ∷ [])
    ∷ (1 ∷ 2 ∷ 3 ∷ 1 ∷ 2 ∷ 3 ∷ 1 ∷ 2 ∷ [])
    ∷ [])
unfolding less_said less_pixel less_of
less-told-cga = refl

-- of a show from the picture: bit k of each pixel
pub less-told-standard : by_plane (shown Standard (0 ∷ 1 ∷ 2 ∷ 4 ∷ 8 ∷ 15 ∷ 0xF0 ∷ 0xFF ∷ []))
    ≡ map (λ l. said 0 (shown Standard l))
    ((0 ∷ 0 ∷ 2 ∷ 4 ∷ 8 ∷ 14 ∷ 0xF0 ∷ 0xFE ∷ [])
    ∷ (0 ∷ 1 ∷ 0 ∷ 4 ∷ 8 ∷ 13 ∷ 0xF0 ∷ 0xFD ∷ [])
    ∷ (0 ∷ 1 ∷ 2 ∷ 0 ∷ 8 ∷ 11 ∷ 0xF0 ∷ 0xFB ∷ [])
    ∷ (0 ∷ 1 ∷ 2 ∷ 4 ∷ 0 ∷ 7 ∷ 0xF0 ∷ 0xF7 ∷ [])
    ∷ (0 ∷ 1 ∷ 2 ∷ 4 ∷ 8 ∷ 15 ∷ 0xE0 ∷ 0xEF ∷ [])
    ∷ [])
unfolding less_said less_pixel less
less-told-standard = refl

pub less-told-unused : by_plane (shown Unused (0 ∷ 1 ∷ 2 ∷ 4 ∷ 8 ∷ 15 ∷ 0xF0 ∷ 0xFF ∷ []))
    ≡ map (λ (a : Said). said 0 (shown Unused (pixels_of a.value))) (by_plane (shown Standard (0 ∷ 1 ∷ 2 ∷ 4 ∷ 8 ∷ 15 ∷ 0xF0 ∷ 0xFF ∷ [])))
unfolding less_said less_pixel less
less-told-unused = refl
