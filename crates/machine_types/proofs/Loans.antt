-- Whose slices a memory is: the names of its loans. A call that stores leaves them as it was handed them, and so leaves what it stored in its caller's own slices.
use mathlib.Core.Path.{◌≡◌, refl, sym, ap₂, ◌∙◌}
use mathlib.Core.List.{List, [], ◌∷◌}
use base.Fml.{GName}
use Prim.Native.Nat.{ℕ}
use denote.Ref.{Bor}
use Rattle.machine_types.specs.Slices.{ToStore, ToRemake, SameSlices, SamePicture}

-- of a memory lent to a store
abbrev pub slices : ToStore → List GName
slices m = m.p0.ghost_name ∷ m.p1.ghost_name ∷ m.p2.ghost_name ∷ m.p3.ghost_name ∷ m.picture.ghost_name ∷ []

-- of one lent to `deplane`: the planes' loans themselves, and the name of the picture's
abbrev pub slices_to_remake : ToRemake → List (Bor (List ℕ)) × GName
slices_to_remake m = (m.p0 ∷ m.p1 ∷ m.p2 ∷ m.p3 ∷ [], m.picture.ghost_name)

pub both : {A B : Type 0} {a b : A} {c d : B} → a ≡ b → c ≡ d → ◌≡◌ {A = A × B} (a, c) (b, d)
both {A} {B} e f = ap₂ (λ (x : A) (y : B). let z : A × B = (x, y) in z) e f

also : {A : Type 0} {a b : A} {l m : List A} → a ≡ b → l ≡ m → (a ∷ l) ≡ (b ∷ m)
also e f = ap₂ (λ x l. x ∷ l) e f

-- two calls that leave the loans of one memory alone leave the same
pub same-slices : {old m n : ToStore} → SameSlices old m → SameSlices old n → slices m ≡ slices n
same-slices p q = also (sym p.p0 ∙ q.p0) (also (sym p.p1 ∙ q.p1) (also (sym p.p2 ∙ q.p2) (also (sym p.p3 ∙ q.p3) (also (sym p.picture ∙ q.picture) refl))))

pub same-picture : {old m n : ToRemake} → SamePicture old m → SamePicture old n → slices_to_remake m ≡ slices_to_remake n
same-picture p q = both (also (sym p.p0 ∙ q.p0) (also (sym p.p1 ∙ q.p1) (also (sym p.p2 ∙ q.p2) (also (sym p.p3 ∙ q.p3) refl)))) (sym p.picture ∙ q.picture)
