-- The lent memory: four planes of n bytes each, and a picture of 8n bytes, one per pixel.
use Rattle.std.specs.Prelude.{ℕ, zero, suc, ◌*◌, ◌<◌, ◌≤◌, ◌≡◌, Bool, ◌&&◌, List, [], eqb, ltb, leb, length}
use Rattle.machine_types.specs.Slices.{ToRead, ToStore, ToRemake}
use Rattle.machine_types.specs.declared.memory.Lent.{Lent}
use Rattle.machine_types.specs.declared.shape.Shape.{Shape}

-- the four planes and the picture, as lists of bytes
pub record Memory : Type 0 where
  pub p0 : List ℕ
  pub p1 : List ℕ
  pub p2 : List ℕ
  pub p3 : List ℕ
  pub picture : List ℕ

-- the memory of five lists
abbrev pub mem : List ℕ → List ℕ → List ℕ → List ℕ → List ℕ → Memory
mem a b c d e = record { p0 = a; p1 = b; p2 = c; p3 = d; picture = e }

-- the memory behind a loan, by the bytes of a plane and of the picture
abbrev pub behind : {P Q : Type 0} → (P → List ℕ) → (Q → List ℕ) → Lent P Q → Memory
behind plane_bytes picture_bytes m = mem (plane_bytes m.p0) (plane_bytes m.p1) (plane_bytes m.p2) (plane_bytes m.p3) (picture_bytes m.picture)

-- .. to a read, to a store, and to `deplane`
abbrev pub seen : ToRead → Memory
seen = behind (λ s. s.now) (λ s. s.now)

abbrev pub lent : ToStore → Memory
lent = behind (λ s. s.now) (λ s. s.now)

abbrev pub remade_in : ToRemake → Memory
remade_in = behind (λ s. s.now) (λ s. s.now)

-- the plane of a number; there is none from 4 on
abbrev pub plane : Memory → ℕ → List ℕ
plane m zero = m.p0
plane m (suc zero) = m.p1
plane m (suc (suc zero)) = m.p2
plane m (suc (suc (suc zero))) = m.p3
plane m (suc (suc (suc (suc p)))) = []

-- the memory whose plane p is f p
abbrev pub planes : (ℕ → List ℕ) → List ℕ → Memory
planes f = mem (f 0) (f 1) (f 2) (f 3)

-- the lengths of a memory: all that a refusal may know of it
abbrev pub shape : Memory → Shape
shape m = record {
  p0 = length m.p0;
  p1 = length m.p1;
  p2 = length m.p2;
  p3 = length m.p3;
  picture = length m.picture;
}

-- n, the bytes of a plane
abbrev pub size : Shape → ℕ
size h = h.p0

-- not refusal 1: the plane lengths agree, n is from 1 to 65,536, and the picture is 8n long
unfoldable pub sound : Shape → Bool
sound h = ltb 0 (size h) && (leb (size h) 65536 && (eqb h.p1 (size h) && (eqb h.p2 (size h)
    && (eqb h.p3 (size h) && eqb h.picture (8 * size h)))))

-- not refusal 1, as facts: a field for each of its words
pub record Sound (h : Shape) : Type 0 where
  pub some : 0 < size h
  pub most : size h ≤ 65536
  pub same1 : h.p1 ≡ size h
  pub same2 : h.p2 ≡ size h
  pub same3 : h.p3 ≡ size h
  pub eightfold : h.picture ≡ 8 * size h

-- .. of a memory: what an inner function asks of its caller
abbrev pub Shaped : Memory → Type 0
Shaped m = Sound (shape m)
