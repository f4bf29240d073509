-- Lent memory as its five slices, where it is lent to a store.
use Rattle.std.specs.Prelude.{ℕ, List, ◌≡◌}
use Rattle.std.specs.Borrow.{Bor, MutBor}
use Rattle.machine_types.specs.declared.memory.Lent.{Lent}

-- memory lent to a read, to a store and to `deplane`
abbrev pub ToRead : Type 0
ToRead = Lent (Bor (List ℕ)) (Bor (List ℕ))

abbrev pub ToStore : Type 0
ToStore = Lent (MutBor (List ℕ)) (MutBor (List ℕ))

abbrev pub ToRemake : Type 0
ToRemake = Lent (Bor (List ℕ)) (MutBor (List ℕ))

-- a store leaves the five loans themselves alone: what it wrote is behind the slices that it was handed
pub record SameSlices (old new : ToStore) : Type 0 where
  pub p0 : old.p0.ghost_name ≡ new.p0.ghost_name
  pub p1 : old.p1.ghost_name ≡ new.p1.ghost_name
  pub p2 : old.p2.ghost_name ≡ new.p2.ghost_name
  pub p3 : old.p3.ghost_name ≡ new.p3.ghost_name
  pub picture : old.picture.ghost_name ≡ new.picture.ghost_name

-- what stores into the planes alone leaves their loans as they are, and the picture is the same value, however it is lent
pub record SamePlanes {Q : Type 0} (old new : Lent (MutBor (List ℕ)) Q) : Type 0 where
  pub p0 : old.p0.ghost_name ≡ new.p0.ghost_name
  pub p1 : old.p1.ghost_name ≡ new.p1.ghost_name
  pub p2 : old.p2.ghost_name ≡ new.p2.ghost_name
  pub p3 : old.p3.ghost_name ≡ new.p3.ghost_name
  pub picture : old.picture ≡ new.picture

-- what stores into the picture alone leaves the planes' loans as they are, and the picture's loan is the same
pub record SamePicture {P : Type 0} (old new : Lent P (MutBor (List ℕ))) : Type 0 where
  pub p0 : old.p0 ≡ new.p0
  pub p1 : old.p1 ≡ new.p1
  pub p2 : old.p2 ≡ new.p2
  pub p3 : old.p3 ≡ new.p3
  pub picture : old.picture.ghost_name ≡ new.picture.ghost_name

-- the bytes that a loan to a read shows are those of the loan to a store
pub record ReadsSame (r : ToRead) (s : ToStore) : Type 0 where
  pub p0 : r.p0.now ≡ s.p0.now
  pub p1 : r.p1.now ≡ s.p1.now
  pub p2 : r.p2.now ≡ s.p2.now
  pub p3 : r.p3.now ≡ s.p3.now
  pub picture : r.picture.now ≡ s.picture.now
