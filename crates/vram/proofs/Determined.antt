-- Any two outcomes that a call's contract permits for one input coincide: the answer itself, and what is left behind the slices. `Post` is each contract's own reading.
use contract.Lifetimes.{Lfts}
use denote.Triple.Clauses.{AtExit}
use borrow.Fn.Kinds.{Dens, ended_of}
use mathlib.Core.List.{List}
use Prim.Native.Nat.{ℕ}
use base.Fml.{GName}
use denote.Ref.{Bor}
use Rattle.machine.specs.Memory.{Memory, lent, remade_in}
use Rattle.machine.proofs.Injective.{answer-of, next_of, store-injective, done-injective}
use Rattle.machine_types.proofs.OneAnswer.{OneOutcome}
use Rattle.machine_types.proofs.Loans.{slices, slices_to_remake, both, same-slices, same-picture}
use Rattle.vram.proofs.write_u8.Reads as write-u8
use Rattle.vram.proofs.write_u8.Kinds as write-u8-kinds
use Rattle.vram.proofs.deplane.Reads as deplane
use Rattle.vram.proofs.deplane.Kinds as deplane-kinds
use Rattle.vram.proofs.plane_set.Reads as plane-set
use Rattle.vram.proofs.plane_set.Kinds as plane-set-kinds
use Rattle.vram.proofs.plane_and.Reads as plane-and
use Rattle.vram.proofs.plane_and.Kinds as plane-and-kinds
use Rattle.vram.proofs.plane_or.Reads as plane-or
use Rattle.vram.proofs.plane_or.Kinds as plane-or-kinds

-- what the four stores leave behind their five slices, and `deplane` behind the picture's, and whose slices they are
abbrev left : (κs : Lfts 2) → AtExit (ended_of 2 plane-set-kinds.ps plane-set-kinds.r) κs → Memory × List GName
left κs e = (lent e.0.now, slices e.0.now)

abbrev left-by-deplane : (κs : Lfts 3) → AtExit (ended_of 3 deplane-kinds.ps deplane-kinds.r) κs → Memory × (List (Bor (List ℕ)) × GName)
left-by-deplane κs e = (remade_in e.0.now, slices_to_remake e.0.now)

module _ (κs : Lfts 2) (a : Dens κs write-u8-kinds.ps) where
  pub write-u8-determined : OneOutcome (write-u8.Post κs a) (left κs)
  write-u8-determined r r' e e' p q = (store-injective r r' (answer-of p.1 q.1), both (next_of p.1 q.1) (same-slices p.0 q.0))

module _ (κs : Lfts 3) (a : Dens κs deplane-kinds.ps) where
  pub deplane-determined : OneOutcome (deplane.Post κs a) (left-by-deplane κs)
  deplane-determined r r' e e' p q = (done-injective r r' (answer-of p.1 q.1), both (next_of p.1 q.1) (same-picture p.0 q.0))

module _ (κs : Lfts 2) (a : Dens κs plane-set-kinds.ps) where
  pub plane-set-determined : OneOutcome (plane-set.Post κs a) (left κs)
  plane-set-determined r r' e e' p q = (store-injective r r' (answer-of p.1 q.1), both (next_of p.1 q.1) (same-slices p.0 q.0))

module _ (κs : Lfts 2) (a : Dens κs plane-and-kinds.ps) where
  pub plane-and-determined : OneOutcome (plane-and.Post κs a) (left κs)
  plane-and-determined r r' e e' p q = (store-injective r r' (answer-of p.1 q.1), both (next_of p.1 q.1) (same-slices p.0 q.0))

module _ (κs : Lfts 2) (a : Dens κs plane-or-kinds.ps) where
  pub plane-or-determined : OneOutcome (plane-or.Post κs a) (left κs)
  plane-or-determined r r' e e' p q = (store-injective r r' (answer-of p.1 q.1), both (next_of p.1 q.1) (same-slices p.0 q.0))
