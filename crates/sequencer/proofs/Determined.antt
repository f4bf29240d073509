-- Any two outcomes that a call's contract permits for one input coincide: the answer itself, and what is left behind the slices. `Post` is each contract's own reading.
use contract.Lifetimes.{Lfts}
use denote.Triple.Clauses.{AtExit}
use borrow.Fn.Kinds.{Dens, ended_of}
use mathlib.Core.List.{List}
use base.Fml.{GName}
use Rattle.machine.specs.Memory.{Memory, lent}
use Rattle.machine.proofs.Injective.{answer-of, next_of, store-injective}
use Rattle.machine_types.proofs.OneAnswer.{OneOutcome}
use Rattle.machine_types.proofs.Loans.{slices, both, same-slices}
use Rattle.sequencer.proofs.direct.plane_set.Reads as plane-set
use Rattle.sequencer.proofs.direct.plane_set.Kinds as plane-set-kinds
use Rattle.sequencer.proofs.direct.plane_and.Reads as plane-and
use Rattle.sequencer.proofs.direct.plane_and.Kinds as plane-and-kinds
use Rattle.sequencer.proofs.direct.plane_or.Reads as plane-or
use Rattle.sequencer.proofs.direct.plane_or.Kinds as plane-or-kinds

-- what the three stores leave behind their five slices, and whose slices they are
abbrev Stored : Lfts 2 → Type 0
Stored κs = AtExit (ended_of 2 plane-set-kinds.ps plane-set-kinds.r) κs

abbrev left : (κs : Lfts 2) → Stored κs → Memory × List GName
left κs e = (lent e.1.0.now, slices e.1.0.now)

module _ (κs : Lfts 2) (a : Dens κs plane-set-kinds.ps) where
  pub plane-set-determined : OneOutcome (plane-set.Post κs a) (left κs)
  plane-set-determined r r' e e' p q = (store-injective r r' (answer-of p.1 q.1), both (next_of p.1 q.1) (same-slices p.0 q.0))

module _ (κs : Lfts 2) (a : Dens κs plane-and-kinds.ps) where
  pub plane-and-determined : OneOutcome (plane-and.Post κs a) (left κs)
  plane-and-determined r r' e e' p q = (store-injective r r' (answer-of p.1 q.1), both (next_of p.1 q.1) (same-slices p.0 q.0))

module _ (κs : Lfts 2) (a : Dens κs plane-or-kinds.ps) where
  pub plane-or-determined : OneOutcome (plane-or.Post κs a) (left κs)
  plane-or-determined r r' e e' p q = (store-injective r r' (answer-of p.1 q.1), both (next_of p.1 q.1) (same-slices p.0 q.0))
