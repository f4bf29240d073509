-- Any two records that the contract of a `new`, or of `of`, permits coincide.
use mathlib.Core.Path.{sym, ◌∙◌}
use contract.Lifetimes.{Lfts}
use borrow.Fn.Kinds.{Dens}
use Rattle.machine_types.proofs.OneAnswer.{OneAnswer}
use Rattle.machine_types.proofs.gc.GraphicsController.new.Reads as new-controller
use Rattle.machine_types.proofs.gc.GraphicsController.new.Kinds as new-controller-kinds
use Rattle.machine_types.proofs.seq.Sequencer.new.Reads as new-sequencer
use Rattle.machine_types.proofs.seq.Sequencer.new.Kinds as new-sequencer-kinds
use Rattle.machine_types.proofs.shape.Shape.of.Reads as of-lengths
use Rattle.machine_types.proofs.shape.Shape.of.Kinds as of-lengths-kinds

module _ (κs : Lfts 0) (a : Dens κs new-controller-kinds.ps) where
  pub new-controller-determined : OneAnswer (new-controller.Post κs a)
  new-controller-determined r r' e e' p q = p ∙ sym q

module _ (κs : Lfts 0) (a : Dens κs new-sequencer-kinds.ps) where
  pub new-sequencer-determined : OneAnswer (new-sequencer.Post κs a)
  new-sequencer-determined r r' e e' p q = p ∙ sym q

module _ (κs : Lfts 0) (a : Dens κs of-lengths-kinds.ps) where
  pub of-lengths-determined : OneAnswer (of-lengths.Post κs a)
  of-lengths-determined r r' e e' p q = p ∙ sym q
