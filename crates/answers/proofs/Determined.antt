-- Any two outcomes that a function's contract permits for one input coincide. `Post` is each contract's own reading.
use mathlib.Core.Path.{sym, ◌∙◌}
use mir.Syntax.{Dict}
use contract.Lifetimes.{Lfts}
use denote.RattleType.{RattleType}
use denote.Param.Laws.{Laws}
use borrow.Fn.Kinds.{Dens}
use Rattle.machine_types.proofs.OneAnswer.{OneAnswer}
use Rattle.answers.specs.declared.narrow.AsByte as as-byte
use Rattle.answers.proofs.Told.{answer-is, pixel-is, clock-is, mapped-is}
use Rattle.answers.proofs.narrow.AnswerFromResultRefusal.from.Reads as answer
use Rattle.answers.proofs.narrow.AnswerFromResultRefusal.from.Kinds as answer-kinds
use Rattle.answers.proofs.narrow.done.Reads as done
use Rattle.answers.proofs.narrow.done.Kinds as done-kinds
use Rattle.answers.proofs.narrow.of_pixel.Reads as of-pixel
use Rattle.answers.proofs.narrow.of_pixel.Kinds as of-pixel-kinds
use Rattle.answers.proofs.narrow.refused.Reads as refused
use Rattle.answers.proofs.narrow.refused.Kinds as refused-kinds
use Rattle.answers.proofs.narrow.unknown.Reads as unknown
use Rattle.answers.proofs.narrow.unknown.Kinds as unknown-kinds
use Rattle.answers.proofs.wide.ClockFromResultU32Refusal.from.Reads as clock
use Rattle.answers.proofs.wide.ClockFromResultU32Refusal.from.Kinds as clock-kinds
use Rattle.answers.proofs.wide.MappedFromResultTuple2PlaneOffsetBoolRefusal.from.Reads as mapped
use Rattle.answers.proofs.wide.MappedFromResultTuple2PlaneOffsetBoolRefusal.from.Kinds as mapped-kinds
use Rattle.answers.proofs.wide.ShownFromResultArrayU88Refusal.from.Reads as shown
use Rattle.answers.proofs.wide.ShownFromResultArrayU88Refusal.from.Kinds as shown-kinds
use Rattle.answers.proofs.wide.ShownFromPart.from.Reads as part
use Rattle.answers.proofs.wide.ShownFromPart.from.Kinds as part-kinds
use Rattle.answers.proofs.wide.StoredFromResultChangedRefusal.from.Reads as stored
use Rattle.answers.proofs.wide.StoredFromResultChangedRefusal.from.Kinds as stored-kinds
use Rattle.answers.proofs.wide.unknown_shown.Reads as unknown-shown
use Rattle.answers.proofs.wide.unknown_shown.Kinds as unknown-shown-kinds
use Rattle.answers.proofs.wide.unknown_stored.Reads as unknown-stored
use Rattle.answers.proofs.wide.unknown_stored.Kinds as unknown-stored-kinds

-- ---- a byte

-- of whatever a call hands back that a byte tells
module _ (T : RattleType) (laws : Laws T) (told : as-byte.Ghosts T.Denot) (code : Dict) (κs : Lfts 1) (a : Dens κs (answer-kinds.ps T laws)) where
  pub answer-determined : OneAnswer (answer.Post T laws told code κs a)
  answer-determined r r' e e' p q = answer-is r r' (p ∙ sym q)

module _ (κs : Lfts 0) (a : Dens κs of-pixel-kinds.ps) where
  pub of-pixel-determined : OneAnswer (of-pixel.Post κs a)
  of-pixel-determined r r' e e' p q = pixel-is r r' (p ∙ sym q)

module _ (κs : Lfts 0) (a : Dens κs done-kinds.ps) where
  pub done-determined : OneAnswer (done.Post κs a)
  done-determined r r' e e' p q = p ∙ sym q

module _ (κs : Lfts 0) (a : Dens κs refused-kinds.ps) where
  pub refused-determined : OneAnswer (refused.Post κs a)
  refused-determined r r' e e' p q = p ∙ sym q

module _ (κs : Lfts 0) (a : Dens κs unknown-kinds.ps) where
  pub unknown-determined : OneAnswer (unknown.Post κs a)
  unknown-determined r r' e e' p q = p ∙ sym q

-- ---- wider than a byte

module _ (κs : Lfts 0) (a : Dens κs clock-kinds.ps) where
  pub clock-determined : OneAnswer (clock.Post κs a)
  clock-determined r r' e e' p q = clock-is r r' (p ∙ sym q)

module _ (κs : Lfts 0) (a : Dens κs mapped-kinds.ps) where
  pub mapped-determined : OneAnswer (mapped.Post κs a)
  mapped-determined r r' e e' p q = mapped-is r r' (p ∙ sym q)

module _ (κs : Lfts 0) (a : Dens κs shown-kinds.ps) where
  pub shown-determined : OneAnswer (shown.Post κs a)
  shown-determined r r' e e' p q = p ∙ sym q

module _ (κs : Lfts 1) (a : Dens κs part-kinds.ps) where
  pub part-determined : OneAnswer (part.Post κs a)
  part-determined r r' e e' p q = p ∙ sym q

module _ (κs : Lfts 0) (a : Dens κs unknown-shown-kinds.ps) where
  pub unknown-shown-determined : OneAnswer (unknown-shown.Post κs a)
  unknown-shown-determined r r' e e' p q = p ∙ sym q

module _ (κs : Lfts 0) (a : Dens κs stored-kinds.ps) where
  pub stored-determined : OneAnswer (stored.Post κs a)
  stored-determined r r' e e' p q = p ∙ sym q

module _ (κs : Lfts 0) (a : Dens κs unknown-stored-kinds.ps) where
  pub unknown-stored-determined : OneAnswer (unknown-stored.Post κs a)
  unknown-stored-determined r r' e e' p q = p ∙ sym q
