-- Any two outcomes that a call's contract permits for one input coincide. `Post` is each contract's own reading.
use mathlib.Core.Path.{sym, ◌∙◌}
use contract.Lifetimes.{Lfts}
use borrow.Fn.Kinds.{Dens}
use Rattle.machine_types.proofs.OneAnswer.{OneAnswer}
use Rattle.tape_records.proofs.records.decode.Reads as decode
use Rattle.tape_records.proofs.records.decode.Kinds as decode-kinds

module _ (κs : Lfts 1) (a : Dens κs decode-kinds.ps) where
  pub decode-determined : OneAnswer (decode.Post κs a)
  decode-determined r r' e e' p q = p ∙ sym q
