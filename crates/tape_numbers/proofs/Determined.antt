-- Any two outcomes that a call's contract permits for one input coincide. `Post` is each contract's own reading.
use mathlib.Core.Path.{◌≡◌, sym, ◌∙◌}
use contract.Lifetimes.{Lfts}
use denote.Triple.Clauses.{AtExit}
use borrow.Fn.Kinds.{Dens, ended_of}
use Rattle.tape_numbers.specs.Numbers.{Reading}
use Rattle.tape_numbers.proofs.read_number.Reads as read_number
use Rattle.tape_numbers.proofs.read_number.Kinds as read-number-kinds

module _ (κs : Lfts 1) (a : Dens κs read-number-kinds.ps) where
  pub read-number-determined : (r r' : Reading) (e e' : AtExit (ended_of 1 read-number-kinds.ps read-number-kinds.r) κs)
      → read_number.Post κs a r e → read_number.Post κs a r' e' → r ≡ r'
  read-number-determined r r' e e' p q = p ∙ sym q
