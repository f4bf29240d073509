-- What the contract of `map_address` leaves open: nothing. Two outcomes that its own reading, `Post`, permits for one input are the same answer.
use contract.Lifetimes.{Lfts}
use borrow.Fn.Kinds.{Dens}
use Rattle.machine.proofs.Injective.{answer-of, mapped-injective}
use Rattle.machine_types.proofs.OneAnswer.{OneAnswer}
use Rattle.graphics_address.proofs.map_address.Reads as map-address
use Rattle.graphics_address.proofs.map_address.Kinds as map-address-kinds

module _ (κs : Lfts 0) (a : Dens κs map-address-kinds.ps) where
  pub map-address-determined : OneAnswer (map-address.Post κs a)
  map-address-determined r r' e e' p q = mapped-injective r r' (answer-of p q)
