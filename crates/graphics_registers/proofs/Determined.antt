-- What a call's contract leaves open: nothing. Two outcomes that the contract's own reading, `Post`, permits for one input are the same answer,
-- the same record and the same five slices. A slice lent as `&` cannot change; of a part handed back, the pixels are the outcome, and its lifetime says whose they are.
use mathlib.Core.Path.{◌≡◌, sym, ap₂, ◌∙◌}
use Rattle.std.specs.Prelude.{Result}
use contract.Lifetimes.{Lfts}
use borrow.Fn.Kinds.{Dens}
use Rattle.machine_types.specs.declared.answer.After.{After}
use Rattle.machine_types.specs.declared.answer.Refusal.{Refusal}
use Rattle.machine_types.specs.declared.gc.GraphicsController.{GraphicsController}
use Rattle.machine.specs.Answers.{Outcome, outcome, done_said}
use Rattle.machine.proofs.Injective.{answer-of, next_of, byte-injective, done-injective, flag-injective, map_injective, odd-even-injective, shift-injective}
use Rattle.machine_types.proofs.OneAnswer.{OneAnswer}
use Rattle.graphics_registers.proofs.registers.reset.Reads as reset
use Rattle.graphics_registers.proofs.registers.reset.Kinds as reset-kinds
use Rattle.graphics_registers.proofs.registers.chain.Reads as chain
use Rattle.graphics_registers.proofs.registers.chain.Kinds as chain-kinds
use Rattle.graphics_registers.proofs.registers.chain4.Reads as chain4
use Rattle.graphics_registers.proofs.registers.chain4.Kinds as chain4-kinds
use Rattle.graphics_registers.proofs.registers.memory_map.Reads as memory-map
use Rattle.graphics_registers.proofs.registers.memory_map.Kinds as memory-map-kinds
use Rattle.graphics_registers.proofs.registers.odd_even.Reads as odd_even
use Rattle.graphics_registers.proofs.registers.odd_even.Kinds as odd-even-kinds
use Rattle.graphics_registers.proofs.registers.shift_mode.Reads as shift-mode
use Rattle.graphics_registers.proofs.registers.shift_mode.Kinds as shift-mode-kinds
use Rattle.graphics_registers.proofs.registers.read_address.Reads as read-address
use Rattle.graphics_registers.proofs.registers.read_address.Kinds as read-address-kinds
use Rattle.graphics_registers.proofs.registers.data_of.Reads as data-of
use Rattle.graphics_registers.proofs.registers.data_of.Kinds as data-of-kinds
use Rattle.graphics_registers.proofs.registers.read_data.Reads as read-data
use Rattle.graphics_registers.proofs.registers.read_data.Kinds as read-data-kinds
use Rattle.graphics_registers.proofs.registers.write_address.Reads as write-address
use Rattle.graphics_registers.proofs.registers.write_address.Kinds as write-address-kinds
use Rattle.graphics_registers.proofs.registers.write_data.Reads as write-data
use Rattle.graphics_registers.proofs.registers.write_data.Kinds as write-data-kinds

-- an answer and the record beside it
port-of : {o : Outcome GraphicsController} (r r' : After GraphicsController (Result Unit Refusal)) → outcome (done_said r.answer) r.next ≡ o → outcome (done_said r'.answer) r'.next ≡ o → r ≡ r'
port-of r r' p q =
    ap₂ (λ (a : Result Unit Refusal) (g : GraphicsController). record { answer = a; next = g }) (done-injective r.answer r'.answer (answer-of p q)) (next_of p q)

module _ (κs : Lfts 0) (a : Dens κs reset-kinds.ps) where
  pub reset-determined : OneAnswer (reset.Post κs a)
  reset-determined r r' e e' p q = next_of p q

module _ (κs : Lfts 0) (a : Dens κs chain-kinds.ps) where
  pub chain-determined : OneAnswer (chain.Post κs a)
  chain-determined r r' e e' p q = flag-injective r r' (answer-of p q)

module _ (κs : Lfts 0) (a : Dens κs chain4-kinds.ps) where
  pub chain4-determined : OneAnswer (chain4.Post κs a)
  chain4-determined r r' e e' p q = flag-injective r r' (answer-of p q)

module _ (κs : Lfts 0) (a : Dens κs memory-map-kinds.ps) where
  pub memory-map-determined : OneAnswer (memory-map.Post κs a)
  memory-map-determined r r' e e' p q = map_injective r r' (answer-of p q)

module _ (κs : Lfts 0) (a : Dens κs odd-even-kinds.ps) where
  pub odd-even-determined : OneAnswer (odd_even.Post κs a)
  odd-even-determined r r' e e' p q = odd-even-injective r r' (answer-of p q)

module _ (κs : Lfts 0) (a : Dens κs shift-mode-kinds.ps) where
  pub shift-mode-determined : OneAnswer (shift-mode.Post κs a)
  shift-mode-determined r r' e e' p q = shift-injective r r' (answer-of p q)

module _ (κs : Lfts 0) (a : Dens κs read-address-kinds.ps) where
  pub read-address-determined : OneAnswer (read-address.Post κs a)
  read-address-determined r r' e e' p q = byte-injective r r' (answer-of p q)

module _ (κs : Lfts 0) (a : Dens κs data-of-kinds.ps) where
  pub data-of-determined : OneAnswer (data-of.Post κs a)
  data-of-determined r r' e e' p q = p ∙ sym q

module _ (κs : Lfts 0) (a : Dens κs read-data-kinds.ps) where
  pub read-data-determined : OneAnswer (read-data.Post κs a)
  read-data-determined r r' e e' p q = byte-injective r r' (answer-of p q)

module _ (κs : Lfts 0) (a : Dens κs write-address-kinds.ps) where
  pub write-address-determined : OneAnswer (write-address.Post κs a)
  write-address-determined r r' e e' p q = port-of r r' p q

module _ (κs : Lfts 0) (a : Dens κs write-data-kinds.ps) where
  pub write-data-determined : OneAnswer (write-data.Post κs a)
  write-data-determined r r' e e' p q = port-of r r' p q
