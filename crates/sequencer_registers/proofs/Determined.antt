-- Any two outcomes that a call's contract permits for one input coincide: the answer itself, and the record that comes back. `Post` is each contract's own reading.
use mathlib.Core.Path.{◌≡◌, ap₂}
use contract.Lifetimes.{Lfts}
use borrow.Fn.Kinds.{Dens}
use Rattle.std.specs.Prelude.{Bool, Result}
use Rattle.machine_types.specs.declared.answer.After.{After}
use Rattle.machine_types.specs.declared.answer.Refusal.{Refusal}
use Rattle.machine_types.specs.declared.seq.Sequencer.{Sequencer}
use Rattle.machine.specs.Answers.{Outcome, outcome, done_said, flag_said}
use Rattle.machine.proofs.Injective.{answer-of, next_of, byte-injective, done-injective, flag-injective, clock-injective}
use Rattle.machine_types.proofs.OneAnswer.{OneAnswer}
use Rattle.sequencer_registers.proofs.registers.reset.Reads as reset
use Rattle.sequencer_registers.proofs.registers.reset.Kinds as reset-kinds
use Rattle.sequencer_registers.proofs.registers.clock.Reads as clock
use Rattle.sequencer_registers.proofs.registers.clock.Kinds as clock-kinds
use Rattle.sequencer_registers.proofs.registers.set_clock_change_pending.Reads as set-clock-change-pending
use Rattle.sequencer_registers.proofs.registers.set_clock_change_pending.Kinds as set-clock-change-pending-kinds
use Rattle.sequencer_registers.proofs.registers.poll_clock_change.Reads as poll-clock-change
use Rattle.sequencer_registers.proofs.registers.poll_clock_change.Kinds as poll-clock-change-kinds
use Rattle.sequencer_registers.proofs.registers.read_address.Reads as read-address
use Rattle.sequencer_registers.proofs.registers.read_address.Kinds as read-address-kinds
use Rattle.sequencer_registers.proofs.registers.write_address.Reads as write-address
use Rattle.sequencer_registers.proofs.registers.write_address.Kinds as write-address-kinds
use Rattle.sequencer_registers.proofs.registers.read_data.Reads as read-data
use Rattle.sequencer_registers.proofs.registers.read_data.Kinds as read-data-kinds
use Rattle.sequencer_registers.proofs.registers.write_data.Reads as write-data
use Rattle.sequencer_registers.proofs.registers.write_data.Kinds as write-data-kinds

-- an answer with the record beside it
done-of : {o : Outcome Sequencer} (r r' : After Sequencer (Result Unit Refusal)) → outcome (done_said r.answer) r.next ≡ o → outcome (done_said r'.answer) r'.next ≡ o → r ≡ r'
done-of r r' p q =
    ap₂ (λ (a : Result Unit Refusal) (s : Sequencer). record { answer = a; next = s }) (done-injective r.answer r'.answer (answer-of p q)) (next_of p q)

flag-of : {o : Outcome Sequencer} (r r' : After Sequencer (Result Bool Refusal)) → outcome (flag_said r.answer) r.next ≡ o → outcome (flag_said r'.answer) r'.next ≡ o → r ≡ r'
flag-of r r' p q =
    ap₂ (λ (a : Result Bool Refusal) (s : Sequencer). record { answer = a; next = s }) (flag-injective r.answer r'.answer (answer-of p q)) (next_of p q)

module _ (κs : Lfts 0) (a : Dens κs reset-kinds.ps) where
  pub reset-determined : OneAnswer (reset.Post κs a)
  reset-determined r r' e e' p q = next_of p q

module _ (κs : Lfts 0) (a : Dens κs clock-kinds.ps) where
  pub clock-determined : OneAnswer (clock.Post κs a)
  clock-determined r r' e e' p q = clock-injective r r' (answer-of p q)

module _ (κs : Lfts 0) (a : Dens κs set-clock-change-pending-kinds.ps) where
  pub set-clock-change-pending-determined : OneAnswer (set-clock-change-pending.Post κs a)
  set-clock-change-pending-determined r r' e e' p q = done-of r r' p q

module _ (κs : Lfts 0) (a : Dens κs poll-clock-change-kinds.ps) where
  pub poll-clock-change-determined : OneAnswer (poll-clock-change.Post κs a)
  poll-clock-change-determined r r' e e' p q = flag-of r r' p q

module _ (κs : Lfts 0) (a : Dens κs read-address-kinds.ps) where
  pub read-address-determined : OneAnswer (read-address.Post κs a)
  read-address-determined r r' e e' p q = byte-injective r r' (answer-of p q)

module _ (κs : Lfts 0) (a : Dens κs write-address-kinds.ps) where
  pub write-address-determined : OneAnswer (write-address.Post κs a)
  write-address-determined r r' e e' p q = done-of r r' p q

module _ (κs : Lfts 0) (a : Dens κs read-data-kinds.ps) where
  pub read-data-determined : OneAnswer (read-data.Post κs a)
  read-data-determined r r' e e' p q = byte-injective r r' (answer-of p q)

module _ (κs : Lfts 0) (a : Dens κs write-data-kinds.ps) where
  pub write-data-determined : OneAnswer (write-data.Post κs a)
  write-data-determined r r' e e' p q = done-of r r' p q
