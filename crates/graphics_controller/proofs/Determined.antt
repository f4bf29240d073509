-- What a call's contract leaves open: nothing. Two outcomes that the contract's own reading, `Post`, permits for one input are the same answer, the same record and the same memory behind the
-- slices. Memory lent to a read cannot change; of a part handed back, the pixels are the outcome, and its lifetime says whose they are.
use Rattle.std.specs.Prelude.{Result}
use Rattle.machine_types.specs.declared.answer.Refusal.{Refusal}
use Rattle.machine_types.specs.declared.answer.After.{After}
use Rattle.machine_types.specs.declared.answer.Part.{Part}
use mathlib.Core.Path.{◌≡◌, ap, ap₂}
use contract.Lifetimes.{Lfts}
use denote.Triple.Clauses.{AtExit}
use borrow.Fn.Kinds.{Dens, ended_of}
use mathlib.Core.List.{List}
use base.Fml.{GName}
use Rattle.machine_types.specs.declared.gc.GraphicsController.{GraphicsController}
use Rattle.machine.specs.Memory.{Memory, lent}
use Rattle.machine.specs.Answers.{Said, Outcome, outcome}
use Rattle.machine.specs.Step.{Device, device}
use Rattle.machine.proofs.Injective.{answer-of, next_of, older-injective, byte-injective, store-injective, shown-injective}
use Rattle.machine_types.proofs.OneAnswer.{OneAnswer, OneOutcome}
use Rattle.machine_types.proofs.Loans.{slices, both, same-slices}
use Rattle.graphics_controller.proofs.access.cpu_read_u8.Reads as cpu-read-u8
use Rattle.graphics_controller.proofs.access.cpu_read_u8.Kinds as cpu-read-u8-kinds
use Rattle.graphics_controller.proofs.access.cpu_peek_u8.Reads as cpu-peek-u8
use Rattle.graphics_controller.proofs.access.cpu_peek_u8.Kinds as cpu-peek-u8-kinds
use Rattle.graphics_controller.proofs.access.cpu_write_u8.Reads as cpu-write-u8
use Rattle.graphics_controller.proofs.access.cpu_write_u8.Kinds as cpu-write-u8-kinds
use Rattle.graphics_controller.proofs.show.serialize.Reads as serialize
use Rattle.graphics_controller.proofs.show.serialize.Kinds as serialize-kinds
use Rattle.graphics_controller.proofs.show.show_pixels.Reads as show-pixels
use Rattle.graphics_controller.proofs.show.show_pixels.Kinds as show-pixels-kinds

gc-of : {a b : Said} {g h : GraphicsController} {m n : Memory} {o : Outcome Device} → outcome a (device g m) ≡ o → outcome b (device h n) ≡ o → g ≡ h
gc-of p q = ap (λ (d : Device). d.gc) (next_of p q)

-- an answer and what is left, of the controller
after-of : {T : Type 0} (r r' : After GraphicsController (Result T Refusal)) → r.answer ≡ r'.answer → r.next ≡ r'.next → r ≡ r'
after-of {T} r r' e f = ap₂ (λ (a : Result T Refusal) (g : GraphicsController). record { answer = a; next = g }) e f

module _ (κs : Lfts 3) (a : Dens κs cpu-read-u8-kinds.ps) where
  pub cpu-read-u8-determined : OneAnswer (cpu-read-u8.Post κs a)
  cpu-read-u8-determined r r' e e' p q = after-of r r' (byte-injective r.answer r'.answer (answer-of p q)) (gc-of p q)

module _ (κs : Lfts 3) (a : Dens κs cpu-peek-u8-kinds.ps) where
  pub cpu-peek-u8-determined : OneAnswer (cpu-peek-u8.Post κs a)
  cpu-peek-u8-determined r r' e e' p q = byte-injective r r' (answer-of p q)

module _ (κs : Lfts 2) (a : Dens κs cpu-write-u8-kinds.ps) where
  abbrev Written : Type 0
  Written = AtExit (ended_of 2 cpu-write-u8-kinds.ps cpu-write-u8-kinds.r) κs

  -- the memory behind the slices, and whose slices they are
  abbrev left : Written → Memory × List GName
  left e = (lent e.1.1.0.now, slices e.1.1.0.now)

  pub cpu-write-u8-determined : OneOutcome (cpu-write-u8.Post κs a) left
  cpu-write-u8-determined r r' e e' p q = (
    after-of r r' (store-injective r.answer r'.answer (answer-of p.1 q.1)) (gc-of p.1 q.1),
    both (ap (λ (d : Device). d.memory) (next_of p.1 q.1)) (same-slices p.0 q.0),
  )

module _ (κs : Lfts 3) (a : Dens κs serialize-kinds.ps) where
  abbrev Shown : Type 0
  Shown = AtExit (ended_of 3 serialize-kinds.ps serialize-kinds.r) κs

  pub serialize-determined : (r r' : Part) (e e' : Shown) → serialize.Post κs a r e → serialize.Post κs a r' e' → (r.answer ≡ r'.answer) × (r.pixels.now ≡ r'.pixels.now)
  serialize-determined r r' e e' p q = older-injective r r' (answer-of p q)

module _ (κs : Lfts 3) (a : Dens κs show-pixels-kinds.ps) where
  pub show-pixels-determined : OneAnswer (show-pixels.Post κs a)
  show-pixels-determined r r' e e' p q = shown-injective _ r r' (answer-of p q)
