-- Any two outcomes that a call's contract permits for one input coincide: the result itself and every slice at exit. `Post` is each contract's own reading.
use Prim.Native.Nat.{ℕ}
use mathlib.Core.Path.{◌≡◌, ap, sym, ◌∙◌}
use mathlib.Core.List.{List}
use contract.Lifetimes.{Lfts}
use denote.Triple.Clauses.{AtExit}
use borrow.Fn.Kinds.{Dens, ended_of}
use base.Fml.{GName}
use Rattle.machine.specs.Memory.{Memory, lent}
use Rattle.tape_machine.specs.declared.ran.Ran.{Ran}
use Rattle.tape_machine.specs.Run.{TapeRun}
use Rattle.tape_machine.specs.Program.{Printed}
use Rattle.machine_types.proofs.OneAnswer.{OneOutcome}
use Rattle.machine_types.proofs.Loans.{slices, both, same-slices}
use Rattle.tape_reader.proofs.whole.run.Reads as run
use Rattle.tape_reader.proofs.whole.run.Kinds as run-kinds
use Rattle.tape_reader.proofs.program.run_from_start.Reads as run-from-start
use Rattle.tape_reader.proofs.program.run_from_start.Kinds as run-from-start-kinds

module _ (κs : Lfts 4) (a : Dens κs run-kinds.ps) where
  abbrev Played : Type 0
  Played = AtExit (ended_of 4 run-kinds.ps run-kinds.r) κs

  -- the memory, and whose slices it is
  abbrev after : Played → Memory × List GName
  after e = (lent e.1.1.1.0.now, slices e.1.1.1.0.now)

  abbrev text : Played → List ℕ
  text e = e.1.1.1.1.0.now

  pub run-determined : (r r' : Ran) (e e' : Played) → run.Post κs a r e → run.Post κs a r' e' → (r ≡ r') × (after e ≡ after e') × (text e ≡ text e')
  run-determined r r' e e' p q = (
    ap (λ (o : TapeRun). o.ran) (p.1 ∙ sym q.1),
    both (ap (λ (o : TapeRun). o.memory) (p.1 ∙ sym q.1)) (same-slices p.0 q.0),
    ap (λ (o : TapeRun). o.out) (p.1 ∙ sym q.1),
  )

-- from the program's start; the memory ends with the call
module _ (κs : Lfts 2) (a : Dens κs run-from-start-kinds.ps) where
  abbrev Left : Type 0
  Left = AtExit (ended_of 2 run-from-start-kinds.ps run-from-start-kinds.r) κs

  abbrev lines : Left → List ℕ
  lines e = e.1.0.now

  pub run-from-start-determined : OneOutcome (run-from-start.Post κs a) lines
  run-from-start-determined r r' e e' p q = (ap (λ (o : Printed). o.ran) (p ∙ sym q), ap (λ (o : Printed). o.out) (p ∙ sym q))
