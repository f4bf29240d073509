-- Any two outcomes that a call's contract permits for one input coincide: the result itself and every slice at exit. `Post` is each contract's own reading.
use Prim.Native.Nat.{ℕ, ◌-◌}
use mathlib.Core.Path.{◌≡◌, refl, ap, sym, ◌∙◌}
use mathlib.Core.List.{List, [], ◌∷◌}
use lib.Dec.{eqb}
use lib.ListN.{get_or}
use contract.Lifetimes.{Lfts}
use denote.Triple.Clauses.{AtExit}
use borrow.Fn.Kinds.{Dens, ended_of}
use base.Fml.{GName}
use Rattle.std.specs.Prelude.{Result, Ok, Err}
use Rattle.bits.specs.Bit.{pick}
use Rattle.machine_types.specs.declared.answer.Refusal.{Refusal}
use Rattle.machine_types.specs.declared.answer.Refusal.TheVariants.{Memory as MemoryShape, Window, Offset, Plane, Place, State, Damaged, Range, Shift, Room}
use Rattle.machine.specs.Memory.{Memory, lent}
use Rattle.machine.specs.Answers.{Value, one, two, pixel, part, changes, shown, Said, Outcome, outcome, refusal_number}
use Rattle.machine.specs.Step.{State as MachineState, state}
use Rattle.tape_machine.specs.declared.told.Told.{Told}
use Rattle.tape_machine.specs.declared.told.Told.TheVariants.{Byte, Pixels, Changes}
use Rattle.tape_calls.specs.declared.calls.Performed.{Performed}
use Rattle.tape_machine.specs.Told.{told_said}
use Rattle.machine_types.proofs.OneAnswer.{OneOutcome}
use Rattle.machine_types.proofs.Loans.{slices, both, same-slices}
use Rattle.tape_calls.proofs.calls.perform.Reads as perform
use Rattle.tape_calls.proofs.calls.perform.Kinds as perform-kinds

-- ---- an answer is told by its number and value: the way back

refusal_back : ℕ → Refusal
refusal_back n = get_or (MemoryShape ∷ Window ∷ Offset ∷ Plane ∷ Place ∷ State ∷ Damaged ∷ Range ∷ Shift ∷ Room ∷ []) (n - 1) MemoryShape

-- the answer of a number, and what was handed back where it is 0
given_back : {A : Type 0} → ℕ → A → Result A Refusal
given_back n x = pick (eqb n 0) (Ok x) (Err (refusal_back n))

told_back : Said → Told
told_back a = by_value a.number a.value
  where
    by_value : ℕ → Value → Told
    by_value n (one x) = Byte (given_back n x)
    by_value n (two x y) = Byte (given_back n x)
    by_value n (pixel x) = Byte (given_back n x)
    by_value n (part l) = Byte (given_back n 0)
    by_value n (changes a b c d) = Changes (given_back n (record { p0 = a; p1 = b; p2 = c; p3 = d }))
    by_value n (shown d l) = Pixels d (given_back n l)

refused-back : {A : Type 0} (r : Refusal) (x : A) → given_back (refusal_number r) x ≡ Err r
unfolding given_back refusal_back
refused-back MemoryShape x = refl
refused-back Window x = refl
refused-back Offset x = refl
refused-back Plane x = refl
refused-back Place x = refl
refused-back State x = refl
refused-back Damaged x = refl
refused-back Range x = refl
refused-back Shift x = refl
refused-back Room x = refl

told-back : (t : Told) → told_back (told_said t) ≡ t
unfolding told_back given_back
told-back (Byte (Ok x)) = refl
told-back (Byte (Err r)) = ap Byte (refused-back r 0)
told-back (Pixels d (Ok l)) = refl
told-back (Pixels d (Err r)) = ap (Pixels d) (refused-back r _)
told-back (Changes (Ok x)) = refl
told-back (Changes (Err r)) = ap Changes (refused-back r _)

performed_back : Outcome MachineState → Performed
performed_back o = record { told = told_back o.answer; gc = o.next.gc; seq = o.next.seq }

performed-back : (r : Performed) (m : Memory) → performed_back (outcome (told_said r.told) (state r.gc r.seq m)) ≡ r
unfolding performed_back
performed-back r m = ap (λ (t : Told). record { told = t; gc = r.gc; seq = r.seq }) (told-back r.told)

module _ (κs : Lfts 2) (a : Dens κs perform-kinds.ps) where
  abbrev Done : Type 0
  Done = AtExit (ended_of 2 perform-kinds.ps perform-kinds.r) κs

  abbrev memory : Done → Memory
  memory e = lent e.1.1.0.now

  -- the memory, and whose slices it is
  abbrev left : Done → Memory × List GName
  left e = (memory e, slices e.1.1.0.now)

  pub perform-determined : OneOutcome (perform.Post κs a) left
  perform-determined r r' e e' p q = (
    sym (performed-back r (memory e)) ∙ ap performed_back (p.1 ∙ sym q.1) ∙ performed-back r' (memory e'),
    both (ap (λ (o : Outcome MachineState). o.next.memory) (p.1 ∙ sym q.1)) (same-slices p.0 q.0),
  )
