-- Any two outcomes that a function's contract permits for one input coincide. `Post` is each contract's own reading.
use Prim.Native.Nat.{ℕ}
use mathlib.Core.Path.{◌≡◌, refl, sym, ap, ap₂, ◌∙◌}
use mathlib.Core.List.{List, [], ◌∷◌}
use lib.ListN.{get_or}
use contract.Lifetimes.{Lfts}
use denote.Triple.Clauses.{AtExit}
use borrow.Fn.Kinds.{Dens, ended_of}
use base.Fml.{GName}
use Rattle.std.specs.Prelude.{Option, None, Some}
use Rattle.machine_types.specs.declared.gc.GraphicsRegister.{GraphicsRegister}
use Rattle.machine_types.specs.declared.gc.GraphicsRegister.TheVariants.{SetReset, EnableSetReset, ColorCompare, DataRotate, ReadMapSelect, Mode, Miscellaneous, ColorDontCare, BitMask}
use Rattle.machine.specs.Memory.{Memory, lent}
use Rattle.machine.specs.Answers.{Said, Outcome, outcome}
use Rattle.machine.specs.Calls.{read_counter, write_counter}
use Rattle.machine.specs.Graphics.{read_mode, write_mode}
use Rattle.machine.proofs.Injective.{answer-of, next_of}
use Rattle.answers.specs.declared.narrow.Answer.{Answer}
use Rattle.answers.specs.declared.wide.Stored.{Stored}
use Rattle.answers.proofs.Told.{answer-is}
use Rattle.host_records.specs.declared.record.ControllerRecord.{ControllerRecord}
use Rattle.host_records.specs.declared.counter.Counter.{Counter}
use Rattle.host_records.specs.Records.{counter_of, register_told, value_told, data_register, data_value, controller_of}
use Rattle.host_records.proofs.Told.{controller-answer-is, sequencer-answer-is, counter-told-apart}
use Rattle.host_calls.specs.Hosted.{Held}
use Rattle.machine_types.proofs.OneAnswer.{OneAnswer, OneOutcome}
use Rattle.machine_types.proofs.Loans.{slices, both, same-slices}
use Rattle.host_calls.proofs.reset_of.Reads as reset-of
use Rattle.host_calls.proofs.reset_of.Kinds as reset-of-kinds
use Rattle.host_calls.proofs.address_of.Reads as address-of
use Rattle.host_calls.proofs.address_of.Kinds as address-of-kinds
use Rattle.host_calls.proofs.data_of.Reads as data_of
use Rattle.host_calls.proofs.data_of.Kinds as data-of-kinds
use Rattle.host_calls.proofs.sequencer_address_of.Reads as sequencer-address-of
use Rattle.host_calls.proofs.sequencer_address_of.Kinds as sequencer-address-of-kinds
use Rattle.host_calls.proofs.sequencer_data_of.Reads as sequencer-data-of
use Rattle.host_calls.proofs.sequencer_data_of.Kinds as sequencer-data-of-kinds
use Rattle.host_calls.proofs.read_of.Reads as Read-of
use Rattle.host_calls.proofs.read_of.Kinds as read-of-kinds
use Rattle.host_calls.proofs.write_of.Reads as write-of
use Rattle.host_calls.proofs.write_of.Kinds as write-of-kinds
use Rattle.host_calls.proofs.peek_of.Reads as peek-of
use Rattle.host_calls.proofs.peek_of.Kinds as peek-of-kinds
use Rattle.host_calls.proofs.serialize_of.Reads as serialize-of
use Rattle.host_calls.proofs.serialize_of.Kinds as serialize-of-kinds
use Rattle.host_calls.proofs.show_of.Reads as show-of
use Rattle.host_calls.proofs.show_of.Kinds as show-of-kinds

-- what a call leaves of a record beside the memory
gc-of : {o : Outcome Held} {a b : Said} {d f : Held} → outcome a d ≡ o → outcome b f ≡ o → d.gc ≡ f.gc
gc-of p q = ap (λ (h : Held). h.gc) (next_of p q)

-- a number and a value tell which register is stored, or that none is
stored_back : ℕ → ℕ → Option (GraphicsRegister × ℕ)
stored_back n x = get_or
    (Some (SetReset, x) ∷ Some (EnableSetReset, x) ∷ Some (ColorCompare, x) ∷ Some (DataRotate, x) ∷ Some (ReadMapSelect, x) ∷ Some (Mode, x)
    ∷ Some (Miscellaneous, x) ∷ Some (ColorDontCare, x) ∷ Some (BitMask, x) ∷ [])
    n
    None

back : (s : Option (GraphicsRegister × ℕ)) → stored_back (register_told s) (value_told s) ≡ s
unfolding stored_back
back None = refl
back (Some (SetReset, x)) = refl
back (Some (EnableSetReset, x)) = refl
back (Some (ColorCompare, x)) = refl
back (Some (DataRotate, x)) = refl
back (Some (ReadMapSelect, x)) = refl
back (Some (Mode, x)) = refl
back (Some (Miscellaneous, x)) = refl
back (Some (ColorDontCare, x)) = refl
back (Some (BitMask, x)) = refl

stored-apart : (s t : Option (GraphicsRegister × ℕ)) → register_told s ≡ register_told t → value_told s ≡ value_told t → s ≡ t
stored-apart s t e f = sym (back s) ∙ ap₂ stored_back e f ∙ back t

-- ---- the controller's record

module _ (κs : Lfts 0) (a : Dens κs reset-of-kinds.ps) where
  pub reset-of-determined : OneAnswer (reset-of.Post κs a)
  reset-of-determined r r' e e' p q = controller-answer-is r r' p q

module _ (κs : Lfts 0) (a : Dens κs address-of-kinds.ps) where
  pub address-of-determined : OneAnswer (address-of.Post κs a)
  address-of-determined r r' e e' p q = controller-answer-is r r' p q

module _ (κs : Lfts 0) (a : Dens κs data-of-kinds.ps) where
  pub data-of-determined : OneAnswer (data_of.Post κs a)
  data-of-determined r r' e e' p q =
      let told = answer-is r.answer r'.answer (answer-of p.0 q.0) in
      let place = p.1 ∙ ap (λ (u : Answer). data_register u.number a.0) told ∙ sym q.1 in
      let value = p.2 ∙ ap (λ (u : Answer). data_value u.number a.0 a.1.0) told ∙ sym q.2 in
      ap₂ (λ (u : Answer) (s : Option (GraphicsRegister × ℕ)). record { answer = u; stored = s }) told (stored-apart r.stored r'.stored place value)

-- ---- the sequencer's record

module _ (κs : Lfts 0) (a : Dens κs sequencer-address-of-kinds.ps) where
  pub sequencer-address-of-determined : OneAnswer (sequencer-address-of.Post κs a)
  sequencer-address-of-determined r r' e e' p q = sequencer-answer-is r r' p q

module _ (κs : Lfts 0) (a : Dens κs sequencer-data-of-kinds.ps) where
  pub sequencer-data-of-determined : OneAnswer (sequencer-data-of.Post κs a)
  sequencer-data-of-determined r r' e e' p q = sequencer-answer-is r r' p q

-- ---- both records and memory

module _ (κs : Lfts 3) (a : Dens κs read-of-kinds.ps) where
  pub read-of-determined : OneAnswer (Read-of.Post κs a)
  read-of-determined r r' e e' p q =
      let told = answer-is r.answer r'.answer (answer-of p.0 q.0) in
      let counts = p.1 ∙ ap (λ (u : Answer). counter_of u.number (read_counter (read_mode (controller_of a.0).registers))) told ∙ sym q.1 in
      let latches = ap (λ (g : ControllerRecord). g.latches) (gc-of p.0 q.0) in
      ap₂ (λ (u : Answer × List ℕ) (k : Option Counter). record { answer = u.0; latches = u.1; counter = k }) (ap₂ (λ (u : Answer) (l : List ℕ). (u, l)) told latches)
      (counter-told-apart r.counter r'.counter counts)

-- what a write leaves behind its slices, and whose slices they are
abbrev left-by-write : (κs : Lfts 2) → AtExit (ended_of 2 write-of-kinds.ps write-of-kinds.r) κs → Memory × List GName
left-by-write κs e = (lent e.1.1.0.now, slices e.1.1.0.now)

module _ (κs : Lfts 2) (a : Dens κs write-of-kinds.ps) where
  pub write-of-determined : OneOutcome (write-of.Post κs a) (left-by-write κs)
  write-of-determined r r' e e' p q =
      let told = p.1.0.0 ∙ sym q.1.0.0 in
      let counts = p.1.1 ∙ ap (λ (s : Stored). counter_of s.number (write_counter (write_mode (controller_of a.0).registers))) told ∙ sym q.1.1 in
      let memory = ap (λ (h : Held). h.memory) (p.1.0.1 ∙ sym q.1.0.1) in
      (ap₂ (λ (s : Stored) (k : Option Counter). record { answer = s; counter = k }) told (counter-told-apart r.counter r'.counter counts), both memory (same-slices p.0 q.0))

module _ (κs : Lfts 3) (a : Dens κs peek-of-kinds.ps) where
  pub peek-of-determined : OneAnswer (peek-of.Post κs a)
  peek-of-determined r r' e e' p q = answer-is r r' (answer-of p q)

module _ (κs : Lfts 3) (a : Dens κs serialize-of-kinds.ps) where
  pub serialize-of-determined : OneAnswer (serialize-of.Post κs a)
  serialize-of-determined r r' e e' p q = p ∙ sym q

module _ (κs : Lfts 3) (a : Dens κs show-of-kinds.ps) where
  pub show-of-determined : OneAnswer (show-of.Post κs a)
  show-of-determined r r' e e' p q = p ∙ sym q
