-- What the records' proofs cite: registers by number and back, what a record means and back, what a number leaves.
use Prim.Native.Nat.{ℕ, zero, suc, ◌≤◌}
use native.Mathlib.Omega.{arith}
use mathlib.Core.Path.{◌≡◌, refl, sym, ap₂, ◌∙◌}
use mathlib.Core.Bool.{Bool, true, false, not}
use lib.Dec.{eqb, leb}
use borrow.Author.Tests.{leb-true, ne_eqb}
use Rattle.bits.specs.Bit.{bit_of}
use Rattle.machine_types.specs.declared.answer.Refusal.{Refusal}
use Rattle.machine_types.specs.declared.answer.Refusal.TheVariants.{Memory, Window, Offset, Plane, Place, State, Damaged, Range, Shift, Room}
use Rattle.machine_types.specs.declared.gc.GraphicsController.{GraphicsController}
use Rattle.machine_types.specs.declared.gc.GraphicsRegister.{GraphicsRegister}
use Rattle.machine_types.specs.declared.gc.GraphicsRegister.TheVariants.{SetReset, EnableSetReset, ColorCompare, DataRotate, ReadMapSelect, Mode, Miscellaneous, ColorDontCare, BitMask}
use Rattle.machine_types.specs.declared.seq.Sequencer.{Sequencer}
use Rattle.machine_types.specs.declared.seq.SequencerRegister.{SequencerRegister}
use Rattle.machine_types.specs.declared.seq.SequencerRegister.TheVariants.{Reset, ClockingMode, MapMask, CharacterMapSelect, MemoryMode, Invalid}
use Rattle.machine.specs.Answers.{refusal_number, Value, answered}
use Rattle.machine.specs.Graphics.{selects, register_number, keeps, with_data, gc_of}
use Rattle.machine.specs.Sequencer.{selects_seq, seq_number}
use Rattle.machine.specs.Step.{lifted}
use Rattle.machine.proofs.Laws.{both}
use Rattle.host_records.specs.declared.record.ControllerRecord.{ControllerRecord}
use Rattle.host_records.specs.declared.record.SequencerRecord.{SequencerRecord}
use Rattle.host_records.specs.Records.{known_gc, known_seq, known_both, is_set, controller_of, controller_record_of, sequencer_of, sequencer_record_of, left_by, left_to}
use Rattle.host_records.specs.Records.{with_register, register_at}

-- ---- flags

-- a flag by the code's test of it
pub set_by_test : (n : ℕ) → not (eqb n 0) ≡ is_set n
unfolding is_set
set_by_test zero = refl
set_by_test (suc n) = rw (ne_eqb (suc n) 0 (λ (e : suc n ≡ 0). omega (arith, e)))

-- ---- registers by number

-- a register's number, read as a register, is its number again
number-back : (n : ℕ) → n ≤ 8 → register_number (selects n BitMask) ≡ n
unfolding selects
number-back zero h = refl
number-back (suc zero) h = refl
number-back (suc (suc zero)) h = refl
number-back (suc (suc (suc zero))) h = refl
number-back (suc (suc (suc (suc zero)))) h = refl
number-back (suc (suc (suc (suc (suc zero))))) h = refl
number-back (suc (suc (suc (suc (suc (suc zero)))))) h = refl
number-back (suc (suc (suc (suc (suc (suc (suc zero))))))) h = refl
number-back (suc (suc (suc (suc (suc (suc (suc (suc zero)))))))) h = refl
number-back (suc (suc (suc (suc (suc (suc (suc (suc (suc n))))))))) h = absurd (omega arith)

-- a record of known number is kept as it is
pub record_back : (g : ControllerRecord) → true ≡ known_gc g → controller_record_of g.spare (controller_of g) ≡ g
record_back g e = rw (number-back g.register_selected (leb-true _ _ (sym e)))

pub known-gc : (g : ControllerRecord) (s : SequencerRecord) → true ≡ known_both g s → true ≡ known_gc g
known-gc g s e = sym (both (known_gc g) (known_seq s) (sym e)).0

pub known-seq : (g : ControllerRecord) (s : SequencerRecord) → true ≡ known_both g s → true ≡ known_seq s
known-seq g s e = sym (both (known_gc g) (known_seq s) (sym e)).1

-- ---- what a record of the machine's means, as a host keeps it

register-meant : (q : GraphicsRegister) → selects (register_number q) BitMask ≡ q
unfolding selects
register-meant SetReset = refl
register-meant EnableSetReset = refl
register-meant ColorCompare = refl
register-meant DataRotate = refl
register-meant ReadMapSelect = refl
register-meant Mode = refl
register-meant Miscellaneous = refl
register-meant ColorDontCare = refl
register-meant BitMask = refl

seq-register-meant : (q : SequencerRegister) → selects_seq (seq_number q) ≡ q
unfolding selects_seq
seq-register-meant Reset = refl
seq-register-meant ClockingMode = refl
seq-register-meant MapMask = refl
seq-register-meant CharacterMapSelect = refl
seq-register-meant MemoryMode = refl
seq-register-meant Invalid = refl

mark-meant : (b : Bool) → is_set (bit_of b) ≡ b
unfolding is_set
mark-meant true = refl
mark-meant false = refl

-- it means the machine's record again
pub controller-meant : (x : ℕ) (g : GraphicsController) → controller_of (controller_record_of x g) ≡ g
controller-meant x g = rw (register-meant g.registers.register_selected)

pub sequencer-meant : (s : Sequencer) → sequencer_of (sequencer_record_of s) ≡ s
sequencer-meant s = rw (seq-register-meant s.register_selected, mark-meant s.clock_change_pending)

-- its selected register is known
pub controller-known : (x : ℕ) (g : GraphicsController) → true ≡ known_gc (controller_record_of x g)
controller-known x g = go g.registers.register_selected
  where
    go : (q : GraphicsRegister) → true ≡ leb (register_number q) 8
    go SetReset = refl
    go EnableSetReset = refl
    go ColorCompare = refl
    go DataRotate = refl
    go ReadMapSelect = refl
    go Mode = refl
    go Miscellaneous = refl
    go ColorDontCare = refl
    go BitMask = refl

pub sequencer-known : (s : Sequencer) → true ≡ known_seq (sequencer_record_of s)
sequencer-known s = go s.register_selected
  where
    go : (q : SequencerRegister) → true ≡ leb (seq_number q) 5
    go Reset = refl
    go ClockingMode = refl
    go MapMask = refl
    go CharacterMapSelect = refl
    go MemoryMode = refl
    go Invalid = refl

-- ---- what a number leaves

pub left-refused : {T : Type 0} (r : Refusal) (new old : T) → left_by (refusal_number r) new old ≡ old
left-refused Memory new old = refl
left-refused Window new old = refl
left-refused Offset new old = refl
left-refused Plane new old = refl
left-refused Place new old = refl
left-refused State new old = refl
left-refused Damaged new old = refl
left-refused Range new old = refl
left-refused Shift new old = refl
left-refused Room new old = refl

-- of two that are the same either
pub left-same : {T : Type 0} (n : ℕ) (x : T) → left_by n x x ≡ x
left-same zero x = refl
left-same (suc n) x = refl

-- where the machine's refusal leaves what the host handed in, what is left is the machine's, refused or not
pub left-lifted : {S T : Type 0} (f : S → T) (n : ℕ) (v : Value) (new old : S) (kept : T) → f old ≡ kept → left_to f (answered n v new old) kept ≡ lifted f (answered n v new old)
left-lifted f zero v new old kept e = refl
left-lifted f (suc n) v new old kept e = rw (← e)

-- ---- which register is stored

-- the register of a number is the value that was stored there
register-stored : (n v : ℕ) → n ≤ 8 → (g : ControllerRecord) → register_at n (with_register n v g) ≡ v
register-stored zero v h g = refl
register-stored (suc zero) v h g = refl
register-stored (suc (suc zero)) v h g = refl
register-stored (suc (suc (suc zero))) v h g = refl
register-stored (suc (suc (suc (suc zero)))) v h g = refl
register-stored (suc (suc (suc (suc (suc zero))))) v h g = refl
register-stored (suc (suc (suc (suc (suc (suc zero)))))) v h g = refl
register-stored (suc (suc (suc (suc (suc (suc (suc zero))))))) v h g = refl
register-stored (suc (suc (suc (suc (suc (suc (suc (suc zero)))))))) v h g = refl
register-stored (suc (suc (suc (suc (suc (suc (suc (suc (suc n))))))))) v h g = absurd (omega arith)

-- data change the selected register alone, as a host keeps the controller
data-kept : (x y : ℕ) (n : GraphicsController) (q : GraphicsRegister) → n.registers.register_selected ≡ q
    → controller_record_of x (gc_of (with_data y n.registers) n.stats n.latches) ≡ with_register (register_number q) (keeps q y) (controller_record_of x n)
unfolding with_data
data-kept x y n SetReset e = rw e
data-kept x y n EnableSetReset e = rw e
data-kept x y n ColorCompare e = rw e
data-kept x y n DataRotate e = rw e
data-kept x y n ReadMapSelect e = rw e
data-kept x y n Mode e = rw e
data-kept x y n Miscellaneous e = rw e
data-kept x y n ColorDontCare e = rw e
data-kept x y n BitMask e = rw e

module _ (g : ControllerRecord) (y : ℕ) (e : true ≡ known_gc g) where
  -- what the selected register keeps of a byte
  abbrev kept : ℕ
  kept = keeps (controller_of g).registers.register_selected y

  pub data-stored : controller_record_of g.spare (gc_of (with_data y (controller_of g).registers) (controller_of g).stats (controller_of g).latches) ≡ with_register g.register_selected kept g
  data-stored =
      data-kept g.spare y (controller_of g) (controller_of g).registers.register_selected refl
      ∙ ap₂ (λ (n : ℕ) (h : ControllerRecord). with_register n kept h) (number-back g.register_selected (leb-true _ _ (sym e))) (record_back g e)

  pub register-kept : register_at g.register_selected (with_register g.register_selected kept g) ≡ kept
  register-kept = register-stored g.register_selected kept (leb-true _ _ (sym e)) g
