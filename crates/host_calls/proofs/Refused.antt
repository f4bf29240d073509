-- `host-refused`: what a refused access leaves of what a host holds, byte for byte. The record and the memory as handed in; where a read or a write is answered 2 or 3,
-- one more in the record's last counter.
use Prim.Native.Nat.{ℕ, suc}
use native.Mathlib.Omega.{arith}
use mathlib.Core.Logic.{◌≢◌}
use mathlib.Core.Path.{◌≡◌, refl, sym, ap, ◌∙◌}
use mathlib.Core.Bool.{Bool, true, false}
use Rattle.bits.specs.Bit.{pick}
use Rattle.machine.specs.Memory.{Memory}
use Rattle.machine.specs.Answers.{Value}
use Rattle.machine.specs.Calls.{CpuCall, cpu_read, cpu_peek, cpu_write, serialize, show_pixels}
use Rattle.machine.specs.Step.{lifted, cpu_step, State, cpu, with_gc, step}
use Rattle.machine.specs.Claims.{turns_away, one_more_refused, after_refusal}
use Rattle.machine.proofs.Refusals.{refused-stays}
use Rattle.host_records.specs.declared.record.ControllerRecord.{ControllerRecord}
use Rattle.host_records.specs.declared.record.SequencerRecord.{SequencerRecord}
use Rattle.host_records.specs.Records.{known_gc, known_both, controller_of, controller_record_of, sequencer_of}
use Rattle.host_records.proofs.Laws.{record_back, known-gc}
use Rattle.host_calls.specs.Hosted.{Held, held, held_of, with_one_more_refused, hosted, cpu_hosted, host, meant_by}

-- what is left of a record and a memory, by whether the refusal is counted
abbrev left_if : Bool → ControllerRecord → Memory → Held
left_if t g m = held (pick t (with_one_more_refused g) g) m

-- 6 is counted by no call
six-stays : (c : CpuCall) (g : ControllerRecord) (m : Memory) → held g m ≡ left_if (turns_away c 6) g m
six-stays (cpu_read x page) g m = refl
six-stays (cpu_peek x page) g m = refl
six-stays (cpu_write x page v) g m = refl
six-stays (serialize o) g m = refl
six-stays (show_pixels o) g m = refl

module _ (g : ControllerRecord) (s : SequencerRecord) (m : Memory) where
  -- the machine's state that is left, as a host keeps it
  kept-as : true ≡ known_gc g → (t : Bool) → let a = meant_by (host g s m) in let b : State = pick t (with_gc a (one_more_refused a.gc)) a in
      held (controller_record_of g.spare b.gc) b.memory ≡ left_if t g m
  kept-as e true = ap (λ (h : ControllerRecord). held (with_one_more_refused h) m) (record_back g e)
  kept-as e false = ap (λ (h : ControllerRecord). held h m) (record_back g e)

  known-left : true ≡ known_both g s → (c : CpuCall) → let o = cpu_step (controller_of g) (sequencer_of s) m c in
      o.answer.number ≢ 0 → held_of g.spare o.next ≡ left_if (turns_away c o.answer.number) g m
  unfolding step after_refusal
  known-left e c ne =
      ap (λ (b : State). held (controller_record_of g.spare b.gc) b.memory) (refused-stays (meant_by (host g s m)) (cpu c) ne).next
      ∙ kept-as (known-gc g s e) (turns_away c (cpu_step (controller_of g) (sequencer_of s) m c).answer.number)

  by-known : (b : Bool) → b ≡ known_both g s → (v : Value) (c : CpuCall)
      → let o = hosted b (lifted (held_of g.spare) (cpu_step (controller_of g) (sequencer_of s) m c)) v (held g m) in
      o.answer.number ≢ 0 → o.next ≡ left_if (turns_away c o.answer.number) g m
  by-known true e v c ne = known-left e c ne
  by-known false e v c ne = six-stays c g m

  pub host-refused : (v : Value) (c : CpuCall) → (cpu_hosted g s m v c).answer.number ≢ 0
      → (cpu_hosted g s m v c).next ≡ held (pick (turns_away c (cpu_hosted g s m v c).answer.number) (with_one_more_refused g) g) m
  unfolding cpu_hosted
  host-refused v c = by-known (known_both g s) refl v c

  -- ---- spelt out, by the answer's number: what is counted, and what is not

  left_by : (v : Value) (c : CpuCall) (n : ℕ) → (cpu_hosted g s m v c).answer.number ≡ suc n → (cpu_hosted g s m v c).next ≡ left_if (turns_away c (suc n)) g m
  left_by v c n e =
      host-refused v c (λ z. let y : ◌≡◌ {A = ℕ} 0 (suc n) = sym z ∙ e in omega arith)
      ∙ ap (λ (k : ℕ). left_if (turns_away c k) g m) e

  module _ (v : Value) (x : ℕ) (page : Bool) (b : ℕ) where
    read-outside : (cpu_hosted g s m v (cpu_read x page)).answer.number ≡ 2 → (cpu_hosted g s m v (cpu_read x page)).next ≡ held (with_one_more_refused g) m
    read-outside = left_by v (cpu_read x page) 1

    write-past : (cpu_hosted g s m v (cpu_write x page b)).answer.number ≡ 3 → (cpu_hosted g s m v (cpu_write x page b)).next ≡ held (with_one_more_refused g) m
    write-past = left_by v (cpu_write x page b) 2

    read-of-unknown : (cpu_hosted g s m v (cpu_read x page)).answer.number ≡ 6 → (cpu_hosted g s m v (cpu_read x page)).next ≡ held g m
    read-of-unknown = left_by v (cpu_read x page) 5

    write-to-bad-memory : (cpu_hosted g s m v (cpu_write x page b)).answer.number ≡ 1 → (cpu_hosted g s m v (cpu_write x page b)).next ≡ held g m
    write-to-bad-memory = left_by v (cpu_write x page b) 0

    peek-refused : (n : ℕ) → (cpu_hosted g s m v (cpu_peek x page)).answer.number ≡ suc n → (cpu_hosted g s m v (cpu_peek x page)).next ≡ held g m
    peek-refused n = left_by v (cpu_peek x page) n

    show-refused : (n : ℕ) → (cpu_hosted g s m v (serialize x)).answer.number ≡ suc n → (cpu_hosted g s m v (serialize x)).next ≡ held g m
    show-refused n = left_by v (serialize x) n

    pixels-refused : (n : ℕ) → (cpu_hosted g s m v (show_pixels x)).answer.number ≡ suc n → (cpu_hosted g s m v (show_pixels x)).next ≡ held g m
    pixels-refused n = left_by v (show_pixels x) n
