-- What the host's proofs cite: a call on records that are known, or not, and what a write leaves as it was.
use Prim.Native.Nat.{ℕ, zero, suc}
use mathlib.Core.Path.{◌≡◌, refl, sym, ap, ap₂, subst, ◌∙◌}
use mathlib.Core.Bool.{Bool, true, false}
use mathlib.Core.List.{List}
use Rattle.std.specs.Prelude.{Result, Ok, Err}
use Rattle.bits.specs.Bit.{pick}
use Rattle.machine_types.specs.declared.gc.GraphicsController.{GraphicsController}
use Rattle.machine_types.specs.declared.answer.Refusal.{Refusal}
use Rattle.machine_types.specs.declared.answer.Refusal.TheVariants.{State}
use Rattle.machine_types.specs.declared.gc.GraphicsRegister.{GraphicsRegister}
use Rattle.machine_types.specs.declared.gc.GraphicsRegister.TheVariants.{SetReset, EnableSetReset, ColorCompare, DataRotate, ReadMapSelect, Mode, Miscellaneous, ColorDontCare, BitMask}
use Rattle.machine_types.specs.declared.gc.ShiftMode.{ShiftMode}
use Rattle.machine_types.specs.declared.gc.WriteMode.{WriteMode}
use Rattle.machine_types.specs.declared.seq.Sequencer.{Sequencer}
use Rattle.machine.specs.Memory.{Memory, shape}
use Rattle.machine.specs.Answers.{Value, Said, said, shown, shown_said, Outcome, outcome, answered}
use Rattle.machine.specs.Graphics.{gc_of, data_of, register_number, read_mode, write_mode}
use Rattle.machine.specs.Address.{offset}
use Rattle.machine.specs.Deeds.{latches_after, memory_after, value_of, perform}
use Rattle.machine.specs.Calls.{DirectCall, GraphicsCall, CpuCall, direct_plan, gc_number_of, gc_next, gc_write_data, cpu_read, cpu_write, CpuPlan, cpu_plan, write_deed}
use Rattle.machine.specs.Calls.{counted, read_counter, write_counter, refused_counter, refusal_counter}
use Rattle.machine.specs.Step.{Device, device, lifted, cpu_after, cpu_refused, cpu_perform, direct_step, graphics_step, cpu_step}
use Rattle.answers.specs.declared.wide.Shown.{Shown}
use Rattle.answers.specs.declared.wide.Stored.{Stored}
use Rattle.answers.specs.Wide.{in_numbers, stored_of, StoredAs}
use Rattle.host_records.specs.declared.record.ControllerRecord.{ControllerRecord}
use Rattle.host_records.specs.declared.record.SequencerRecord.{SequencerRecord}
use Rattle.host_records.specs.Records.{known_gc, known_both, controller_of, controller_record_of, sequencer_of, stats_of, stats_record_of, left_by, left_to}
use Rattle.host_records.specs.Records.{with_stats, with_latches, with_count, counter_of, with_register, register_at, data_register, data_value}
use Rattle.host_records.proofs.Laws.{record_back, known-gc, left-lifted, data-stored, register-kept}
use Rattle.host_calls.specs.Hosted.{held, held_of, graphics_hosted, cpu_hosted}

-- what a record says that is meant
pub meant_of : {T : Type 0} (b : Bool) (v x : T) (r : Result T Refusal) → r ≡ pick b (Ok v) (Err State) → r ≡ Ok x → (true ≡ b) × (x ≡ v)
meant_of true v x r e f = (refl, cc)
meant_of false v x r e f = absurd cc

-- ---- calls on the sequencer's record and memory

-- a refusal leaves the memory as handed in, so what is left is the machine's
pub direct_left : (s : Sequencer) (m : Memory) (c : DirectCall) → left_to (λ (m : Memory). m) (direct_step s m c) m ≡ direct_step s m c
unfolding direct_step perform
direct_left s m c = left-lifted (λ (m : Memory). m) (direct_plan s (shape m) c).number _ _ m m refl

-- ---- calls on the controller's record

module _ (g : ControllerRecord) (v : Value) (c : GraphicsCall) where
  -- a refusal leaves the controller that the host's record means, so what is left is the machine's
  graphics-left : true ≡ known_gc g → left_to (controller_record_of g.spare) (graphics_step (controller_of g) c) g ≡ lifted (controller_record_of g.spare) (graphics_step (controller_of g) c)
  unfolding graphics_step
  graphics-left e = left-lifted (controller_record_of g.spare) (gc_number_of (controller_of g).registers c) _ _ (controller_of g) g (record_back g e)

  pub graphics-known : true ≡ known_gc g → (a : Said) (n : GraphicsController) (o : Outcome ControllerRecord) → o ≡ lifted (controller_record_of g.spare) (outcome a n)
      → outcome a n ≡ graphics_step (controller_of g) c → o ≡ graphics_hosted g v c
  unfolding graphics_hosted
  graphics-known e a n o f p = rw (← e, f) (ap (lifted (controller_record_of g.spare)) p ∙ sym (graphics-left e))

  -- of a record that is meant and only asked
  pub graphics-asked : (q : GraphicsController) (r : Result GraphicsController Refusal) → r ≡ pick (known_gc g) (Ok (controller_of g)) (Err State) → r ≡ Ok q
      → (a b : Said) → b ≡ a → outcome a q ≡ graphics_step q c → outcome b g ≡ graphics_hosted g v c
  graphics-asked q r e f a b h p =
      let m = meant_of (known_gc g) (controller_of g) q r e f in
      graphics-known m.0 a (controller_of g) (outcome b g) (ap₂ outcome h (sym (record_back g m.0))) (rw (← m.1) p)

-- ---- data go to one register

-- of an outcome as a host is left with it, what its answer's number leaves
left-of : {S T : Type 0} (f : S → T) (n : ℕ) (v : Value) (new old : S) (kept : T) (b : Said) (h : T) → outcome b h ≡ left_to f (answered n v new old) kept → h ≡ left_by b.number (f new) kept
left-of {T = T} f zero v new old kept b h p = rw (ap (λ (o : Outcome T). o.answer) p) (ap (λ (o : Outcome T). o.next) p)
left-of {T = T} f (suc n) v new old kept b h p = rw (ap (λ (o : Outcome T). o.answer) p) (ap (λ (o : Outcome T). o.next) p)

-- what a data write stores, by its answer's number
stored-by : (n : ℕ) (g : ControllerRecord) (y : ℕ) → with_register (data_register n g) (data_value n g y) g ≡ left_by n (with_register g.register_selected (data_value 0 g y) g) g
stored-by zero g y = refl
stored-by (suc n) g y = refl

-- a register of the machine's, as a host keeps it
kept-at : (x : ℕ) (n : GraphicsController) (q : GraphicsRegister) → data_of q n.registers ≡ register_at (register_number q) (controller_record_of x n)
unfolding data_of
kept-at x n SetReset = refl
kept-at x n EnableSetReset = refl
kept-at x n ColorCompare = refl
kept-at x n DataRotate = refl
kept-at x n ReadMapSelect = refl
kept-at x n Mode = refl
kept-at x n Miscellaneous = refl
kept-at x n ColorDontCare = refl
kept-at x n BitMask = refl

-- a register and its value are what a data write stores, beside its answer
abbrev Stores : ControllerRecord → Value → ℕ → Said → ℕ → ℕ → Type 0
Stores g v y b k x = (outcome b (with_register k x g) ≡ graphics_hosted g v (gc_write_data y)) × (k ≡ data_register b.number g) × (x ≡ data_value b.number g y)

module _ (g : ControllerRecord) (v : Value) (y : ℕ) (known : true ≡ known_gc g) (b : Said) (n : GraphicsController) (p : outcome b n ≡ graphics_step (controller_of g) (gc_write_data y)) where
  -- what a host is left with
  abbrev kept : ControllerRecord
  kept = controller_record_of g.spare n

  hosted-so : outcome b kept ≡ graphics_hosted g v (gc_write_data y)
  hosted-so = graphics-known g v (gc_write_data y) known b n (outcome b kept) refl p

  data-left : kept ≡ left_by b.number (with_register g.register_selected (data_value 0 g y) g) g
  unfolding graphics_hosted graphics_step gc_next
  data-left =
      left-of (controller_record_of g.spare) (gc_number_of (controller_of g).registers (gc_write_data y)) _ (gc_next (controller_of g) (gc_write_data y)) (controller_of g) g b kept (hosted-so ∙ left)
      ∙ ap (λ (k : ControllerRecord). left_by b.number k g) (data-stored g y known)
    where
      left : graphics_hosted g v (gc_write_data y) ≡ left_to (controller_record_of g.spare) (graphics_step (controller_of g) (gc_write_data y)) g
      left = rw (← known)

  stores : (k x : ℕ) → k ≡ data_register b.number g → x ≡ data_value b.number g y → Stores g v y b k x
  stores k x e f = (ap₂ (λ (k x : ℕ). outcome b (with_register k x g)) e f ∙ ap (outcome b) (stored-by b.number g y ∙ sym data-left) ∙ hosted-so, e, f)

  -- the selected register's number is as it was, and its value what the register keeps of the byte
  pub data-done : b.number ≡ 0 → let q = n.registers.register_selected in Stores g v y b (register_number q) (data_of q n.registers)
  data-done z = stores (register_number n.registers.register_selected) (data_of n.registers.register_selected n.registers) (number ∙ rw z) (value ∙ rw z)
    where
      after : kept ≡ with_register g.register_selected (data_value 0 g y) g
      after = data-left ∙ ap (λ (z : ℕ). left_by z (with_register g.register_selected (data_value 0 g y) g) g) z

      number : register_number n.registers.register_selected ≡ g.register_selected
      number = ap (λ (h : ControllerRecord). h.register_selected) after

      value : data_of n.registers.register_selected n.registers ≡ data_value 0 g y
      value = kept-at g.spare n n.registers.register_selected ∙ ap₂ register_at number after ∙ register-kept g y known

-- ---- calls on both records and memory

module _ (g : ControllerRecord) (s : SequencerRecord) (m : Memory) (v : Value) (c : CpuCall) where
  pub cpu-known : true ≡ known_both g s → (a : Said) (n : GraphicsController) (h : ControllerRecord) (m' : Memory) → h ≡ controller_record_of g.spare n
      → outcome a (device n m') ≡ cpu_step (controller_of g) (sequencer_of s) m c → outcome a (held h m') ≡ cpu_hosted g s m v c
  unfolding cpu_hosted
  cpu-known e a n h m' k p = rw (← e, k) (ap (lifted (held_of g.spare)) p)

-- the answer of a show, by value: of an older one, of one that serves every shift mode
pub shown-by : {S : Type 0} (by : Said → Shown) (a : Said) (t : S) (o : Outcome S) (r : Shown) → r ≡ by a → outcome a t ≡ o → r ≡ by o.answer
shown-by {S = S} by a t o r f p = f ∙ ap (λ (o : Outcome S). by o.answer) p

-- a show's number and pixels, handed on in numbers, are what it said
pub shown-so : {t : Said} {d d' : ShiftMode} {y : Shown} (x : Result (List ℕ) Refusal) → t ≡ said y.number (shown d y.pixels) → y ≡ in_numbers x → d ≡ d' → t ≡ shown_said d' x
shown-so (Ok l) e f g = rw (e, f, g)
shown-so (Err r) e f g = rw (e, f, g)

-- the answer of a store, by value, and what it leaves
pub stored-as : {S : Type 0} (a : Said) (t : S) (o : Outcome S) (r : Stored) → r ≡ stored_of a → outcome a t ≡ o → StoredAs r t o
stored-as {S = S} a t o r f p = (f ∙ ap (λ (o : Outcome S). stored_of o.answer) p, ap (λ (o : Outcome S). o.next) p)

-- ---- a write moves counters and memory alone

write-latches : (w : WriteMode) (g : GraphicsController) (s : Sequencer) (m : Memory) (x o v : ℕ) → latches_after (write_deed w g.registers s x o v) g.latches m ≡ g.latches
unfolding write_deed latches_after
write-latches w g s m x o v = refl

-- registers and latches as they were
abbrev Kept : GraphicsController → GraphicsController → Type 0
Kept g n = n ≡ gc_of g.registers n.stats g.latches

kept_either : (g : GraphicsController) (n : ℕ) (v : Value) (new old : Device) → Kept g new.gc → Kept g old.gc → Kept g (answered n v new old).next.gc
kept_either g zero v new old p q = p
kept_either g (suc n) v new old p q = q

plan-kept : (a : CpuPlan) (g : GraphicsController) (m : Memory) → latches_after a.ask.deed g.latches m ≡ g.latches → Kept g (cpu_perform a g m).next.gc
plan-kept a g m e =
    kept_either g a.ask.number (value_of a.ask.reply m (latches_after a.ask.deed g.latches m) (memory_after a.ask.deed g.latches m)) (cpu_after a g m) (cpu_refused a g m) (rw e) refl

write_kept : (g : GraphicsController) (s : Sequencer) (m : Memory) (x : ℕ) (page : Bool) (y : ℕ) → Kept g (cpu_step g s m (cpu_write x page y)).next.gc
unfolding cpu_step cpu_plan
write_kept g s m x page y =
    plan-kept (cpu_plan g.registers s (shape m) (cpu_write x page y)) g m (write-latches (write_mode g.registers) g s m x (offset g.registers x page) y)

-- ---- an access counts, and what it counts is what a host's record is left with

-- by the answer's number, the access's own counter or that of the refused
counts-either : (g : GraphicsController) (own n : ℕ) (v : Value) (l : List ℕ) (m' m : Memory)
    → let o = answered n v (device (gc_of g.registers (counted own g.stats) l) m') (device (gc_of g.registers (counted (refusal_counter n refused_counter) g.stats) g.latches) m) in
    o.next.gc ≡ gc_of g.registers (counted (counter_of o.answer.number own) g.stats) o.next.gc.latches
counts-either g own zero v l m' m = refl
counts-either g own (suc n) v l m' m = refl

-- an outcome that leaves a controller with one counter raised, whatever its latches
abbrev Counts : GraphicsController → ℕ → Outcome Device → Type 0
Counts g own o = o.next.gc ≡ gc_of g.registers (counted (counter_of o.answer.number own) g.stats) o.next.gc.latches

plan-counts : (a : CpuPlan) (g : GraphicsController) (m : Memory) → a.turned_away ≡ refused_counter → Counts g a.counter (cpu_perform a g m)
plan-counts a g m e = rw e (counts-either g a.counter a.ask.number _ (latches_after a.ask.deed g.latches m) (memory_after a.ask.deed g.latches m) m)

-- what a host keeps of a controller that an access left: its own record, with the latches and the count
left_back : (g : ControllerRecord) → true ≡ known_gc g → (k : ℕ) (l : List ℕ)
    → controller_record_of g.spare (gc_of (controller_of g).registers (counted k (controller_of g).stats) l) ≡ with_count k (with_latches l g)
unfolding counted
left_back g e k l = ap (λ (h : ControllerRecord). with_stats (stats_record_of (counted k (stats_of g.stats))) (with_latches l h)) (record_back g e)

module _ (g : ControllerRecord) (s : SequencerRecord) (m : Memory) (v : Value) (c : CpuCall) (own : ℕ) where
  cpu-counted : Counts (controller_of g) own (cpu_step (controller_of g) (sequencer_of s) m c) → true ≡ known_both g s → (a : Said) (n : GraphicsController) (m' : Memory)
      → outcome a (device n m') ≡ cpu_step (controller_of g) (sequencer_of s) m c
      → outcome a (held (with_count (counter_of a.number own) (with_latches n.latches g)) m') ≡ cpu_hosted g s m v c
  cpu-counted t e a n m' p =
      cpu-known g s m v c e a n _ m' (sym (ap (controller_record_of g.spare) (subst (Counts (controller_of g) own) (sym p) t) ∙ left_back g (known-gc g s e) (counter_of a.number own) n.latches)) p

module _ (g : ControllerRecord) (s : SequencerRecord) (m : Memory) (x : ℕ) (page : Bool) where
  read-counts : Counts (controller_of g) (read_counter (read_mode (controller_of g).registers)) (cpu_step (controller_of g) (sequencer_of s) m (cpu_read x page))
  unfolding cpu_step cpu_plan
  read-counts = plan-counts (cpu_plan (controller_of g).registers (sequencer_of s) (shape m) (cpu_read x page)) (controller_of g) m refl

  write-counts : (y : ℕ) → Counts (controller_of g) (write_counter (write_mode (controller_of g).registers)) (cpu_step (controller_of g) (sequencer_of s) m (cpu_write x page y))
  unfolding cpu_step cpu_plan
  write-counts y = plan-counts (cpu_plan (controller_of g).registers (sequencer_of s) (shape m) (cpu_write x page y)) (controller_of g) m refl

module _ (g : ControllerRecord) (s : SequencerRecord) (m : Memory) (v : Value) (x : ℕ) (page : Bool) (known : true ≡ known_both g s) (n : GraphicsController) (m' : Memory) (k : ℕ) where
  pub cpu-read : (a : Said) → k ≡ counter_of a.number (read_counter (read_mode (controller_of g).registers))
      → outcome a (device n m') ≡ cpu_step (controller_of g) (sequencer_of s) m (cpu_read x page)
      → outcome a (held (with_count k (with_latches n.latches g)) m') ≡ cpu_hosted g s m v (cpu_read x page)
  cpu-read a h p = rw h (cpu-counted g s m v (cpu_read x page) _ (read-counts g s m x page) known a n m' p)

  pub cpu-wrote : (y : ℕ) (a : Said) (r : Stored) → r ≡ stored_of a → k ≡ counter_of r.number (write_counter (write_mode (controller_of g).registers))
      → outcome a (device n m') ≡ cpu_step (controller_of g) (sequencer_of s) m (cpu_write x page y) → StoredAs r (held (with_count k g) m') (cpu_hosted g s m v (cpu_write x page y))
  cpu-wrote y a r f h p =
      let own = write_counter (write_mode (controller_of g).registers) in
      stored-as a (held (with_count k g) m') (cpu_hosted g s m v (cpu_write x page y)) r f
      (rw (h, f) (subst (λ (l : List ℕ). outcome a (held (with_count (counter_of a.number own) (with_latches l g)) m') ≡ cpu_hosted g s m v (cpu_write x page y)) same
      (cpu-counted g s m v (cpu_write x page y) _ (write-counts g s m x page y) known a n m' p)))
    where
      same : n.latches ≡ g.latches
      same = ap (λ (q : GraphicsController). q.latches) (subst (λ (o : Outcome Device). Kept (controller_of g) o.next.gc) (sym p) (write_kept (controller_of g) (sequencer_of s) m x page y))
