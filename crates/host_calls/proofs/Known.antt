-- What the library leaves in a host's records is known: the starts are, and every call that is handed known records leaves known ones. A host that keeps to them is
-- answered what the machine answers, call after call, and from the starts never 6.
use Prim.Native.Nat.{ℕ, zero, suc}
use mathlib.Core.Logic.{◌≢◌}
use mathlib.Core.Path.{◌≡◌, refl, ap, ap₂, ◌∙◌, subst}
use mathlib.Core.Bool.{Bool, true, ◌&&◌}
use mathlib.Core.List.{List, [], ◌∷◌, Memᴰ}
use Rattle.machine_types.specs.declared.gc.GraphicsController.{GraphicsController}
use Rattle.machine_types.specs.declared.seq.Sequencer.{Sequencer}
use Rattle.machine_types.specs.Start.{fresh_gc, fresh_seq}
use Rattle.machine.specs.Memory.{Memory, shape}
use Rattle.machine.specs.Answers.{Value, Said, Outcome, outcome, answered}
use Rattle.machine.specs.Deeds.{perform}
use Rattle.machine.specs.Calls.{SequencerCall, seq_reset, seq_clock, seq_set_clock_change_pending, seq_poll_clock_change, seq_read_address, seq_read_data, seq_write_address, seq_write_data}
use Rattle.machine.specs.Calls.{seq_number_of, seq_value, seq_next, DirectCall, direct_plan, GraphicsCall, gc_reset, gc_number_of, gc_value, gc_next, CpuCall}
use Rattle.machine.specs.Step.{Device, device, lifted, sequencer_step, direct_step, graphics_step, cpu_step}
use Rattle.machine.specs.Step.{State, state, Call, vram, sequencer, direct, graphics, cpu, with_seq, with_gc, with_memory, with_device, step, run}
use Rattle.machine.proofs.Records.{never-6}
use Rattle.host_records.specs.declared.record.ControllerRecord.{ControllerRecord}
use Rattle.host_records.specs.declared.record.SequencerRecord.{SequencerRecord}
use Rattle.host_records.specs.Records.{known_gc, known_seq, known_both, controller_of, controller_record_of, sequencer_of, sequencer_record_of, left_by, left_to}
use Rattle.host_records.proofs.Laws.{known-gc, known-seq, controller-known, sequencer-known, controller-meant, sequencer-meant}
use Rattle.host_calls.specs.Hosted.{Held, sequencer_hosted, direct_hosted, graphics_hosted, cpu_hosted, Host, host, meant_by, sequencer_kept, host_step, host_answers}

-- both are known
abbrev pub Known : Host → Type 0
Known h = true ≡ known_both h.gc h.seq

both-known : {a b : Bool} → true ≡ a → true ≡ b → true ≡ (a && b)
both-known p q = ap₂ ◌&&◌ p q

-- what a number leaves has what both have
left-either : {T : Type 0} (P : T → Type 0) (n : ℕ) (new old : T) → P new → P old → P (left_by n new old)
left-either P zero new old p q = p
left-either P (suc n) new old p q = q

-- what is left of an outcome means the machine's, where each of the two that it may be does
left-meant : {S T : Type 0} (f : S → T) (g : T → S) → ((x : S) → g (f x) ≡ x) → (n : ℕ) (v : Value) (new old : S) (kept : T) → g kept ≡ old
    → lifted g (left_to f (answered n v new old) kept) ≡ answered n v new old
left-meant f g back zero v new old kept e = rw (back new)
left-meant f g back (suc n) v new old kept e = rw e

answered-same : {S : Type 0} (n : ℕ) (v : Value) (x : S) → outcome (answered n v x x).answer x ≡ answered n v x x
answered-same zero v x = refl
answered-same (suc n) v x = refl

-- ---- what each call leaves is known

module _ (v : Value) where
  sequencer-stays : (s : SequencerRecord) (c : SequencerCall) → true ≡ known_seq s → true ≡ known_seq (sequencer_hosted s v c).next
  unfolding sequencer_hosted
  sequencer-stays s c e =
      let o : Outcome Sequencer = sequencer_step (sequencer_of s) c in
      rw (← e) (left-either (λ (t : SequencerRecord). true ≡ known_seq t) o.answer.number (sequencer_record_of o.next) s (sequencer-known o.next) e)

  graphics-stays : (g : ControllerRecord) (c : GraphicsCall) → true ≡ known_gc g → true ≡ known_gc (graphics_hosted g v c).next
  unfolding graphics_hosted
  graphics-stays g c e =
      let o : Outcome GraphicsController = graphics_step (controller_of g) c in
      rw (← e) (left-either (λ (t : ControllerRecord). true ≡ known_gc t) o.answer.number (controller_record_of g.spare o.next) g (controller-known g.spare o.next) e)

  cpu-stays : (g : ControllerRecord) (s : SequencerRecord) (m : Memory) (c : CpuCall) → true ≡ known_both g s → true ≡ known_gc (cpu_hosted g s m v c).next.gc
  unfolding cpu_hosted
  cpu-stays g s m c e =
      let o : Outcome Device = cpu_step (controller_of g) (sequencer_of s) m c in
      rw (← e) (controller-known g.spare o.next.gc)

  kept-known : (c : SequencerCall) (s t : SequencerRecord) → true ≡ known_seq s → true ≡ known_seq t → true ≡ known_seq (sequencer_kept c s t)
  kept-known seq_reset s t p q = q
  kept-known seq_clock s t p q = p
  kept-known seq_set_clock_change_pending s t p q = q
  kept-known seq_poll_clock_change s t p q = q
  kept-known seq_read_address s t p q = p
  kept-known seq_read_data s t p q = p
  kept-known (seq_write_address x) s t p q = q
  kept-known (seq_write_data x) s t p q = q

  -- every call that is handed known records leaves known ones
  pub known-stays : (h : Host) (c : Call) → Known h → Known (host_step v h c).next
  unfolding host_step
  known-stays h (vram c) e = e
  known-stays h (sequencer c) e =
      let q : true ≡ known_seq h.seq = known-seq h.gc h.seq e in
      both-known (known-gc h.gc h.seq e) (kept-known c h.seq (sequencer_hosted h.seq v c).next q (sequencer-stays h.seq c q))
  known-stays h (direct c) e = e
  known-stays h (graphics c) e = both-known (graphics-stays h.gc c (known-gc h.gc h.seq e)) (known-seq h.gc h.seq e)
  known-stays h (cpu c) e = both-known (cpu-stays h.gc h.seq h.memory c e) (known-seq h.gc h.seq e)

-- the starts are known, whatever the host's own byte is
pub known_start : (x : ℕ) (m : Memory) → Known (host (controller_record_of x fresh_gc) (sequencer_record_of fresh_seq) m)
known_start x m = refl

-- a reset takes any record and leaves a known one; of a known one it is the call of the machine's table
pub reset-known : (g : ControllerRecord) → true ≡ known_gc (controller_record_of g.spare (graphics_step (controller_of g) gc_reset).next)
reset-known g = controller-known g.spare (graphics_step (controller_of g) gc_reset).next

pub reset-hosted : (g : ControllerRecord) (v : Value) → true ≡ known_gc g → lifted (controller_record_of g.spare) (graphics_step (controller_of g) gc_reset) ≡ graphics_hosted g v gc_reset
unfolding graphics_hosted graphics_step gc_number_of
reset-hosted g v e = rw (← e)

pub seq-reset-known : (s : SequencerRecord) → true ≡ known_seq (sequencer_record_of (sequencer_step (sequencer_of s) seq_reset).next)
seq-reset-known s = sequencer-known (sequencer_step (sequencer_of s) seq_reset).next

pub seq-reset-hosted : (s : SequencerRecord) (v : Value) → true ≡ known_seq s → lifted sequencer_record_of (sequencer_step (sequencer_of s) seq_reset) ≡ sequencer_hosted s v seq_reset
unfolding sequencer_hosted sequencer_step seq_number_of
seq-reset-hosted s v e = rw (← e)

-- ---- what a host is answered is what the machine answers, and what it keeps means the machine's state

module _ (v : Value) where
  -- a call that hands the record back
  sequencer-moved : (s : SequencerRecord) (c : SequencerCall) → true ≡ known_seq s → lifted sequencer_of (sequencer_hosted s v c) ≡ sequencer_step (sequencer_of s) c
  unfolding sequencer_hosted sequencer_step
  sequencer-moved s c e =
      rw (← e) (left-meant sequencer_record_of sequencer_of sequencer-meant (seq_number_of (sequencer_of s) c) (seq_value (sequencer_of s) c) (seq_next (sequencer_of s) c) (sequencer_of s) s refl)

  -- a call that only asks
  sequencer-asked : (s : SequencerRecord) (c : SequencerCall) → true ≡ known_seq s → seq_next (sequencer_of s) c ≡ sequencer_of s
      → lifted (λ (t : SequencerRecord). sequencer_of s) (sequencer_hosted s v c) ≡ sequencer_step (sequencer_of s) c
  unfolding sequencer_hosted sequencer_step
  sequencer-asked s c e f = rw (← e, f) (answered-same (seq_number_of (sequencer_of s) c) (seq_value (sequencer_of s) c) (sequencer_of s))

  sequencer-meant-next : (s : SequencerRecord) (c : SequencerCall) → true ≡ known_seq s
      → lifted (λ (t : SequencerRecord). sequencer_of (sequencer_kept c s t)) (sequencer_hosted s v c) ≡ sequencer_step (sequencer_of s) c
  unfolding seq_next
  sequencer-meant-next s seq_reset e = sequencer-moved s seq_reset e
  sequencer-meant-next s seq_clock e = sequencer-asked s seq_clock e refl
  sequencer-meant-next s seq_set_clock_change_pending e = sequencer-moved s seq_set_clock_change_pending e
  sequencer-meant-next s seq_poll_clock_change e = sequencer-moved s seq_poll_clock_change e
  sequencer-meant-next s seq_read_address e = sequencer-asked s seq_read_address e refl
  sequencer-meant-next s seq_read_data e = sequencer-asked s seq_read_data e refl
  sequencer-meant-next s (seq_write_address x) e = sequencer-moved s (seq_write_address x) e
  sequencer-meant-next s (seq_write_data x) e = sequencer-moved s (seq_write_data x) e

  graphics-meant-next : (g : ControllerRecord) (c : GraphicsCall) → true ≡ known_gc g → lifted controller_of (graphics_hosted g v c) ≡ graphics_step (controller_of g) c
  unfolding graphics_hosted graphics_step
  graphics-meant-next g c e =
      rw (← e) (left-meant (controller_record_of g.spare) controller_of (controller-meant g.spare)
      (gc_number_of (controller_of g).registers c) (gc_value (controller_of g).registers c) (gc_next (controller_of g) c) (controller_of g) g refl)

  -- the machine's device of what a host holds
  abbrev device_of : Held → Device
  device_of d = device (controller_of d.gc) d.memory

  cpu-meant-next : (g : ControllerRecord) (s : SequencerRecord) (m : Memory) (c : CpuCall) → true ≡ known_both g s
      → lifted device_of (cpu_hosted g s m v c) ≡ cpu_step (controller_of g) (sequencer_of s) m c
  unfolding cpu_hosted
  cpu-meant-next g s m c e =
      let o : Outcome Device = cpu_step (controller_of g) (sequencer_of s) m c in
      rw (← e) (ap (λ (q : GraphicsController). outcome o.answer (device q o.next.memory)) (controller-meant g.spare o.next.gc))

  direct-meant-next : (s : SequencerRecord) (m : Memory) (c : DirectCall) → true ≡ known_seq s → direct_hosted s m v c ≡ direct_step (sequencer_of s) m c
  unfolding direct_hosted direct_step perform
  direct-meant-next s m c e = rw (← e) (left-meant (λ (m : Memory). m) (λ (m : Memory). m) (λ (m : Memory). refl) (direct_plan (sequencer_of s) (shape m) c).number _ _ m m refl)

  known-meant : (h : Host) (c : Call) → Known h → lifted meant_by (host_step v h c) ≡ step (meant_by h) c
  unfolding host_step step
  known-meant h (vram c) e = refl
  known-meant h (sequencer c) e = ap (lifted (with_seq (meant_by h))) (sequencer-meant-next h.seq c (known-seq h.gc h.seq e))
  known-meant h (direct c) e = ap (lifted (with_memory (meant_by h))) (direct-meant-next h.seq h.memory c (known-seq h.gc h.seq e))
  known-meant h (graphics c) e = ap (lifted (with_gc (meant_by h))) (graphics-meant-next h.gc c (known-gc h.gc h.seq e))
  known-meant h (cpu c) e = ap (lifted (with_device (meant_by h))) (cpu-meant-next h.gc h.seq h.memory c e)

  -- call after call: a 6 is one of the machine's own
  pub known-runs : (h : Host) (cs : List Call) → Known h → host_answers v h cs ≡ (run (meant_by h) cs).answers
  unfolding host_answers run
  known-runs h [] e = refl
  known-runs h (c ∷ cs) e =
      let o : lifted meant_by (host_step v h c) ≡ step (meant_by h) c = known-meant h c e in
      ap₂ ◌∷◌ (ap (λ (o : Outcome State). o.answer) o)
      (known-runs (host_step v h c).next cs (known-stays v h c e) ∙ ap (λ (o : Outcome State). (run o.next cs).answers) o)

  -- from the starts
  pub started-runs : (x : ℕ) (m : Memory) (cs : List Call)
      → host_answers v (host (controller_record_of x fresh_gc) (sequencer_record_of fresh_seq) m) cs ≡ (run (state fresh_gc fresh_seq m) cs).answers
  started-runs x m cs = known-runs (host (controller_record_of x fresh_gc) (sequencer_record_of fresh_seq) m) cs (known_start x m)
      ∙ ap₂ (λ (g : GraphicsController) (s : Sequencer). (run (state g s m) cs).answers) (controller-meant x fresh_gc) (sequencer-meant fresh_seq)

  -- and so never 6, whatever the memory and the host's own byte are
  pub host-never-6 : (x : ℕ) (m : Memory) (cs : List Call) (a : Said) → Memᴰ a (host_answers v (host (controller_record_of x fresh_gc) (sequencer_record_of fresh_seq) m) cs) → a.number ≢ 6
  host-never-6 x m cs a h = never-6 m cs a (subst (Memᴰ a) (started-runs x m cs) h)
