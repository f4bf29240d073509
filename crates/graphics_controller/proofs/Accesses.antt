-- An access from its judge to its outcome: what a located address says, refusals 6, 1, 2, 3 in their turn, and a plan carried out on both records and memory.
use Prim.Native.Nat.{ℕ, zero, suc, ◌+◌, ◌*◌, ◌/◌, ◌%◌, ◌≤◌, ◌<◌}
use native.Mathlib.Omega.{arith}
use mathlib.Core.Path.{◌≡◌, refl, sym, ap, ◌∙◌}
use mathlib.Core.Bool.{Bool, true, false}
use mathlib.Core.List.{List, []}
use Rattle.std.specs.Prelude.{Result, Ok, Err}
use lib.ListN.{length, take, drop}
use borrow.Author.Tests.{ltb-true}
use Rattle.bits.specs.Bit.{bit_of, pick}
use Rattle.machine_types.specs.declared.answer.Refusal.{Refusal}
use Rattle.machine_types.specs.declared.place.PlaneOffset.{PlaneOffset}
use Rattle.machine_types.specs.declared.gc.WriteMode.{WriteMode}
use Rattle.machine_types.specs.declared.gc.GraphicsRegisters.{GraphicsRegisters}
use Rattle.machine_types.specs.declared.gc.GraphicsController.{GraphicsController}
use Rattle.machine_types.specs.declared.gc.ReadMode.{ReadMode}
use Rattle.machine_types.specs.declared.gc.ReadMode.TheVariants.{ReadSelectedPlane, ReadComparedPlanes}
use Rattle.machine_types.specs.declared.seq.Sequencer.{Sequencer}
use Rattle.machine_types.specs.declared.shape.Shape.{Shape}
use Rattle.machine.specs.Memory.{Memory, shape, sound, Shaped}
use Rattle.machine.specs.Answers.{refusal_number, Value, one, two, part, changes, changes_of, shown, no_pixels, blank, Said, said, said_by, done_said, Outcome, outcome, answered, mapped_said}
use Rattle.machine.specs.Graphics.{fits_gc, odd_even, is_odd_even, read_mode, write_mode, shift_mode, gc_of}
use Rattle.machine.specs.Sequencer.{fits_seq, chain_four, stored_at, answers_from}
use Rattle.machine.specs.Address.{a0, offset}
use Rattle.machine.specs.DataPath.{map_selected, selected_plane, peeked_plane}
use Rattle.machine.specs.Deeds.{byte, latch, loaded, changed_at, shown_in, latches_after, memory_after, value_of}
use Rattle.machine.specs.Calls.{fits_both, access_number, shows, show_number, last_shown, pixels_number, read_reply}
use Rattle.machine.specs.Calls.{write_deed, cpu_plan, cpu_read, cpu_peek, cpu_write, serialize, show_pixels}
use Rattle.machine.specs.Calls.{CpuPlan, read_counter, write_counter, refused_counter, no_counter, refusal_counter, counted}
use Rattle.machine.specs.Step.{device, lifted, cpu_refused, cpu_perform, cpu_step}
use Rattle.machine.proofs.Laws.{both, refuse-0, sound-facts, AtOffset, access-accepted, answered-refused, refusal-some, none-raised}
use Rattle.refusals_records.proofs.Held.{map_select_fits}
use Rattle.graphics_controller.specs.Reads.{read_byte}

-- ---- what the judge of an access answers

bit-one : (a b : Bool) → bit_of a ≡ bit_of b → a ≡ b
bit-one true true e = refl
bit-one true false e = absurd (omega arith)
bit-one false true e = absurd (omega arith)
bit-one false false e = refl

-- an offset and a0 were answered: nothing was refused, they are the machine's, and the offset is within the planes
pub record Located (r : GraphicsRegisters) (s : Sequencer) (m : Memory) (x : ℕ) (page : Bool) (o : ℕ) (b : Bool) : Type 0 where
  pub accepted : 0 ≡ access_number r s (shape m) x page
  pub offset : o ≡ offset r x page
  pub bit0 : b ≡ a0 x
  pub map-select : r.read_map_select ≤ 3
  pub fits-seq : fits_seq s ≡ true
  pub shaped : Shaped m
  pub within : o < length m.p0

-- from what the judge says of the memory's lengths, in the machine's words
module _ (r : GraphicsRegisters) (s : Sequencer) (m : Memory) (x : ℕ) (page : Bool) {h : Shape} {d : Result (PlaneOffset × Bool) Refusal} (long : h ≡ shape m)
    (j : outcome (mapped_said d) x ≡ answered (access_number r s h x page) (two (offset r x page) (bit_of (a0 x))) x x) where
  told : {d' : Result (PlaneOffset × Bool) Refusal} → d ≡ d' → outcome (mapped_said d') x ≡ answered (access_number r s (shape m) x page) (two (offset r x page) (bit_of (a0 x))) x x
  told is = rw is at (rw long at j)

  pub located : (p : PlaneOffset) (b : Bool) → d ≡ Ok (p, b) → Located r s m x page p.0 b
  unfolding access_number
  located p b is = go _ refl (told is)
    where
      go : (n : ℕ) → access_number r s (shape m) x page ≡ n → outcome (said 0 (two p.0 (bit_of b))) x ≡ answered n (two (offset r x page) (bit_of (a0 x))) x x → Located r s m x page p.0 b
      go zero z e =
          let v : two p.0 (bit_of b) ≡ two (offset r x page) (bit_of (a0 x)) = ap (λ (t : Outcome ℕ). t.answer.value) e in
          let f : p.0 ≡ offset r x page = cc in
          let g : bit_of b ≡ bit_of (a0 x) = cc in
          let at = access-accepted (shape m) r s x page z in
          let fit = both (fits_gc r) (fits_seq s) (refuse-0 (fits_both r s) 5 _ z).0 in
          record { accepted = sym z; offset = f; bit0 = bit-one b (a0 x) g; map-select = map_select_fits r fit.0; fits-seq = fit.1; shaped = at.shaped; within = omega (arith, f, at.offset) }
      go (suc n) z e = absurd (let w : 0 ≡ suc n = ap (λ (t : Outcome ℕ). t.answer.number) e in omega arith)

  -- a refusal has its number
  pub unlocated : (y : Refusal) → d ≡ Err y → refusal_number y ≡ access_number r s (shape m) x page
  unlocated y is = go (access_number r s (shape m) x page) (told is)
    where
      go : (n : ℕ) → outcome (said (refusal_number y) (two 0 0)) x ≡ answered n (two (offset r x page) (bit_of (a0 x))) x x → refusal_number y ≡ n
      go zero e = ap (λ (t : Outcome ℕ). t.answer.number) e
      go (suc n) e = ap (λ (t : Outcome ℕ). t.answer.number) e

-- ---- refusals in their turn

-- 6, 1, 9 and 5 passed
pub show-accepted : (r : GraphicsRegisters) (s : Sequencer) (m : Memory) (o : ℕ) → 0 ≡ show_number r s (shape m) o → AtOffset (shape m) o
unfolding show_number
show-accepted r s m o e =
    let a = refuse-0 (fits_both r s) 5 _ (sym e) in
    let b = refuse-0 (sound (shape m)) 0 _ a.1 in
    let c = refuse-0 (shows (shift_mode r)) 8 _ b.1 in
    let d = refuse-0 _ 4 _ c.1 in
    record { shaped = sound-facts (shape m) b.0; offset = ltb-true _ _ d.0 }

-- 6, 1 and 5 passed
pub pixels-accepted : (r : GraphicsRegisters) (s : Sequencer) (m : Memory) (o : ℕ) → 0 ≡ pixels_number r s (shape m) o → AtOffset (shape m) (last_shown (shift_mode r) o)
unfolding pixels_number
pixels-accepted r s m o e =
    let a = refuse-0 (fits_both r s) 5 _ (sym e) in
    let b = refuse-0 (sound (shape m)) 0 _ a.1 in
    let c = refuse-0 _ 4 _ b.1 in
    record { shaped = sound-facts (shape m) b.0; offset = ltb-true _ _ c.0 }

-- ---- a plan carried out

module _ (a : CpuPlan) (g : GraphicsController) (m : Memory) where
  pub cpu-refused : (k : ℕ) (v : Value) → 0 < k → k ≡ a.ask.number → v ≡ blank (value_of a.ask.reply m (latches_after a.ask.deed g.latches m) (memory_after a.ask.deed g.latches m))
      → outcome (said k v) (cpu_refused a g m) ≡ cpu_perform a g m
  cpu-refused k v h e f = answered-refused k a.ask.number _ v _ (cpu_refused a g m) h e f

  -- of a call that names no counter for its refusals
  pub cpu-uncounted : (k : ℕ) (v : Value) → a.turned_away ≡ no_counter → 0 < k → k ≡ a.ask.number
      → v ≡ blank (value_of a.ask.reply m (latches_after a.ask.deed g.latches m) (memory_after a.ask.deed g.latches m))
      → outcome (said k v) (device g m) ≡ cpu_perform a g m
  cpu-uncounted k v t h e f = ap (outcome (said k v)) kept ∙ cpu-refused k v h e f
    where
      kept : device g m ≡ cpu_refused a g m
      kept = unfold counted in rw (t, none-raised a.ask.number)

  pub cpu-done : (g' : GraphicsController) (m' : Memory) (v : Value) → 0 ≡ a.ask.number
      → g' ≡ gc_of g.registers (counted a.counter g.stats) (latches_after a.ask.deed g.latches m)
      → m' ≡ memory_after a.ask.deed g.latches m
      → v ≡ value_of a.ask.reply m (latches_after a.ask.deed g.latches m) (memory_after a.ask.deed g.latches m)
      → outcome (said 0 v) (device g' m') ≡ cpu_perform a g m
  cpu-done g' m' v e eg em ev = rw (eg, em, ev, ← e)

-- ---- the plane that a read or a peek answers from is one of four

answers-small : (s : Sequencer) (o p : ℕ) → p ≤ 3 → answers_from s o p ≤ 3
unfolding answers_from
answers-small s o p h = go (chain_four s)
  where
    go : (b : Bool) → pick b (o % 4) p ≤ 3
    go true = omega arith
    go false = h

map-select-small : (r : GraphicsRegisters) (x : ℕ) → r.read_map_select ≤ 3 → map_selected r x ≤ 3
map-select-small r x h = go (is_odd_even (odd_even r)) (a0 x)
  where
    go : (b c : Bool) → pick b (r.read_map_select / 2 * 2 + bit_of c) r.read_map_select ≤ 3
    go true true = omega arith
    go true false = omega arith
    go false c = h

pub select-small : (r : GraphicsRegisters) (s : Sequencer) (x o : ℕ) → r.read_map_select ≤ 3 → selected_plane r s x o ≤ 3
unfolding selected_plane
select-small r s x o h = answers-small s o (map_selected r x) (map-select-small r x h)

pub peeked-small : (s : Sequencer) (o : ℕ) → peeked_plane s o ≤ 3
unfolding peeked_plane
peeked-small s o = answers-small s o 0 (omega arith)

-- ---- a read

loaded_at : (m : Memory) (o p : ℕ) → p ≤ 3 → latch (loaded m o) p ≡ byte m p o
unfolding loaded
loaded_at m o zero h = refl
loaded_at m o (suc zero) h = refl
loaded_at m o (suc (suc zero)) h = refl
loaded_at m o (suc (suc (suc zero))) h = refl
loaded_at m o (suc (suc (suc (suc p)))) h = absurd (omega arith)

-- from the latches just loaded the answer is the machine's
pub read-value : (w : ReadMode) (r : GraphicsRegisters) (s : Sequencer) (m : Memory) (o x : ℕ) → r.read_map_select ≤ 3
    → one (read_byte w r s x o (loaded m (stored_at s o))) ≡ value_of (read_reply w r s x o) m (loaded m (stored_at s o)) m
unfolding read_byte read_reply value_of
read-value ReadSelectedPlane r s m o x h = ap one (loaded_at m (stored_at s o) (selected_plane r s x o) (select-small r s x o h))
read-value ReadComparedPlanes r s m o x h = refl

-- a refused read answers 0
pub read-blank : (w : ReadMode) (r : GraphicsRegisters) (s : Sequencer) (x o : ℕ) (was : Memory) (l : List ℕ) (m : Memory) → one 0 ≡ blank (value_of (read_reply w r s x o) was l m)
unfolding read_reply value_of
read-blank ReadSelectedPlane r s x o was l m = refl
read-blank ReadComparedPlanes r s x o was l m = refl

-- ---- the five calls

module _ (g : GraphicsController) (s : Sequencer) (m : Memory) (x : ℕ) (page : Bool) where
  abbrev number : ℕ
  number = access_number g.registers s (shape m) x page

  abbrev at : ℕ
  at = offset g.registers x page

  -- what a read or a write refused with a number leaves of the controller
  abbrev left_by : ℕ → GraphicsController
  left_by k = gc_of g.registers (counted (refusal_counter k refused_counter) g.stats) g.latches

  refused-left : (k : ℕ) (u : Value) (g' : GraphicsController) → k ≡ number → g' ≡ left_by k → outcome (said k u) (device g' m) ≡ outcome (said k u) (device (left_by number) m)
  refused-left k u g' e eg = ap (λ (g : GraphicsController). outcome (said k u) (device g m)) (eg ∙ ap left_by e)

  pub read-refused : (k : ℕ) (g' : GraphicsController) → 0 < k → k ≡ number → g' ≡ left_by k → outcome (said k (one 0)) (device g' m) ≡ cpu_step g s m (cpu_read x page)
  unfolding cpu_step cpu_plan
  read-refused k g' h e eg =
      refused-left k (one 0) g' e eg
      ∙ cpu-refused (cpu_plan g.registers s (shape m) (cpu_read x page)) g m k (one 0) h e (read-blank (read_mode g.registers) g.registers s x at m _ _)

  -- latches loaded, one counter raised, and the answer from them
  pub read_done : (o t : ℕ) (l : List ℕ) (a : Said) (g' : GraphicsController) → 0 ≡ number → o ≡ at → t ≡ stored_at s o → l ≡ loaded m t
      → outcome a g' ≡ outcome (said 0 (one (read_byte (read_mode g.registers) g.registers s x o l))) (gc_of g.registers (counted (read_counter (read_mode g.registers)) g.stats) l)
      → outcome a (device g' m) ≡ cpu_step g s m (cpu_read x page)
  unfolding cpu_step cpu_plan latches_after memory_after access_number
  read_done o t l a g' e eo et el ea =
      let f : g.registers.read_map_select ≤ 3 = map_select_fits g.registers (both (fits_gc g.registers) (fits_seq s) (refuse-0 (fits_both g.registers s) 5 _ (sym e)).0).0 in
      let v : l ≡ loaded m (stored_at s at) = el ∙ ap (loaded m) (et ∙ ap (stored_at s) eo) in
      ap (lifted (λ (g : GraphicsController). device g m)) ea
      ∙ cpu-done (cpu_plan g.registers s (shape m) (cpu_read x page)) g m _ m _ e
      (ap (gc_of g.registers (counted (read_counter (read_mode g.registers)) g.stats)) v) refl
      (rw (v, eo) (read-value (read_mode g.registers) g.registers s m at x f))

  pub peek-refused : (k : ℕ) → 0 < k → k ≡ number → outcome (said k (one 0)) (device g m) ≡ cpu_step g s m (cpu_peek x page)
  unfolding cpu_step cpu_plan value_of
  peek-refused k h e = cpu-uncounted (cpu_plan g.registers s (shape m) (cpu_peek x page)) g m k (one 0) refl h e refl

  pub peek-done : (o p t b : ℕ) → 0 ≡ number → o ≡ at → p ≡ peeked_plane s o → t ≡ stored_at s o → b ≡ byte m p t → outcome (said 0 (one b)) (device g m) ≡ cpu_step g s m (cpu_peek x page)
  unfolding cpu_step cpu_plan counted latches_after memory_after value_of
  peek-done o p t b e eo ep et eb = cpu-done (cpu_plan g.registers s (shape m) (cpu_peek x page)) g m g m (one b) e refl refl (rw (eb, ep, et, eo))

  pub write-refused : (v k : ℕ) (g' : GraphicsController) → 0 < k → k ≡ number → g' ≡ left_by k → outcome (said k (changes 0 0 0 0)) (device g' m) ≡ cpu_step g s m (cpu_write x page v)
  unfolding cpu_step cpu_plan value_of
  write-refused v k g' h e eg = refused-left k (changes 0 0 0 0) g' e eg ∙ cpu-refused (cpu_plan g.registers s (shape m) (cpu_write x page v)) g m k (changes 0 0 0 0) h e refl

  -- a write moves no latch
  write-latches : (w : WriteMode) (o v : ℕ) → g.latches ≡ latches_after (write_deed w g.registers s x o v) g.latches m
  unfolding write_deed latches_after
  write-latches w o v = refl

  -- one counter raised, the mode's deed done, and the four numbers of the offset stored at
  pub write_done : (v o : ℕ) (m' : Memory) (u : Value) (a : Said) (g' : GraphicsController) → 0 ≡ number → o ≡ at
      → outcome a g' ≡ outcome (said 0 u) (gc_of g.registers (counted (write_counter (write_mode g.registers)) g.stats) g.latches)
      → m' ≡ memory_after (write_deed (write_mode g.registers) g.registers s x o v) g.latches m
      → u ≡ changes_of (changed_at m m' (stored_at s o))
      → outcome a (device g' m') ≡ cpu_step g s m (cpu_write x page v)
  unfolding cpu_step cpu_plan value_of
  write_done v o m' u a g' e eo ea em eu =
      ap (lifted (λ (g : GraphicsController). device g m')) ea
      ∙ cpu-done (cpu_plan g.registers s (shape m) (cpu_write x page v)) g m _ m' u e
      (ap (gc_of g.registers (counted (write_counter (write_mode g.registers)) g.stats)) (write-latches (write_mode g.registers) at v))
      (rw (← eo) em) (rw (← eo) (eu ∙ ap (λ (q : Memory). changes_of (changed_at m q (stored_at s o))) em))

module _ (g : GraphicsController) (s : Sequencer) (m : Memory) (o : ℕ) where
  pub show-refused : (k : ℕ) → 0 < k → k ≡ show_number g.registers s (shape m) o → outcome (said k (part [])) (device g m) ≡ cpu_step g s m (serialize o)
  unfolding cpu_step cpu_plan value_of
  show-refused k h e = cpu-uncounted (cpu_plan g.registers s (shape m) (serialize o)) g m k (part []) refl h e refl

  -- an older show by what its judge answered
  pub older-shown : (d : Result Unit Refusal) → (done_said d).number ≡ show_number g.registers s (shape m) o
      → outcome (said_by (λ x. part (take 8 (drop (8 * o) m.picture))) (part []) d) (device g m) ≡ cpu_step g s m (serialize o)
  unfolding cpu_step cpu_plan counted latches_after memory_after value_of
  older-shown (Ok x) e = cpu-done (cpu_plan g.registers s (shape m) (serialize o)) g m g m _ e refl refl refl
  older-shown (Err y) e = show-refused (refusal_number y) (refusal-some y) e

  pub pixels-refused : (k : ℕ) → 0 < k → k ≡ pixels_number g.registers s (shape m) o
      → outcome (said k (shown (shift_mode g.registers) no_pixels)) (device g m) ≡ cpu_step g s m (show_pixels o)
  unfolding cpu_step cpu_plan value_of
  pixels-refused k h e = cpu-uncounted (cpu_plan g.registers s (shape m) (show_pixels o)) g m k (shown (shift_mode g.registers) no_pixels) refl h e refl

  pub pixels-done : (l : List ℕ) → 0 ≡ pixels_number g.registers s (shape m) o → l ≡ shown_in (shift_mode g.registers) m o
      → outcome (said 0 (shown (shift_mode g.registers) l)) (device g m) ≡ cpu_step g s m (show_pixels o)
  unfolding cpu_step cpu_plan counted latches_after memory_after value_of
  pixels-done l e el =
      cpu-done (cpu_plan g.registers s (shape m) (show_pixels o)) g m g m (shown (shift_mode g.registers) l) e refl refl (ap (shown (shift_mode g.registers)) el)
