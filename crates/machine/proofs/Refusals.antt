-- Refusals: each is given exactly when its condition holds and no earlier one does; it leaves everything as handed in, but for K8's counter of accesses turned away, and carries value 0.
use Prim.Native.Nat.{ℕ, zero, suc, ◌+◌, ◌<◌, ◌≤◌}
use native.Mathlib.Omega.{arith}
use mathlib.Core.Logic.{◌≢◌, ◌↔◌}
use mathlib.Core.Path.{◌≡◌, refl, sym, ap, ◌∙◌, subst}
use mathlib.Core.Bool.{Bool, true, false, ◌&&◌}
use mathlib.Core.List.{List, [], ◌∷◌, map}
use lib.ListN.{replicate}
use lib.Dec.{eqb, ltb, leb}
use borrow.Author.Tests.{ltb-true, leb-true, eqb-true, lt-ltb, le-leb, eq-eqb}
use Rattle.machine_types.specs.declared.gc.MemoryMap.{MemoryMap}
use Rattle.machine_types.specs.declared.gc.MemoryMap.TheVariants.{A0000_128k, A0000_64K, B0000_32K, B8000_32K}
use Rattle.machine_types.specs.declared.gc.ShiftMode.{ShiftMode}
use Rattle.machine_types.specs.declared.gc.ShiftMode.TheVariants.{Standard, CGACompatible, Chain4, Unused}
use Rattle.machine_types.specs.declared.gc.GraphicsRegisters.{GraphicsRegisters}
use Rattle.machine_types.specs.declared.gc.GraphicsController.{GraphicsController}
use Rattle.machine_types.specs.declared.seq.Sequencer.{Sequencer}
use Rattle.machine_types.specs.declared.shape.Shape.{Shape}
use Rattle.bits.specs.Bit.{pick}
use Rattle.machine.specs.Memory.{Memory, shape, sound, Shaped}
use Rattle.machine.specs.Answers.{Value, one, two, pixel, part, changes, shown, blank, Outcome, answered}
use Rattle.machine.specs.Graphics.{fits_gc, shift_mode, memory_map, gc_of}
use Rattle.machine.specs.Sequencer.{fits_seq}
use Rattle.machine.specs.Address.{in_window, offset}
use Rattle.machine.specs.Deeds.{perform, value_of}
use Rattle.machine.specs.Calls.{refuse, shows, offset_number, plane_number, place_number, shown_number, access_number, show_number, last_shown, pixels_number}
use Rattle.machine.specs.Calls.{VramCall, read_u8, peek_u8, read_glyph, read_linear, serialize_linear, write_u8, plane_set, plane_and, plane_or, deplane, vram_plan}
use Rattle.machine.specs.Calls.{SequencerCall, seq_reset, seq_clock, seq_set_clock_change_pending, seq_poll_clock_change, seq_read_address}
use Rattle.machine.specs.Calls.{seq_read_data, seq_write_address, seq_write_data, seq_number_of}
use Rattle.machine.specs.Calls.{DirectCall, seq_cpu_read_u8, seq_peek_u8, seq_gc_read_u8, seq_read_linear, seq_serialize_linear, seq_plane_set, seq_plane_and, seq_plane_or, direct_plan}
use Rattle.machine.specs.Calls.{GraphicsCall, gc_reset, gc_chain, gc_chain4, gc_memory_map, gc_odd_even, gc_shift_mode}
use Rattle.machine.specs.Calls.{gc_read_address, gc_read_data, gc_write_address, gc_write_data, gc_map_address, gc_number_of}
use Rattle.machine.specs.Calls.{CpuCall, cpu_read, cpu_peek, cpu_write, serialize, show_pixels, cpu_plan, refused_counter, no_counter, is_counted, refusal_counter, counted}
use Rattle.machine.specs.Step.{vram_step, sequencer_step, direct_step, graphics_step, device, cpu_after, cpu_refused, cpu_step, State, Call, vram, sequencer, direct, graphics, cpu, lifted}
use Rattle.machine.specs.Step.{with_memory, with_seq, with_gc, with_device, step}
use Rattle.machine.specs.Claims.{Check, check, RightGc, RightSeq, InWindow, for_both, for_memory, for_plane, for_window, for_offset, for_shown, for_place, vram_checks}
use Rattle.machine.specs.Claims.{sequencer_checks, direct_checks, graphics_checks, cpu_checks, checks, Given, done, here, later, order, in_order}
use Rattle.machine.specs.Claims.{turns_away, one_more_refused, after_refusal, Stays}
use Rattle.machine.proofs.Laws.{answered-number, none-raised}

-- ---- a test and what it tests

-- a test tells whether something holds
data Tells (P : Type 0) : Bool → Type 0 where
  holds : P → Tells P true
  fails : (P → ⊥) → Tells P false

tells : {P : Type 0} (b : Bool) → (b ≡ true → P) → (P → b ≡ true) → Tells P b
tells true f g = holds (f refl)
tells false f g = fails λ p. let e = g p in let z : ◌≡◌ {A = ℕ} 0 1 = cc in omega arith

tells_both : {P Q : Type 0} {a b : Bool} → Tells P a → Tells Q b → Tells (P × Q) (a && b)
tells_both (holds p) (holds q) = holds (p, q)
tells_both (holds p) (fails n) = fails λ h. n h.1
tells_both (fails n) t = fails λ h. n h.0

tells-le : (x y : ℕ) → Tells (x ≤ y) (leb x y)
tells-le x y = tells (leb x y) (leb-true x y) (le-leb x y)

tells-lt : (x y : ℕ) → Tells (x < y) (ltb x y)
tells-lt x y = tells (ltb x y) (ltb-true x y) (lt-ltb x y)

tells-eq : (x y : ℕ) → Tells (x ≡ y) (eqb x y)
tells-eq x y = tells (eqb x y) (eqb-true x y) (eq-eqb x y)

never : ◌≡◌ {A = ℕ} 0 1 → ⊥
never e = omega arith

-- a fact put in other words
tells_as : {P Q : Type 0} {b : Bool} → (P → Q) → (Q → P) → Tells P b → Tells Q b
tells_as f g (holds p) = holds (f p)
tells_as f g (fails n) = fails λ q. n (g q)

-- ---- the tests of the refusals

memory-told : (m : Memory) → Tells (Shaped m) (sound (shape m))
unfolding sound
memory-told m =
    tells_as
    (λ h. record { some = h.0; most = h.1.0; same1 = h.1.1.0; same2 = h.1.1.1.0; same3 = h.1.1.1.1.0; eightfold = h.1.1.1.1.1 })
    (λ s. (s.some, (s.most, (s.same1, (s.same2, (s.same3, s.eightfold))))))
    (tells_both (tells-lt _ _) (tells_both (tells-le _ _) (tells_both (tells-eq _ _) (tells_both (tells-eq _ _) (tells_both (tells-eq _ _) (tells-eq _ _))))))

gc-told : (r : GraphicsRegisters) → Tells (RightGc r) (fits_gc r)
unfolding fits_gc
gc-told r =
    tells_as
    (λ h. record { address = h.0; set_reset = h.1.0; enable = h.1.1.0; compare = h.1.1.1.0; dont_care = h.1.1.1.1.0; map_select = h.1.1.1.1.1 })
    (λ s. (s.address, (s.set_reset, (s.enable, (s.compare, (s.dont_care, s.map_select))))))
    (tells_both (tells-le _ _) (tells_both (tells-le _ _) (tells_both (tells-le _ _) (tells_both (tells-le _ _) (tells_both (tells-le _ _) (tells-le _ _))))))

seq-told : (s : Sequencer) → Tells (RightSeq s) (fits_seq s)
unfolding fits_seq
seq-told s =
    tells_as
    (λ h. record { reset = h.0; map_mask = h.1.0; clocking_mode = h.1.1.0; character_map_select = h.1.1.1.0; memory_mode = h.1.1.1.1 })
    (λ s. (s.reset, (s.map_mask, (s.clocking_mode, (s.character_map_select, s.memory_mode)))))
    (tells_both (tells-le _ _) (tells_both (tells-le _ _) (tells_both (tells-le _ _) (tells_both (tells-le _ _) (tells-le _ _)))))

window-told : (w : MemoryMap) (x : ℕ) → Tells (InWindow w x) (in_window w x)
unfolding in_window
window-told A0000_128k x = tells_both (tells-le _ _) (tells-le _ _)
window-told A0000_64K x = tells_both (tells-le _ _) (tells-le _ _)
window-told B0000_32K x = fails λ h. h
window-told B8000_32K x = tells_both (tells-le _ _) (tells-le _ _)

shift-told : (d : ShiftMode) → Tells ((d ≢ Chain4) × (d ≢ CGACompatible)) (shows d)
shift-told Standard = holds (λ e. never (cc), λ e. never (cc))
shift-told CGACompatible = fails λ h. h.1 refl
shift-told Chain4 = fails λ h. h.0 refl
shift-told Unused = holds (λ e. never (cc), λ e. never (cc))

-- the offset, and in CGACompatible the next one: as facts, and as the last of them
pixels-told : (d : ShiftMode) (o n : ℕ) → Tells ((o < n) × (d ≡ CGACompatible → o + 1 < n)) (ltb (last_shown d o) n)
pixels-told Standard o n = tells_as (λ h. (h, λ e. absurd (never (cc)))) (λ h. h.0) (tells-lt o n)
pixels-told CGACompatible o n = tells_as (λ h. (omega arith, λ e. h)) (λ h. h.1 refl) (tells-lt (o + 1) n)
pixels-told Chain4 o n = tells_as (λ h. (h, λ e. absurd (never (cc)))) (λ h. h.0) (tells-lt o n)
pixels-told Unused o n = tells_as (λ h. (h, λ e. absurd (never (cc)))) (λ h. h.0) (tells-lt o n)

-- ---- checks in their turn

then : {P : Type 0} {cs : List Check} {b : Bool} (r : ℕ) {n : ℕ} → Tells P b → Given cs n → Given (check r P ∷ cs) (refuse b r n)
then r (holds p) g = later p g
then r (fails q) g = here q refl

given-one : {cs : List Check} {n k : ℕ} → Given cs n → Given cs k → n ≡ k
given-one (done e) (done f) = e ∙ sym f
given-one (here q e) (here p f) = e ∙ sym f
given-one (here q e) (later p h) = absurd (q p)
given-one (later p g) (here q f) = absurd (q p)
given-one (later p g) (later q h) = given-one g h

module _ (m : Memory) where
  offset-given : (o : ℕ) → Given (for_memory m ∷ for_offset m o ∷ []) (offset_number (shape m) o)
  unfolding offset_number
  offset-given o = then 1 (memory-told m) (then 3 (tells-lt o _) (done refl))

  plane-given : (p o : ℕ) → Given (for_memory m ∷ for_plane p ∷ for_offset m o ∷ []) (plane_number (shape m) p o)
  unfolding plane_number
  plane-given p o = then 1 (memory-told m) (then 4 (tells-le p 3) (then 3 (tells-lt o _) (done refl)))

  place-given : (j : ℕ) → Given (for_memory m ∷ for_place m j ∷ []) (place_number (shape m) j)
  unfolding place_number
  place-given j = then 1 (memory-told m) (then 5 (tells-lt j _) (done refl))

  shown-given : (o : ℕ) → Given (for_memory m ∷ for_shown m o ∷ []) (shown_number (shape m) o)
  unfolding shown_number
  shown-given o = then 1 (memory-told m) (then 5 (tells-lt o _) (done refl))

  vram-given : (c : VramCall) → Given (vram_checks m c) (vram_plan (shape m) c).number
  unfolding vram_checks vram_plan
  vram-given (read_u8 p o) = plane-given p o
  vram-given (peek_u8 p o) = plane-given p o
  vram-given (read_glyph o) = offset-given o
  vram-given (read_linear j) = place-given j
  vram-given (serialize_linear o) = shown-given o
  vram-given (write_u8 p o x) = plane-given p o
  vram-given (plane_set p o x) = plane-given p o
  vram-given (plane_and p o x) = plane-given p o
  vram-given (plane_or p o x) = plane-given p o
  vram-given (deplane o) = offset-given o

  module _ (s : Sequencer) where
    direct-given : (c : DirectCall) → Given (direct_checks s m c) (direct_plan s (shape m) c).number
    unfolding direct_checks direct_plan
    direct-given (seq_cpu_read_u8 p o a) = then 6 (seq-told s) (plane-given p o)
    direct-given (seq_peek_u8 p o a) = then 6 (seq-told s) (plane-given p o)
    direct-given (seq_gc_read_u8 p o a) = then 6 (seq-told s) (plane-given p o)
    direct-given (seq_read_linear j) = then 6 (seq-told s) (place-given j)
    direct-given (seq_serialize_linear o) = then 6 (seq-told s) (shown-given o)
    direct-given (seq_plane_set p o a x) = then 6 (seq-told s) (plane-given p o)
    direct-given (seq_plane_and p o a x) = then 6 (seq-told s) (plane-given p o)
    direct-given (seq_plane_or p o a x) = then 6 (seq-told s) (plane-given p o)

    module _ (r : GraphicsRegisters) where
      access-given : (x : ℕ) (page : Bool) → Given (for_both r s ∷ for_memory m ∷ for_window r x ∷ for_offset m (offset r x page) ∷ []) (access_number r s (shape m) x page)
      unfolding access_number
      access-given x page =
          then 6 (tells_both (gc-told r) (seq-told s))
          (then 1 (memory-told m) (then 2 (window-told (memory_map r) x) (then 3 (tells-lt (offset r x page) _) (done refl))))

      cpu-given : (c : CpuCall) → Given (cpu_checks r s m c) (cpu_plan r s (shape m) c).ask.number
      unfolding cpu_checks cpu_plan show_number pixels_number
      cpu-given (cpu_read x page) = access-given x page
      cpu-given (cpu_peek x page) = access-given x page
      cpu-given (cpu_write x page v) = access-given x page
      cpu-given (serialize o) =
          then 6 (tells_both (gc-told r) (seq-told s)) (then 1 (memory-told m) (then 9 (shift-told (shift_mode r)) (then 5 (tells-lt o _) (done refl))))
      cpu-given (show_pixels o) =
          then 6 (tells_both (gc-told r) (seq-told s)) (then 1 (memory-told m) (then 5 (pixels-told (shift_mode r) o _) (done refl)))

sequencer-given : (s : Sequencer) (c : SequencerCall) → Given (sequencer_checks s c) (seq_number_of s c)
unfolding sequencer_checks seq_number_of
sequencer-given s seq_reset = done refl
sequencer-given s seq_clock = then 6 (seq-told s) (done refl)
sequencer-given s seq_set_clock_change_pending = then 6 (seq-told s) (done refl)
sequencer-given s seq_poll_clock_change = then 6 (seq-told s) (done refl)
sequencer-given s seq_read_address = then 6 (seq-told s) (done refl)
sequencer-given s seq_read_data = then 6 (seq-told s) (done refl)
sequencer-given s (seq_write_address x) = then 6 (seq-told s) (done refl)
sequencer-given s (seq_write_data x) = then 6 (seq-told s) (done refl)

graphics-given : (r : GraphicsRegisters) (c : GraphicsCall) → Given (graphics_checks r c) (gc_number_of r c)
unfolding graphics_checks gc_number_of
graphics-given r gc_reset = done refl
graphics-given r gc_chain = then 6 (gc-told r) (done refl)
graphics-given r gc_chain4 = then 6 (gc-told r) (done refl)
graphics-given r gc_memory_map = then 6 (gc-told r) (done refl)
graphics-given r gc_odd_even = then 6 (gc-told r) (done refl)
graphics-given r gc_shift_mode = then 6 (gc-told r) (done refl)
graphics-given r gc_read_address = then 6 (gc-told r) (done refl)
graphics-given r gc_read_data = then 6 (gc-told r) (done refl)
graphics-given r (gc_write_address x) = then 6 (gc-told r) (done refl)
graphics-given r (gc_write_data x) = then 6 (gc-told r) (done refl)
graphics-given r (gc_map_address x page) = then 6 (gc-told r) (then 2 (window-told (memory_map r) x) (done refl))

-- ---- the theorems

number-given : (s : State) (c : Call) → Given (checks s c) (step s c).answer.number
unfolding step checks vram_step sequencer_step direct_step graphics_step cpu_step perform
number-given s (vram c) = subst (Given (vram_checks s.memory c)) (answered-number _ _ _ _) (vram-given s.memory c)
number-given s (sequencer c) = subst (Given (sequencer_checks s.seq c)) (answered-number _ _ _ _) (sequencer-given s.seq c)
number-given s (direct c) = subst (Given (direct_checks s.seq s.memory c)) (answered-number _ _ _ _) (direct-given s.memory s.seq c)
number-given s (graphics c) = subst (Given (graphics_checks s.gc.registers c)) (answered-number _ _ _ _) (graphics-given s.gc.registers c)
number-given s (cpu c) = subst (Given (cpu_checks s.gc.registers s.seq s.memory c)) (answered-number _ _ _ _) (cpu-given s.memory s.seq s.gc.registers c)

-- `step` answers n exactly when the call's checks, stated apart, give n
pub refused-exactly : (s : State) (c : Call) (n : ℕ) → ((step s c).answer.number ≡ n) ↔ Given (checks s c) n
refused-exactly s c n = (λ e. subst (Given (checks s c)) e (number-given s c), λ g. given-one (number-given s c) g)

vram-ordered : (m : Memory) (c : VramCall) → in_order order (vram_checks m c) ≡ true
unfolding vram_checks
vram-ordered m (read_u8 p o) = refl
vram-ordered m (peek_u8 p o) = refl
vram-ordered m (read_glyph o) = refl
vram-ordered m (read_linear j) = refl
vram-ordered m (serialize_linear o) = refl
vram-ordered m (write_u8 p o x) = refl
vram-ordered m (plane_set p o x) = refl
vram-ordered m (plane_and p o x) = refl
vram-ordered m (plane_or p o x) = refl
vram-ordered m (deplane o) = refl

sequencer-ordered : (s : Sequencer) (c : SequencerCall) → in_order order (sequencer_checks s c) ≡ true
unfolding sequencer_checks
sequencer-ordered s seq_reset = refl
sequencer-ordered s seq_clock = refl
sequencer-ordered s seq_set_clock_change_pending = refl
sequencer-ordered s seq_poll_clock_change = refl
sequencer-ordered s seq_read_address = refl
sequencer-ordered s seq_read_data = refl
sequencer-ordered s (seq_write_address x) = refl
sequencer-ordered s (seq_write_data x) = refl

direct-ordered : (s : Sequencer) (m : Memory) (c : DirectCall) → in_order order (direct_checks s m c) ≡ true
unfolding direct_checks
direct-ordered s m (seq_cpu_read_u8 p o a) = refl
direct-ordered s m (seq_peek_u8 p o a) = refl
direct-ordered s m (seq_gc_read_u8 p o a) = refl
direct-ordered s m (seq_read_linear j) = refl
direct-ordered s m (seq_serialize_linear o) = refl
direct-ordered s m (seq_plane_set p o a x) = refl
direct-ordered s m (seq_plane_and p o a x) = refl
direct-ordered s m (seq_plane_or p o a x) = refl

graphics-ordered : (r : GraphicsRegisters) (c : GraphicsCall) → in_order order (graphics_checks r c) ≡ true
unfolding graphics_checks
graphics-ordered r gc_reset = refl
graphics-ordered r gc_chain = refl
graphics-ordered r gc_chain4 = refl
graphics-ordered r gc_memory_map = refl
graphics-ordered r gc_odd_even = refl
graphics-ordered r gc_shift_mode = refl
graphics-ordered r gc_read_address = refl
graphics-ordered r gc_read_data = refl
graphics-ordered r (gc_write_address x) = refl
graphics-ordered r (gc_write_data x) = refl
graphics-ordered r (gc_map_address x page) = refl

cpu-ordered : (r : GraphicsRegisters) (s : Sequencer) (m : Memory) (c : CpuCall) → in_order order (cpu_checks r s m c) ≡ true
unfolding cpu_checks
cpu-ordered r s m (cpu_read x page) = refl
cpu-ordered r s m (cpu_peek x page) = refl
cpu-ordered r s m (cpu_write x page v) = refl
cpu-ordered r s m (serialize o) = refl
cpu-ordered r s m (show_pixels o) = refl

-- .. and those stand in the order 6, 1, 9, 4, 2, 3, 5
pub refused-in-order : (s : State) (c : Call) → in_order order (checks s c) ≡ true
unfolding checks
refused-in-order s (vram c) = vram-ordered s.memory c
refused-in-order s (sequencer c) = sequencer-ordered s.seq c
refused-in-order s (direct c) = direct-ordered s.seq s.memory c
refused-in-order s (graphics c) = graphics-ordered s.gc.registers c
refused-in-order s (cpu c) = cpu-ordered s.gc.registers s.seq s.memory c

-- what the word rules out: neighbours exchanged, a number twice, a number that is none
pub out_of_order : map (λ ns. in_order order (map (λ n. check n (Unit {0})) ns))
    ((1 ∷ 6 ∷ []) ∷ (9 ∷ 1 ∷ []) ∷ (4 ∷ 9 ∷ []) ∷ (2 ∷ 4 ∷ []) ∷ (3 ∷ 2 ∷ []) ∷ (5 ∷ 3 ∷ []) ∷ (6 ∷ 6 ∷ []) ∷ (7 ∷ []) ∷ []) ≡ replicate 8 false
out_of_order = refl

blank-blank : (v : Value) → blank v ≡ blank (blank v)
blank-blank (one x) = refl
blank-blank (two x y) = refl
blank-blank (pixel x) = refl
blank-blank (part l) = refl
blank-blank (changes a b c d) = refl
blank-blank (shown d l) = refl

answered-stays : {S : Type 0} (n : ℕ) (v : Value) (new old : S) → (answered n v new old).answer.number ≢ 0 → Stays (answered n v new old) old
answered-stays zero v new old ne = absurd (ne refl)
answered-stays (suc n) v new old ne = record { next = refl; value = blank-blank v }

vram-stays : (m : Memory) (c : VramCall) → (vram_step m c).answer.number ≢ 0 → Stays (vram_step m c) m
unfolding vram_step perform
vram-stays m c ne = answered-stays (vram_plan (shape m) c).number _ _ m ne

sequencer-stays : (s : Sequencer) (c : SequencerCall) → (sequencer_step s c).answer.number ≢ 0 → Stays (sequencer_step s c) s
unfolding sequencer_step
sequencer-stays s c ne = answered-stays (seq_number_of s c) _ _ s ne

direct-stays : (s : Sequencer) (m : Memory) (c : DirectCall) → (direct_step s m c).answer.number ≢ 0 → Stays (direct_step s m c) m
unfolding direct_step perform
direct-stays s m c ne = answered-stays (direct_plan s (shape m) c).number _ _ m ne

graphics-stays : (g : GraphicsController) (c : GraphicsCall) → (graphics_step g c).answer.number ≢ 0 → Stays (graphics_step g c) g
unfolding graphics_step
graphics-stays g c ne = answered-stays (gc_number_of g.registers c) _ _ g ne

-- the controller that a refusal with a number leaves, by whether it turns a read or a write away
module _ (g : GraphicsController) (r : GraphicsRegisters) (s : Sequencer) (h : Shape) (n : ℕ) where
  turned : (t : Bool) → gc_of g.registers (counted (pick t refused_counter no_counter) g.stats) g.latches ≡ pick t (one_more_refused g) g
  unfolding counted
  turned true = refl
  turned false = refl

  controller-left : (c : CpuCall) → gc_of g.registers (counted (refusal_counter n (cpu_plan r s h c).turned_away) g.stats) g.latches ≡ pick (turns_away c n) (one_more_refused g) g
  unfolding cpu_plan counted
  controller-left (cpu_read x page) = turned (is_counted n)
  controller-left (cpu_peek x page) = rw (none-raised n)
  controller-left (cpu_write x page v) = turned (is_counted n)
  controller-left (serialize o) = rw (none-raised n)
  controller-left (show_pixels o) = rw (none-raised n)

cpu-stays : (g : GraphicsController) (s : Sequencer) (m : Memory) (c : CpuCall) → (cpu_step g s m c).answer.number ≢ 0
    → Stays (cpu_step g s m c) (device (pick (turns_away c (cpu_step g s m c).answer.number) (one_more_refused g) g) m)
unfolding cpu_step
cpu-stays g s m c ne =
    let a = cpu_plan g.registers s (shape m) c in
    let left = controller-left g g.registers s (shape m) a.ask.number c in
    rw (← answered-number a.ask.number (value_of a.ask.reply m (cpu_after a g m).gc.latches (cpu_after a g m).memory) (cpu_after a g m) (cpu_refused a g m), ← left)
    (answered-stays a.ask.number _ _ (cpu_refused a g m) ne)

lifted-stays : {S T : Type 0} (f : S → T) (o : Outcome S) (old : S) → Stays o old → Stays (lifted f o) (f old)
lifted-stays f o old h = record { next = ap f h.next; value = h.value }

with-turned : (s : State) (t : Bool) → with_device s (device (pick t (one_more_refused s.gc) s.gc) s.memory) ≡ pick t (with_gc s (one_more_refused s.gc)) s
with-turned s true = refl
with-turned s false = refl

-- a refusal carries value 0 and leaves registers, latches, counters and memory as handed in; a read or a write answered 2 or 3 raises the seventh counter by one, and moves nothing else
pub refused-stays : (s : State) (c : Call) → (step s c).answer.number ≢ 0 → Stays (step s c) (after_refusal s c (step s c).answer.number)
unfolding step after_refusal
refused-stays s (vram c) ne = lifted-stays (with_memory s) _ s.memory (vram-stays s.memory c ne)
refused-stays s (sequencer c) ne = lifted-stays (with_seq s) _ s.seq (sequencer-stays s.seq c ne)
refused-stays s (direct c) ne = lifted-stays (with_memory s) _ s.memory (direct-stays s.seq s.memory c ne)
refused-stays s (graphics c) ne = lifted-stays (with_gc s) _ s.gc (graphics-stays s.gc c ne)
refused-stays s (cpu c) ne =
    subst (Stays (step s (cpu c))) (with-turned s (turns_away c (step s (cpu c)).answer.number))
    (lifted-stays (with_device s) _ _ (cpu-stays s.gc s.seq s.memory c ne))

-- ---- what that leaves, spelt out for every state and kind of call

left_by : (s : State) (c : Call) (n : ℕ) → (step s c).answer.number ≡ suc n → (step s c).next ≡ after_refusal s c (suc n)
left_by s c n e = (refused-stays s c (λ z. let y : ◌≡◌ {A = ℕ} 0 (suc n) = sym z ∙ e in omega arith)).next ∙ ap (after_refusal s c) e

-- whatever the number: the four other layers, a peek and the shows
module _ (s : State) (n : ℕ) where
  vram-left : (c : VramCall) → (step s (vram c)).answer.number ≡ suc n → (step s (vram c)).next ≡ s
  unfolding after_refusal
  vram-left c = left_by s (vram c) n

  sequencer-left : (c : SequencerCall) → (step s (sequencer c)).answer.number ≡ suc n → (step s (sequencer c)).next ≡ s
  unfolding after_refusal
  sequencer-left c = left_by s (sequencer c) n

  direct-left : (c : DirectCall) → (step s (direct c)).answer.number ≡ suc n → (step s (direct c)).next ≡ s
  unfolding after_refusal
  direct-left c = left_by s (direct c) n

  graphics-left : (c : GraphicsCall) → (step s (graphics c)).answer.number ≡ suc n → (step s (graphics c)).next ≡ s
  unfolding after_refusal
  graphics-left c = left_by s (graphics c) n

  peek-left : (x : ℕ) (page : Bool) → (step s (cpu (cpu_peek x page))).answer.number ≡ suc n → (step s (cpu (cpu_peek x page))).next ≡ s
  unfolding after_refusal
  peek-left x page = left_by s (cpu (cpu_peek x page)) n

  show-left : (o : ℕ) → (step s (cpu (serialize o))).answer.number ≡ suc n → (step s (cpu (serialize o))).next ≡ s
  unfolding after_refusal
  show-left o = left_by s (cpu (serialize o)) n

  pixels-left : (o : ℕ) → (step s (cpu (show_pixels o))).answer.number ≡ suc n → (step s (cpu (show_pixels o))).next ≡ s
  unfolding after_refusal
  pixels-left o = left_by s (cpu (show_pixels o)) n

-- a read and a write, by the number
module _ (s : State) (x : ℕ) (page : Bool) (v : ℕ) where
  read-outside : (step s (cpu (cpu_read x page))).answer.number ≡ 2 → (step s (cpu (cpu_read x page))).next ≡ with_gc s (one_more_refused s.gc)
  unfolding after_refusal
  read-outside = left_by s (cpu (cpu_read x page)) 1

  write-past : (step s (cpu (cpu_write x page v))).answer.number ≡ 3 → (step s (cpu (cpu_write x page v))).next ≡ with_gc s (one_more_refused s.gc)
  unfolding after_refusal
  write-past = left_by s (cpu (cpu_write x page v)) 2

  read-of-bad-records : (step s (cpu (cpu_read x page))).answer.number ≡ 6 → (step s (cpu (cpu_read x page))).next ≡ s
  unfolding after_refusal
  read-of-bad-records = left_by s (cpu (cpu_read x page)) 5

  write-to-bad-memory : (step s (cpu (cpu_write x page v))).answer.number ≡ 1 → (step s (cpu (cpu_write x page v))).next ≡ s
  unfolding after_refusal
  write-to-bad-memory = left_by s (cpu (cpu_write x page v)) 0
