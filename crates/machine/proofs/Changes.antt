-- `changes-counted`, K6 for every state and every store: an accepted one answers, plane by plane, how many bits of the byte that it puts down differ from the old byte's,
-- and 0 of each plane that it does not store. The definition compares the memory before and after; these are the request's words.
use Prim.Native.Nat.{ℕ, zero, suc, ◌+◌, ◌<◌, ◌≤◌}
use native.Mathlib.Omega.{arith}
use mathlib.Core.Path.{◌≡◌, refl, ap, ap₂, ◌∙◌}
use mathlib.Core.Bool.{Bool, true, false, ◌||◌}
use mathlib.Core.List.{List, []}
use lib.Dec.{eqb, lit<}
use lib.ListN.{length, get_or, set}
use lib.Seq.{get_or-set_same}
use borrow.Author.Tests.{eq-eqb}
use Rattle.bits.specs.Bit.{bit, sum_of, bit_of, pick}
use Rattle.machine.specs.Memory.{Memory, plane, shape, Shaped}
use Rattle.machine.specs.Answers.{Value, changes, changes_of, answered}
use Rattle.machine.specs.Sequencer.{fits_seq, in_mask, stored_at}
use Rattle.machine.specs.Address.{offset}
use Rattle.machine.specs.Deeds.{rest, load, store, remake, byte, any, laid, remade, stored, stored_byte, changed_bit, changed_bits, changed_at, memory_after, value_of, perform}
use Rattle.machine.specs.Calls.{VramCall, read_u8, peek_u8, read_glyph, read_linear, serialize_linear, write_u8, plane_set, plane_and, plane_or, deplane}
use Rattle.machine.specs.Calls.{DirectCall, seq_cpu_read_u8, seq_peek_u8, seq_gc_read_u8, seq_read_linear, seq_serialize_linear, seq_plane_set, seq_plane_and, seq_plane_or}
use Rattle.machine.specs.Calls.{CpuCall, cpu_read, cpu_peek, cpu_write, serialize, show_pixels, set_bit, and_bit, or_bit, store_one, unmasked}
use Rattle.machine.specs.Calls.{refuse, plane_number, vram_plan, direct_plan, access_number, write_deed, cpu_plan}
use Rattle.machine.specs.Step.{vram_step, direct_step, cpu_step, State, Call, vram, sequencer, direct, graphics, cpu, step}
use Rattle.machine.specs.Isolation.{Accepted}
use Rattle.machine.specs.Claims.{vram_stores, direct_stores, cpu_stores, is_store, changed_by, deed_of}
use Rattle.machine.proofs.Laws.{refuse-0, plane-accepted, access-accepted, stored-at-lt}

-- ---- the counting

sum-le : (n : ℕ) (f : ℕ → ℕ) → ((i : ℕ) → f i ≤ 1) → sum_of n f ≤ n
unfolding sum_of
sum-le zero f h = omega arith
sum-le (suc n) f h = omega (arith, h 0, sum-le n (λ i. f (suc i)) (λ i. h (suc i)))

-- a number is 0 to 8
pub changed-most : (old new : ℕ) → changed_bits old new ≤ 8
unfolding changed_bits
changed-most old new = sum-le 8 (changed_bit old new) (λ i. go (eqb (bit i old) (bit i new)))
  where
    go : (t : Bool) → pick t 0 1 ≤ 1
    go true = omega arith
    go false = omega arith

sum-none : (n : ℕ) (f : ℕ → ℕ) → ((i : ℕ) → f i ≡ 0) → sum_of n f ≡ 0
unfolding sum_of
sum-none zero f h = refl
sum-none (suc n) f h = ap₂ (λ (a b : ℕ). a + b) (h 0) (sum-none n (λ i. f (suc i)) (λ i. h (suc i)))

-- a byte that stays has 0
pub unchanged : (x : ℕ) → changed_bits x x ≡ 0
unfolding changed_bits
unchanged x = sum-none 8 (changed_bit x x) (λ i. ap (λ (t : Bool). pick t 0 1) (eq-eqb (bit i x) (bit i x) refl))

-- ---- a store's deed

-- none of four tests holds, so that of plane p does not
none_named : (w : ℕ → Bool) (p : ℕ) → p < 4 → any w ≡ false → w p ≡ false
none_named w zero h e = go (w 0) (w 1 || (w 2 || w 3)) e
  where
    go : (a b : Bool) → (a || b) ≡ false → a ≡ false
    go true b e = e
    go false b e = refl
none_named w (suc zero) h e = go (w 0) (w 1) (w 2 || w 3) e
  where
    go : (a b c : Bool) → (a || (b || c)) ≡ false → b ≡ false
    go a false c e = refl
    go true true c e = e
    go false true c e = e
none_named w (suc (suc zero)) h e = go (w 0) (w 1) (w 2) (w 3) e
  where
    go : (a b c d : Bool) → (a || (b || (c || d))) ≡ false → c ≡ false
    go a b false d e = refl
    go true b true d e = e
    go false true true d e = e
    go false false true d e = e
none_named w (suc (suc (suc zero))) h e = go (w 0) (w 1) (w 2) (w 3) e
  where
    go : (a b c d : Bool) → (a || (b || (c || d))) ≡ false → d ≡ false
    go a b c false e = refl
    go true b c true e = e
    go false true c true e = e
    go false false true true e = e
    go false false false true e = e
none_named w (suc (suc (suc (suc p)))) h e = absurd (omega arith)

-- an offset within plane 0 is within each
within : (m : Memory) → Shaped m → (o : ℕ) → o < length m.p0 → (p : ℕ) → p < 4 → o < length (plane m p)
within m h o l zero q = l
within m h o l (suc zero) q = omega (arith, h.same1)
within m h o l (suc (suc zero)) q = omega (arith, h.same2)
within m h o l (suc (suc (suc zero))) q = omega (arith, h.same3)
within m h o l (suc (suc (suc (suc p)))) q = absurd (omega arith)

-- the picture's remaking moves no plane
remade-plane : (o p : ℕ) (m : Memory) → plane (remade o m) p ≡ plane m p
unfolding remade
remade-plane o zero m = refl
remade-plane o (suc zero) m = refl
remade-plane o (suc (suc zero)) m = refl
remade-plane o (suc (suc (suc zero))) m = refl
remade-plane o (suc (suc (suc (suc p)))) m = refl

-- .. so it changes no number
pub remade-changed : (was : Memory) (o at p : ℕ) (m : Memory) → changed_at was (remade at m) o p ≡ changed_at was m o p
unfolding changed_at
remade-changed was o at p m = ap (λ (x : List ℕ). changed_bits (byte was p o) (get_or x o 0)) (remade-plane at p m)

pub remade-changes : (was : Memory) (o at : ℕ) (m : Memory) → changes_of (changed_at was (remade at m) o) ≡ changes_of (changed_at was m o)
unfolding changed_at remade
remade-changes was o at m = refl

-- nor does a store that stores nothing
pub none-changed : (m : Memory) (o : ℕ) → changes 0 0 0 0 ≡ changes_of (changed_at m m o)
unfolding changed_at
none-changed m o = rw (unchanged (byte m 0 o), unchanged (byte m 1 o), unchanged (byte m 2 o), unchanged (byte m 3 o))

-- a plane after bytes were laid
pub laid-plane : (o : ℕ) (w : ℕ → Bool) (b : ℕ → ℕ) (m : Memory) (p : ℕ) → p < 4 → plane (laid o w b m) p ≡ pick (w p) (set (plane m p) o (b p)) (plane m p)
unfolding laid
laid-plane o w b m zero h = refl
laid-plane o w b m (suc zero) h = refl
laid-plane o w b m (suc (suc zero)) h = refl
laid-plane o w b m (suc (suc (suc zero))) h = refl
laid-plane o w b m (suc (suc (suc (suc p)))) h = absurd (omega arith)

module _ (o : ℕ) (w : ℕ → Bool) (b : ℕ → ℕ) (m : Memory) (h : Shaped m) (l : o < length m.p0) (p : ℕ) (q : p < 4) where
  by-test : (t : Bool) → changed_bits (byte m p o) (get_or (pick t (set (plane m p) o (b p)) (plane m p)) o 0) ≡ pick t (changed_bits (byte m p o) (b p)) 0
  by-test true = ap (changed_bits (byte m p o)) (get_or-set_same (plane m p) o (b p) 0 (within m h o l p q))
  by-test false = unchanged (byte m p o)

  pub laid-changed : changed_at m (laid o w b m) o p ≡ pick (w p) (changed_bits (byte m p o) (b p)) 0
  unfolding changed_at
  laid-changed = ap (λ (x : List ℕ). changed_bits (byte m p o) (get_or x o 0)) (laid-plane o w b m p q) ∙ by-test (w p)

  stored-changed : changed_at m (stored o w b m) o p ≡ pick (w p) (changed_bits (byte m p o) (b p)) 0
  unfolding stored
  stored-changed = go (any w) refl
    where
      go : (t : Bool) → any w ≡ t → changed_at m (pick t (remade o (laid o w b m)) m) o p ≡ pick (w p) (changed_bits (byte m p o) (b p)) 0
      go true e = remade-changed m o o p (laid o w b m) ∙ laid-changed
      go false e = unfold changed_at in rw (none_named w p q e) (unchanged (byte m p o))

-- the four numbers of a store, as the definition has them and as the request has
pub store-changes : (o : ℕ) (w : ℕ → Bool) (f : ℕ → ℕ → ℕ → ℕ → ℕ) (l : List ℕ) (m : Memory) → Shaped m → o < length m.p0
    → changes_of (changed_at m (memory_after (store o w f) l m) o) ≡ changes_of (changed_by (store o w f) l m)
unfolding memory_after changed_by
store-changes o w f l m h q =
    let at = stored-changed o w (stored_byte o f l m) m h q in
    rw (at 0 (lit< tt), at 1 (lit< tt), at 2 (lit< tt), at 3 (lit< tt))

-- .. and a deed that is no store changes no bit, wherever one looks
module _ (l : List ℕ) (m : Memory) (at p : ℕ) where
  rest-changes : changed_at m (memory_after rest l m) at p ≡ changed_by rest l m p
  unfolding memory_after changed_by changed_at
  rest-changes = unchanged (byte m p at)

  load-changes : (o : ℕ) → changed_at m (memory_after (load o) l m) at p ≡ changed_by (load o) l m p
  unfolding memory_after changed_by changed_at
  load-changes o = unchanged (byte m p at)

  remake-changes : (o : ℕ) → changed_at m (memory_after (remake o) l m) at p ≡ changed_by (remake o) l m p
  unfolding memory_after changed_by changed_at
  remake-changes o = remade-changed m at o p m ∙ unchanged (byte m p at)

-- ---- the eight stores

-- an accepted direct store into one plane, whatever its bits; no latch is in its byte
one-changes : (f : ℕ → ℕ → ℕ) (p o x : ℕ) (w : ℕ → Bool) (l : List ℕ) (m : Memory) → Shaped m → o < length m.p0
    → changes_of (changed_at m (memory_after (store_one f p o w x) [] m) o) ≡ changes_of (changed_by (store_one f p o w x) l m)
unfolding changed_by stored_byte
one-changes f p o x w l m h q = store-changes o _ _ [] m h q

-- an accepted answer has its value
answered-so : {S : Type 0} (n : ℕ) (v u : Value) (new old : S) → (n ≡ 0 → v ≡ u) → (answered n v new old).answer.number ≡ 0 → (answered n v new old).answer.value ≡ u
answered-so zero v u new old h e = h refl
answered-so (suc n) v u new old h e = absurd (omega arith)

apart : false ≡ true → ⊥
apart e = let z : ◌≡◌ {A = ℕ} 0 1 = ap bit_of e in omega arith

module _ (s : State) where
  -- what an accepted store says
  Counted : Call → Type 0
  Counted c = Accepted s c → (step s c).answer.value ≡ changes_of (changed_by (deed_of s c) s.gc.latches s.memory)

  vram-one : (f : ℕ → ℕ → ℕ) (p o x : ℕ) → let m = s.memory in let d = store_one f p o unmasked x in
      let u = answered (plane_number (shape m) p o) (changes_of (changed_at m (memory_after d [] m) o)) (memory_after d [] m) m in
      u.answer.number ≡ 0 → u.answer.value ≡ changes_of (changed_by d s.gc.latches m)
  vram-one f p o x =
      let m = s.memory in
      answered-so (plane_number (shape m) p o) _ _ _ m λ z.
      let a = plane-accepted (shape m) p o z in
      one-changes f p o x unmasked s.gc.latches m a.shaped a.offset

  vram-changes : (c : VramCall) → vram_stores c ≡ true → Counted (vram c)
  unfolding Counted step vram_step vram_plan perform value_of deed_of
  vram-changes (read_u8 p o) t = absurd (apart t)
  vram-changes (peek_u8 p o) t = absurd (apart t)
  vram-changes (read_glyph o) t = absurd (apart t)
  vram-changes (read_linear j) t = absurd (apart t)
  vram-changes (serialize_linear o) t = absurd (apart t)
  vram-changes (write_u8 p o x) t = vram-one set_bit p o x
  vram-changes (plane_set p o x) t = vram-one set_bit p o x
  vram-changes (plane_and p o x) t = vram-one and_bit p o x
  vram-changes (plane_or p o x) t = vram-one or_bit p o x
  vram-changes (deplane o) t = absurd (apart t)

  direct-one : (f : ℕ → ℕ → ℕ) (p o : ℕ) (a : Bool) (x : ℕ) → let m = s.memory in let at = stored_at s.seq o in let d = store_one f p at (in_mask s.seq o a) x in
      let u = answered (refuse (fits_seq s.seq) 6 (plane_number (shape m) p o)) (changes_of (changed_at m (memory_after d [] m) at)) (memory_after d [] m) m in
      u.answer.number ≡ 0 → u.answer.value ≡ changes_of (changed_by d s.gc.latches m)
  direct-one f p o a x =
      let m = s.memory in
      answered-so (refuse (fits_seq s.seq) 6 (plane_number (shape m) p o)) _ _ _ m λ z.
      let h = plane-accepted (shape m) p o (refuse-0 (fits_seq s.seq) 5 _ z).1 in
      one-changes f p (stored_at s.seq o) x (in_mask s.seq o a) s.gc.latches m h.shaped (stored-at-lt s.seq o refl h.offset)

  direct-changes : (c : DirectCall) → direct_stores c ≡ true → Counted (direct c)
  unfolding Counted step direct_step direct_plan perform value_of deed_of
  direct-changes (seq_cpu_read_u8 p o a) t = absurd (apart t)
  direct-changes (seq_peek_u8 p o a) t = absurd (apart t)
  direct-changes (seq_gc_read_u8 p o a) t = absurd (apart t)
  direct-changes (seq_read_linear j) t = absurd (apart t)
  direct-changes (seq_serialize_linear o) t = absurd (apart t)
  direct-changes (seq_plane_set p o a x) t = direct-one set_bit p o a x
  direct-changes (seq_plane_and p o a x) t = direct-one and_bit p o a x
  direct-changes (seq_plane_or p o a x) t = direct-one or_bit p o a x

  cpu-changes : (c : CpuCall) → cpu_stores c ≡ true → Counted (cpu c)
  unfolding Counted step cpu_step cpu_plan write_deed value_of deed_of
  cpu-changes (cpu_read x page) t = absurd (apart t)
  cpu-changes (cpu_peek x page) t = absurd (apart t)
  cpu-changes (cpu_write x page v) t =
      let r = s.gc.registers in
      let o = offset r x page in
      answered-so (access_number r s.seq (shape s.memory) x page) _ _ _ _ λ z.
      let a = access-accepted (shape s.memory) r s.seq x page z in
      store-changes (stored_at s.seq o) _ _ s.gc.latches s.memory a.shaped (stored-at-lt s.seq o refl a.offset)
  cpu-changes (serialize o) t = absurd (apart t)
  cpu-changes (show_pixels o) t = absurd (apart t)

-- K6
pub changes-counted : (s : State) (c : Call) → is_store c ≡ true → Accepted s c → (step s c).answer.value ≡ changes_of (changed_by (deed_of s c) s.gc.latches s.memory)
unfolding Counted
changes-counted s (vram c) t = vram-changes s c t
changes-counted s (sequencer c) t = absurd (apart t)
changes-counted s (direct c) t = direct-changes s c t
changes-counted s (graphics c) t = absurd (apart t)
changes-counted s (cpu c) t = cpu-changes s c t

-- ---- spelt out, call by call: each of the eight is a store

module _ (s : State) (p o x : ℕ) (a page : Bool) where
  write-u8-counted : Counted s (vram (write_u8 p o x))
  unfolding Counted
  write-u8-counted = changes-counted s (vram (write_u8 p o x)) refl

  plane-set-counted : Counted s (vram (plane_set p o x))
  unfolding Counted
  plane-set-counted = changes-counted s (vram (plane_set p o x)) refl

  plane-and-counted : Counted s (vram (plane_and p o x))
  unfolding Counted
  plane-and-counted = changes-counted s (vram (plane_and p o x)) refl

  plane-or-counted : Counted s (vram (plane_or p o x))
  unfolding Counted
  plane-or-counted = changes-counted s (vram (plane_or p o x)) refl

  seq-plane-set-counted : Counted s (direct (seq_plane_set p o a x))
  unfolding Counted
  seq-plane-set-counted = changes-counted s (direct (seq_plane_set p o a x)) refl

  seq-plane-and-counted : Counted s (direct (seq_plane_and p o a x))
  unfolding Counted
  seq-plane-and-counted = changes-counted s (direct (seq_plane_and p o a x)) refl

  seq-plane-or-counted : Counted s (direct (seq_plane_or p o a x))
  unfolding Counted
  seq-plane-or-counted = changes-counted s (direct (seq_plane_or p o a x)) refl

  cpu-write-counted : Counted s (cpu (cpu_write x page o))
  unfolding Counted
  cpu-write-counted = changes-counted s (cpu (cpu_write x page o)) refl
