-- What the proofs of the code cite of the machine: an answer by its number, what an accepted check says, a store plane by plane, eight pixels as a list.
use Prim.Native.Nat.{ℕ, zero, suc, ◌*◌, ◌/◌, ◌≤◌, ◌<◌}
use native.Mathlib.Omega.{arith}
use mathlib.Core.Path.{◌≡◌, refl, sym, ap, subst, ◌∙◌}
use mathlib.Core.Bool.{Bool, true, false, ◌&&◌}
use mathlib.Core.List.{List, [], ◌∷◌}
use lib.Dec.{eqb, ltb}
use lib.ListN.{length, get_or, set, length-set}
use borrow.Author.Tests.{ltb-true, leb-true, eqb-true}
use Rattle.std.specs.Prelude.{Result, Ok, Err}
use Rattle.bits.specs.Bit.{pick}
use Rattle.machine_types.specs.declared.answer.Refusal.{Refusal}
use Rattle.machine_types.specs.declared.answer.Refusal.TheVariants.{Memory as NoMemory, Window, Offset, Plane, Place, State, Damaged, Range, Shift, Room}
use Rattle.machine_types.specs.declared.gc.GraphicsRegisters.{GraphicsRegisters}
use Rattle.machine_types.specs.declared.seq.Sequencer.{Sequencer}
use Rattle.machine_types.specs.declared.shape.Shape.{Shape}
use Rattle.machine.specs.Memory.{Memory, shape, size, sound, Sound, Shaped}
use Rattle.machine.specs.Answers.{refusal_number, Value, blank, said, said_by, done_said, outcome, answered}
use Rattle.machine.specs.Graphics.{memory_map}
use Rattle.machine.specs.Sequencer.{chain_four, stored_at}
use Rattle.machine.specs.Address.{in_window, offset}
use Rattle.machine.specs.Deeds.{Plan, perform, memory_after, value_of, laid, remade, stored}
use Rattle.machine.specs.Calls.{refuse, offset_number, plane_number, place_number, shown_number, access_number, fits_both, no_counter, is_counted, refusal_counter}

-- ---- an answer by its number

pub answered-number : {S : Type 0} (n : ℕ) (v : Value) (new old : S) → n ≡ (answered n v new old).answer.number
answered-number zero v new old = refl
answered-number (suc n) v new old = refl

pub answered-done : {S : Type 0} (n : ℕ) (v w : Value) (new new' old : S) → 0 ≡ n → w ≡ v → new' ≡ new → outcome (said 0 w) new' ≡ answered n v new old
answered-done n v w new new' old e f g = rw (← e, f, g)

pub answered-refused : {S : Type 0} (k n : ℕ) (v w : Value) (new old : S) → 0 < k → k ≡ n → w ≡ blank v → outcome (said k w) old ≡ answered n v new old
answered-refused zero n v w new old h e f = absurd (omega arith)
answered-refused (suc k) n v w new old h e f = rw (← e, f)

-- a plan carried out: accepted, or refused
pub perform-done : (a : Plan) (m m' : Memory) (v : Value) → 0 ≡ a.number → m' ≡ memory_after a.deed [] m → v ≡ value_of a.reply m [] m' → outcome (said 0 v) m' ≡ perform a m
unfolding perform
perform-done a m m' v e g h = answered-done a.number _ v _ m' m e (rw (← g) h) g

pub perform-refused : (a : Plan) (m : Memory) (k : ℕ) (v : Value) → 0 < k → k ≡ a.number → v ≡ blank (value_of a.reply m [] (memory_after a.deed [] m)) → outcome (said k v) m ≡ perform a m
unfolding perform
perform-refused a m k v h e f = answered-refused k a.number _ v _ m h e f

-- no refusal has number 0
pub refusal-some : (r : Refusal) → 0 < refusal_number r
refusal-some NoMemory = omega arith
refusal-some Window = omega arith
refusal-some Offset = omega arith
refusal-some Plane = omega arith
refusal-some Place = omega arith
refusal-some State = omega arith
refusal-some Damaged = omega arith
refusal-some Range = omega arith
refusal-some Shift = omega arith
refusal-some Room = omega arith

-- a plan that moves nothing, and the one value that it hands back, by what its judge answered
pub answered-by : (a : Plan) (m : Memory) (v nothing : Value) (d : Result Unit Refusal) → (done_said d).number ≡ a.number
    → m ≡ memory_after a.deed [] m → v ≡ value_of a.reply m [] m → nothing ≡ blank (value_of a.reply m [] (memory_after a.deed [] m))
    → outcome (said_by (λ x. v) nothing d) m ≡ perform a m
answered-by a m v nothing (Ok x) e s h b = perform-done a m m v e s h
answered-by a m v nothing (Err r) e s h b = perform-refused a m (refusal_number r) nothing (refusal-some r) e b

-- a call that names no counter for its refusals raises none, whatever the number
pub none-raised : (n : ℕ) → refusal_counter n no_counter ≡ no_counter
none-raised n = go (is_counted n)
  where
    go : (t : Bool) → pick t no_counter no_counter ≡ no_counter
    go true = refl
    go false = refl

-- ---- what an accepted check says

pub both : (a b : Bool) → (a && b) ≡ true → (a ≡ true) × (b ≡ true)
both true b e = (refl, e)
both false b e = absurd (let z : ◌≡◌ {A = ℕ} 0 1 = cc in omega arith)

-- of a test for refusal r + 1
pub refuse-0 : (b : Bool) (r n : ℕ) → refuse b (suc r) n ≡ 0 → (b ≡ true) × (n ≡ 0)
refuse-0 true r n e = (refl, e)
refuse-0 false r n e = absurd (omega arith)

pub sound-facts : (h : Shape) → sound h ≡ true → Sound h
unfolding sound
sound-facts h e =
    let a = both _ _ e in
    let b = both _ _ a.1 in
    let c = both _ _ b.1 in
    let d = both _ _ c.1 in
    let f = both _ _ d.1 in
    record {
      some = ltb-true _ _ a.0;
      most = leb-true _ _ b.0;
      same1 = eqb-true _ _ c.0;
      same2 = eqb-true _ _ d.0;
      same3 = eqb-true _ _ f.0;
      eightfold = eqb-true _ _ f.1;
    }

-- an offset, a plane's number or a pixel place within lengths that are as they should be
pub record AtOffset (h : Shape) (o : ℕ) : Type 0 where
  pub shaped : Sound h
  pub offset : o < size h

pub record AtPlane (h : Shape) (p o : ℕ) : Type 0 where
  pub shaped : Sound h
  pub plane : p ≤ 3
  pub offset : o < size h

pub record AtPlace (h : Shape) (j : ℕ) : Type 0 where
  pub shaped : Sound h
  pub place : j < h.picture

module _ (h : Shape) where
  pub offset-accepted : (o : ℕ) → offset_number h o ≡ 0 → AtOffset h o
  unfolding offset_number
  offset-accepted o e =
      let a = refuse-0 _ 0 _ e in
      let b = refuse-0 _ 2 _ a.1 in
      record { shaped = sound-facts h a.0; offset = ltb-true _ _ b.0 }

  pub shown-accepted : (o : ℕ) → shown_number h o ≡ 0 → AtOffset h o
  unfolding shown_number
  shown-accepted o e =
      let a = refuse-0 _ 0 _ e in
      let b = refuse-0 _ 4 _ a.1 in
      record { shaped = sound-facts h a.0; offset = ltb-true _ _ b.0 }

  pub plane-accepted : (p o : ℕ) → plane_number h p o ≡ 0 → AtPlane h p o
  unfolding plane_number
  plane-accepted p o e =
      let a = refuse-0 _ 0 _ e in
      let b = refuse-0 _ 3 _ a.1 in
      let c = refuse-0 _ 2 _ b.1 in
      record { shaped = sound-facts h a.0; plane = leb-true _ _ b.0; offset = ltb-true _ _ c.0 }

  pub place-accepted : (j : ℕ) → place_number h j ≡ 0 → AtPlace h j
  unfolding place_number
  place-accepted j e =
      let a = refuse-0 _ 0 _ e in
      let b = refuse-0 (ltb j (8 * size h)) 4 _ a.1 in
      let s = sound-facts h a.0 in
      record { shaped = s; place = omega (arith, ltb-true j (8 * size h) b.0) }

  pub access-accepted : (r : GraphicsRegisters) (s : Sequencer) (x : ℕ) (page : Bool) → access_number r s h x page ≡ 0 → AtOffset h (offset r x page)
  unfolding access_number
  access-accepted r s x page e =
      let a = refuse-0 (fits_both r s) 5 _ e in
      let b = refuse-0 (sound h) 0 _ a.1 in
      let c = refuse-0 (in_window (memory_map r) x) 1 _ b.1 in
      let d = refuse-0 _ 2 _ c.1 in
      record { shaped = sound-facts h b.0; offset = ltb-true _ _ d.0 }

-- ---- where chain-four leads: never past the offset that was judged, so within the plane where that is

pub stored-at-le : (s : Sequencer) (o : ℕ) → stored_at s o ≤ o
unfolding stored_at
stored-at-le s o = go (chain_four s)
  where
    go : (b : Bool) → pick b (o / 4 * 4) o ≤ o
    go true = omega arith
    go false = omega arith

pub stored-at-lt : (s : Sequencer) (o : ℕ) {at n : ℕ} → at ≡ stored_at s o → o < n → at < n
stored-at-lt s o e h = omega (arith, stored-at-le s o)

-- ---- a store, plane by plane

-- the planes below k that the test names
abbrev pub below : ℕ → (ℕ → Bool) → ℕ → Bool
below k w q = ltb q k && w q

module _ (o : ℕ) (w : ℕ → Bool) (b : ℕ → ℕ) (m : Memory) where
  pub laid_none : laid o (below 0 w) b m ≡ m
  unfolding laid
  laid_none = refl

  pub laid-all : laid o (below 4 w) b m ≡ laid o w b m
  unfolding laid
  laid-all = refl

  -- one plane more, where the test names it
  pub laid_more : (k : ℕ) → k < 4 → w k ≡ true → laid o (λ q. eqb q k) b (laid o (below k w) b m) ≡ laid o (below (suc k) w) b m
  unfolding laid
  laid_more zero h e = rw e
  laid_more (suc zero) h e = rw e
  laid_more (suc (suc zero)) h e = rw e
  laid_more (suc (suc (suc zero))) h e = rw e
  laid_more (suc (suc (suc (suc k)))) h e = absurd (omega arith)

  pub laid-skip : (k : ℕ) → k < 4 → w k ≡ false → laid o (below k w) b m ≡ laid o (below (suc k) w) b m
  unfolding laid
  laid-skip zero h e = rw e
  laid-skip (suc zero) h e = rw e
  laid-skip (suc (suc zero)) h e = rw e
  laid-skip (suc (suc (suc zero))) h e = rw e
  laid-skip (suc (suc (suc (suc k)))) h e = absurd (omega arith)

-- a store that the mask stopped at every plane remakes no pixel
pub stored-nowhere : (o : ℕ) (b : ℕ → ℕ) (m : Memory) → stored o (λ _. false) b m ≡ m
unfolding stored
stored-nowhere o b m = refl

-- a store of plane p alone, of those that a test names: where it names p, the byte and then its pixels; else nothing
module _ (o p : ℕ) (w : ℕ → Bool) (b : ℕ → ℕ) (m : Memory) (h : p ≤ 3) where
  pub stored_one : w p ≡ true → remade o (laid o (λ q. eqb q p) b m) ≡ stored o (λ q. eqb q p && w q) b m
  unfolding stored laid
  stored_one e = go p h e
    where
      go : (p : ℕ) → p ≤ 3 → w p ≡ true → remade o (laid o (λ q. eqb q p) b m) ≡ stored o (λ q. eqb q p && w q) b m
      go zero l e = rw e
      go (suc zero) l e = rw e
      go (suc (suc zero)) l e = rw e
      go (suc (suc (suc zero))) l e = rw e
      go (suc (suc (suc (suc q)))) l e = absurd (omega arith)

  pub stored-none : w p ≡ false → m ≡ stored o (λ q. eqb q p && w q) b m
  unfolding stored
  stored-none e = go p h e
    where
      go : (p : ℕ) → p ≤ 3 → w p ≡ false → m ≡ stored o (λ q. eqb q p && w q) b m
      go zero l e = rw e
      go (suc zero) l e = rw e
      go (suc (suc zero)) l e = rw e
      go (suc (suc (suc zero))) l e = rw e
      go (suc (suc (suc (suc q)))) l e = absurd (omega arith)

-- ---- lengths: bytes laid move none

laid_length : (t : Bool) (l : List ℕ) (o x : ℕ) → length (pick t (set l o x) l) ≡ length l
laid_length true l o x = length-set l o x
laid_length false l o x = refl

pub laid_shape : (o : ℕ) (w : ℕ → Bool) (b : ℕ → ℕ) (m : Memory) → shape (laid o w b m) ≡ shape m
unfolding laid
laid_shape o w b m =
    rw (laid_length (w 0) m.p0 o (b 0), laid_length (w 1) m.p1 o (b 1), laid_length (w 2) m.p2 o (b 2), laid_length (w 3) m.p3 o (b 3))

-- what an inner function asks for holds after it
pub laid_within : (o : ℕ) (w : ℕ → Bool) (b : ℕ → ℕ) (m m' : Memory) (k : ℕ) → m' ≡ laid o w b m → Shaped m → k < length m.p0 → Shaped m' × (k < length m'.p0)
laid_within o w b m m' k e h l =
    let same : shape m' ≡ shape m = ap shape e ∙ laid_shape o w b m in
    let P : Shape → Type 0 = λ s. Sound s × (k < size s) in
    subst P (sym same) (h, l)

-- ---- a show's pixels

-- eight entries are the list
pub eight-entries : (l : List ℕ) → length l ≡ 8 → get_or l 0 0 ∷ get_or l 1 0 ∷ get_or l 2 0 ∷ get_or l 3 0 ∷ get_or l 4 0 ∷ get_or l 5 0 ∷ get_or l 6 0 ∷ get_or l 7 0 ∷ [] ≡ l
eight-entries [] h = absurd (omega (arith, h))
eight-entries (x0 ∷ []) h = absurd (omega (arith, h))
eight-entries (x0 ∷ x1 ∷ []) h = absurd (omega (arith, h))
eight-entries (x0 ∷ x1 ∷ x2 ∷ []) h = absurd (omega (arith, h))
eight-entries (x0 ∷ x1 ∷ x2 ∷ x3 ∷ []) h = absurd (omega (arith, h))
eight-entries (x0 ∷ x1 ∷ x2 ∷ x3 ∷ x4 ∷ []) h = absurd (omega (arith, h))
eight-entries (x0 ∷ x1 ∷ x2 ∷ x3 ∷ x4 ∷ x5 ∷ []) h = absurd (omega (arith, h))
eight-entries (x0 ∷ x1 ∷ x2 ∷ x3 ∷ x4 ∷ x5 ∷ x6 ∷ []) h = absurd (omega (arith, h))
eight-entries (x0 ∷ x1 ∷ x2 ∷ x3 ∷ x4 ∷ x5 ∷ x6 ∷ x7 ∷ []) h = refl
eight-entries (x0 ∷ x1 ∷ x2 ∷ x3 ∷ x4 ∷ x5 ∷ x6 ∷ x7 ∷ x8 ∷ l) h = absurd (omega (arith, h))
