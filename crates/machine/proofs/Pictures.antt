-- Pixels: a picture that matched the planes still does (`picture-matches`); no pixel but the stored offset's eight moves (`pixels-stay`).
use Prim.Native.Nat.{ℕ, zero, suc, ◌+◌, ◌*◌, ◌-◌, ◌/◌, ◌%◌, ◌<◌, ◌≤◌}
use native.Mathlib.Decide.{ℕ_discrete, dec_lt}
use native.Mathlib.Omega.{arith}
use mathlib.Core.Logic.{◌≢◌}
use mathlib.Core.Path.{◌≡◌, refl, sym, ap, ◌∙◌}
use mathlib.Core.Bool.{Bool, true, false}
use mathlib.Core.List.{List, [], ◌∷◌}
use lib.ListN.{length, get_or, set}
use lib.Seq.{sets, length-sets, get_or-set_same, get_or-set_other, lt-length-set}
use Rattle.bits.specs.Bit.{bit, pick}
use Rattle.bits.proofs.Laws.{of-ext}
use Rattle.machine.specs.Memory.{Memory, plane, shape}
use Rattle.machine.specs.Answers.{Value, answered}
use Rattle.machine.specs.Deeds.{Deed, rest, load, store, remake, byte, pixel_of, eight, remade, stored_byte, laid, any, stored, memory_after, perform}
use Rattle.machine.specs.Calls.{vram_plan, direct_plan, cpu_plan}
use Rattle.machine.specs.Step.{vram_step, direct_step, cpu_step, Device, cpu_refused, State, Call, vram, sequencer, direct, graphics, cpu, step, run}
use Rattle.machine.specs.Isolation.{Accepted}
use Rattle.machine.specs.Claims.{Matches, MovesAt, deed_of}
use Rattle.machine.proofs.Laws.{answered-number}

-- ---- entries laid into a list from a place on

module _ (d : ℕ) where
  sets-before : (v l : List ℕ) (i j : ℕ) → j < i → get_or (sets l i v) j d ≡ get_or l j d
  sets-before [] l i j h = refl
  sets-before (x ∷ v) l i j h = sets-before v (set l i x) (suc i) j (omega arith) ∙ get_or-set_other l i j x d λ e. omega arith

  sets-past : (v l : List ℕ) (i j : ℕ) → i + length v ≤ j → get_or (sets l i v) j d ≡ get_or l j d
  sets-past [] l i j h = refl
  sets-past (x ∷ v) l i j h = sets-past v (set l i x) (suc i) j (omega arith) ∙ get_or-set_other l i j x d λ e. omega arith

  sets-within : (v l : List ℕ) (i k : ℕ) → k < length v → i + k < length l → get_or (sets l i v) (i + k) d ≡ get_or v k d
  sets-within [] l i k h b = absurd (omega arith)
  sets-within (x ∷ v) l i zero h b =
      ap (λ (j : ℕ). get_or (sets (set l i x) (suc i) v) j d) {x = i + 0} {y = i} (omega arith)
      ∙ sets-before v (set l i x) (suc i) i (omega arith)
      ∙ get_or-set_same l i x d (omega arith)
  sets-within (x ∷ v) l i (suc k) h b =
      ap (λ (j : ℕ). get_or (sets (set l i x) (suc i) v) j d) {x = i + suc k} {y = suc i + k} (omega arith)
      ∙ sets-within v (set l i x) (suc i) k (omega arith) (lt-length-set l i x (omega arith))

eight-at : (f : ℕ → ℕ) (k : ℕ) → k < 8 → get_or (eight f) k 0 ≡ f k
eight-at f zero h = refl
eight-at f (suc zero) h = refl
eight-at f (suc (suc zero)) h = refl
eight-at f (suc (suc (suc zero))) h = refl
eight-at f (suc (suc (suc (suc zero)))) h = refl
eight-at f (suc (suc (suc (suc (suc zero))))) h = refl
eight-at f (suc (suc (suc (suc (suc (suc zero)))))) h = refl
eight-at f (suc (suc (suc (suc (suc (suc (suc zero))))))) h = refl
eight-at f (suc (suc (suc (suc (suc (suc (suc (suc k)))))))) h = absurd (omega arith)

module _ (l : List ℕ) (o : ℕ) (f : ℕ → ℕ) (j : ℕ) where
  -- the pixel at a place of the offset is made anew; any other stays
  pixel-here : j < length l → j / 8 ≡ o → get_or (sets l (8 * o) (eight f)) j 0 ≡ f (j % 8)
  pixel-here h e =
      let split : j ≡ 8 * o + j % 8 = omega arith in
      ap (λ (i : ℕ). get_or (sets l (8 * o) (eight f)) i 0) split
      ∙ sets-within 0 (eight f) l (8 * o) (j % 8) (omega arith) (omega arith)
      ∙ eight-at f (j % 8) (omega arith)

  pixel-other : j / 8 ≢ o → get_or (sets l (8 * o) (eight f)) j 0 ≡ get_or l j 0
  pixel-other ne = go (dec_lt j (8 * o))
    where
      go : Dec (j < 8 * o) → get_or (sets l (8 * o) (eight f)) j 0 ≡ get_or l j 0
      go (yes h) = sets-before 0 (eight f) l (8 * o) j h
      go (no n) = sets-past 0 (eight f) l (8 * o) j (omega (arith, n, ne))

-- ---- deeds

pixel-same : (m n : Memory) (o i : ℕ) → ((p : ℕ) → byte m p o ≡ byte n p o) → pixel_of m o i ≡ pixel_of n o i
unfolding pixel_of
pixel-same m n o i e = of-ext 4 λ p h. ap (bit (7 - i)) (e p)

remade-plane : (m : Memory) (o p : ℕ) → plane m p ≡ plane (remade o m) p
unfolding remade
remade-plane m o zero = refl
remade-plane m o (suc zero) = refl
remade-plane m o (suc (suc zero)) = refl
remade-plane m o (suc (suc (suc zero))) = refl
remade-plane m o (suc (suc (suc (suc p)))) = refl

-- bytes at other offsets stay
laid-byte : (m : Memory) (o : ℕ) (w : ℕ → Bool) (b : ℕ → ℕ) (q : ℕ) → q ≢ o → (p : ℕ) → byte m p q ≡ byte (laid o w b m) p q
unfolding laid
laid-byte m o w b q ne = go
  where
    one : (t : Bool) (p : ℕ) → byte m p q ≡ get_or (pick t (set (plane m p) o (b p)) (plane m p)) q 0
    one true p = sym (get_or-set_other (plane m p) o q (b p) 0 ne)
    one false p = refl

    go : (p : ℕ) → byte m p q ≡ byte (laid o w b m) p q
    go zero = one (w 0) 0
    go (suc zero) = one (w 1) 1
    go (suc (suc zero)) = one (w 2) 2
    go (suc (suc (suc zero))) = one (w 3) 3
    go (suc (suc (suc (suc p)))) = refl

-- a memory whose picture matches but at one offset matches once that is remade
module _ (m : Memory) (o : ℕ) (h : (j : ℕ) → j < length m.picture → j / 8 ≢ o → get_or m.picture j 0 ≡ pixel_of m (j / 8) (j % 8)) where
  remade-matches : Matches (remade o m)
  unfolding Matches remade
  remade-matches j l = go (ℕ_discrete (j / 8) o)
    where
      long : j < length m.picture
      long = omega (arith, l, length-sets m.picture (8 * o) (eight (pixel_of m o)))

      same : (q : ℕ) → pixel_of m q (j % 8) ≡ pixel_of (remade o m) q (j % 8)
      same q = pixel-same m (remade o m) q (j % 8) λ p. ap (λ (u : List ℕ). get_or u q 0) (remade-plane m o p)

      go : Dec (j / 8 ≡ o) → get_or (sets m.picture (8 * o) (eight (pixel_of m o))) j 0 ≡ pixel_of (remade o m) (j / 8) (j % 8)
      go (yes e) = pixel-here m.picture o (pixel_of m o) j long e ∙ same o ∙ ap (λ (q : ℕ). pixel_of (remade o m) q (j % 8)) (sym e)
      go (no ne) = pixel-other m.picture o (pixel_of m o) j ne ∙ h j long ne ∙ same (j / 8)

stored-matches : (m : Memory) (o : ℕ) (w : ℕ → Bool) (b : ℕ → ℕ) → Matches m → Matches (stored o w b m)
unfolding stored Matches laid
stored-matches m o w b h = go (any w)
  where
    go : (t : Bool) → Matches (pick t (remade o (laid o w b m)) m)
    go true = remade-matches (laid o w b m) o λ j l ne. h j l ∙ pixel-same m (laid o w b m) (j / 8) (j % 8) (laid-byte m o w b (j / 8) ne)
    go false = h

after-matches : (d : Deed) (l : List ℕ) (m : Memory) → Matches m → Matches (memory_after d l m)
unfolding memory_after Matches
after-matches rest l m h = h
after-matches (load o) l m h = h
after-matches (store o w f) l m h = stored-matches m o w (stored_byte o f l m) h
after-matches (remake o) l m h = remade-matches m o λ j b ne. h j b

-- what holds of both ends of an answer holds of what it leaves
answered-next : {S : Type 0} (P : S → Type 0) (n : ℕ) (v : Value) (new old : S) → (n ≡ 0 → P new) → P old → P (answered n v new old).next
answered-next P zero v new old a b = a refl
answered-next P (suc n) v new old a b = b

step-matches : (s : State) (c : Call) → Matches s.memory → Matches (step s c).next.memory
unfolding step vram_step direct_step cpu_step perform
step-matches s (vram c) h = answered-next Matches (vram_plan (shape s.memory) c).number _ _ s.memory (λ z. after-matches (vram_plan (shape s.memory) c).deed [] s.memory h) h
step-matches s (sequencer c) h = h
step-matches s (direct c) h =
    answered-next Matches (direct_plan s.seq (shape s.memory) c).number _ _ s.memory (λ z. after-matches (direct_plan s.seq (shape s.memory) c).deed [] s.memory h) h
step-matches s (graphics c) h = h
step-matches s (cpu c) h =
    let a = cpu_plan s.gc.registers s.seq (shape s.memory) c in
    answered-next (λ (d : Device). Matches d.memory) a.ask.number _ _ (cpu_refused a s.gc s.memory) (λ z. after-matches a.ask.deed s.gc.latches s.memory h) h

pub picture-matches : (cs : List Call) (s : State) → Matches s.memory → Matches (run s cs).final.memory
unfolding run
picture-matches [] s h = h
picture-matches (c ∷ cs) s h = picture-matches cs (step s c).next (step-matches s c h)

-- ---- pixels that stay

after-stays : (d : Deed) (l : List ℕ) (m : Memory) (j : ℕ) → (MovesAt d (j / 8) → ⊥) → get_or (memory_after d l m).picture j 0 ≡ get_or m.picture j 0
unfolding memory_after MovesAt stored remade laid
after-stays rest l m j h = refl
after-stays (load o) l m j h = refl
after-stays (store o w f) l m j h = go (any w) refl
  where
    go : (t : Bool) → any w ≡ t → get_or (pick t (remade o (laid o w (stored_byte o f l m) m)) m).picture j 0 ≡ get_or m.picture j 0
    go true e = pixel-other m.picture o (pixel_of (laid o w (stored_byte o f l m) m) o) j λ q. h (e, q)
    go false e = refl
after-stays (remake o) l m j h = pixel-other m.picture o (pixel_of m o) j h

pub pixels-stay : (s : State) (c : Call) (j : ℕ) → (Accepted s c → MovesAt (deed_of s c) (j / 8) → ⊥)
    → get_or (step s c).next.memory.picture j 0 ≡ get_or s.memory.picture j 0
unfolding step vram_step direct_step cpu_step perform deed_of
pixels-stay s (vram c) j h =
    let a = vram_plan (shape s.memory) c in
    answered-next (λ (m : Memory). get_or m.picture j 0 ≡ get_or s.memory.picture j 0) a.number _ _ s.memory
    (λ z. after-stays a.deed [] s.memory j (h (sym (answered-number a.number _ _ _) ∙ z))) refl
pixels-stay s (sequencer c) j h = refl
pixels-stay s (direct c) j h =
    let a = direct_plan s.seq (shape s.memory) c in
    answered-next (λ (m : Memory). get_or m.picture j 0 ≡ get_or s.memory.picture j 0) a.number _ _ s.memory
    (λ z. after-stays a.deed [] s.memory j (h (sym (answered-number a.number _ _ _) ∙ z))) refl
pixels-stay s (graphics c) j h = refl
pixels-stay s (cpu c) j h =
    let a = cpu_plan s.gc.registers s.seq (shape s.memory) c in
    answered-next (λ (d : Device). get_or d.memory.picture j 0 ≡ get_or s.memory.picture j 0) a.ask.number _ _ (cpu_refused a s.gc s.memory)
    (λ z. after-stays a.ask.deed s.gc.latches s.memory j (h (sym (answered-number a.ask.number _ _ _) ∙ z))) refl
