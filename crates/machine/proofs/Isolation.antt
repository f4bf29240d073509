-- Demand 3: two runs alike but for plane k stay so. Proved once over deeds and replies, whatever the number of calls.
use Prim.Native.Nat.{ℕ, zero, suc, ◌*◌, ◌-◌, ◌/◌, ◌<◌}
use native.Mathlib.Decide.{dec_lt, ℕ_discrete}
use native.Mathlib.Omega.{arith}
use mathlib.Core.Logic.{◌≢◌}
use mathlib.Core.Path.{◌≡◌, refl, sym, ap, ap₂, ◌∙◌, subst, fun_ext}
use mathlib.Core.Bool.{Bool, true, false}
use mathlib.Core.List.{List, [], ◌∷◌}
use lib.ListN.{length, get_or, set, take, drop, length-set}
use lib.Seq.{sets}
use Rattle.bits.specs.Bit.{bit, of_bits, bit_of, pick, every}
use Rattle.bits.proofs.Laws.{bit-lt, bit-of, bit_high, of_lt, of-ext}
use Rattle.machine_types.specs.declared.gc.GraphicsController.{GraphicsController}
use Rattle.machine_types.specs.declared.gc.GraphicsRegisters.{GraphicsRegisters}
use Rattle.machine_types.specs.declared.gc.ReadMode.{ReadMode}
use Rattle.machine_types.specs.declared.gc.ReadMode.TheVariants.{ReadSelectedPlane, ReadComparedPlanes}
use Rattle.machine_types.specs.declared.gc.ShiftMode.{ShiftMode}
use Rattle.machine_types.specs.declared.gc.ShiftMode.TheVariants.{Standard, CGACompatible, Chain4, Unused}
use Rattle.machine_types.specs.declared.seq.Sequencer.{Sequencer}
use Rattle.machine_types.specs.declared.shape.Shape.{Shape}
use Rattle.machine.specs.Memory.{Memory, plane, planes, shape}
use Rattle.machine.specs.Answers.{Value, blank, Outcome, answered}
use Rattle.machine.specs.Graphics.{gc_of, read_mode, with_address, with_data}
use Rattle.machine.specs.Address.{offset}
use Rattle.machine.specs.Deeds.{Deed, rest, load, store, remake, Reply, known, byte_at, compare, pixel_at, pixels_at, changes_at, shown_at, Plan, byte, latch, loaded, pixel_of, eight}
use Rattle.machine.specs.Deeds.{remade, stored_byte, laid, any, stored, agrees, compared, changed_bits, changed_at, chain4_pixel, cga_pixel, shown_in, latches_after, memory_after}
use Rattle.machine.specs.Deeds.{value_of, perform}
use Rattle.machine.specs.Calls.{VramCall, read_u8, peek_u8, read_glyph, read_linear, serialize_linear, write_u8, plane_set, plane_and, plane_or, deplane, vram_plan}
use Rattle.machine.specs.Calls.{DirectCall, seq_cpu_read_u8, seq_peek_u8, seq_gc_read_u8, seq_read_linear, seq_serialize_linear, seq_plane_set, seq_plane_and, seq_plane_or, direct_plan}
use Rattle.machine.specs.Calls.{GraphicsCall, gc_reset, gc_chain, gc_chain4, gc_memory_map, gc_odd_even, gc_shift_mode, gc_read_address, gc_read_data, gc_write_address}
use Rattle.machine.specs.Calls.{gc_write_data, gc_map_address, gc_number_of, gc_value, gc_next}
use Rattle.machine.specs.Calls.{CpuCall, cpu_read, cpu_peek, cpu_write, serialize, show_pixels, CpuPlan, cpu_plan, read_reply, refusal_counter, counted}
use Rattle.machine.specs.Step.{vram_step, sequencer_step, direct_step, graphics_step, Device, cpu_after, cpu_refused, cpu_perform, cpu_step, State, Call, vram, sequencer}
use Rattle.machine.specs.Step.{direct, graphics, cpu, lifted, step}
use Rattle.machine.specs.Isolation.{Agree, Both, none, more, AlikeMemory, AlikeLatches, AlikeGc, Alike, VramNotFrom, DirectNotFrom, SelectedNotFrom, CpuNotFrom}
use Rattle.machine.specs.Isolation.{NotFrom, ComparedWithout, CpuWithout, ComparesWithout, CpuNoPeek, NoPeek, Obeys, Along}
use Rattle.machine.specs.Isolation.{AlikePixel, AlikeShow, AlikeValue, same, pixels, parts, numbers, eights, Together, Throughout}
use Rattle.machine.proofs.Laws.{answered-number}

-- ---- lists related entry by entry

module _ {A : Type 0} {R : A → A → Type 0} where
  both-length : {l u : List A} → Both R l u → length l ≡ length u
  both-length none = refl
  both-length (more r h) = ap suc (both-length h)

  both-set : {l u : List A} (i : ℕ) (x y : A) → R x y → Both R l u → Both R (set l i x) (set u i y)
  both-set i x y r none = none
  both-set zero x y r (more q h) = more r h
  both-set (suc i) x y r (more q h) = more q (both-set i x y r h)

  both-sets : {v w l u : List A} (i : ℕ) → Both R v w → Both R l u → Both R (sets l i v) (sets u i w)
  both-sets i none h = h
  both-sets i (more r v) h = both-sets (suc i) v (both-set i _ _ r h)

  both-drop : {l u : List A} (n : ℕ) → Both R l u → Both R (drop n l) (drop n u)
  both-drop zero h = h
  both-drop (suc n) none = none
  both-drop (suc n) (more {l = l} {u = u} r h) = both-drop {l = l} {u = u} n h

  both-take : {l u : List A} (n : ℕ) → Both R l u → Both R (take n l) (take n u)
  both-take zero h = none
  both-take (suc n) none = none
  both-take (suc n) (more {l = l} {u = u} r h) = more r (both-take {l = l} {u = u} n h)

  both_at : {l u : List A} (i : ℕ) (d : A) → R d d → Both R l u → R (get_or l i d) (get_or u i d)
  both_at i d r none = r
  both_at zero d r (more q h) = q
  both_at (suc i) d r (more q h) = both_at i d r h

-- eight pixels related by their place
eight-at : (R : ℕ → ℕ → ℕ → Type 0) (f g : ℕ → ℕ) → ((j : ℕ) → R j 0 0) → ((j : ℕ) → R j (f j) (g j)) → (j : ℕ) → R j (get_or (eight f) j 0) (get_or (eight g) j 0)
eight-at R f g z h zero = h 0
eight-at R f g z h (suc zero) = h 1
eight-at R f g z h (suc (suc zero)) = h 2
eight-at R f g z h (suc (suc (suc zero))) = h 3
eight-at R f g z h (suc (suc (suc (suc zero)))) = h 4
eight-at R f g z h (suc (suc (suc (suc (suc zero))))) = h 5
eight-at R f g z h (suc (suc (suc (suc (suc (suc zero)))))) = h 6
eight-at R f g z h (suc (suc (suc (suc (suc (suc (suc zero))))))) = h 7
eight-at R f g z h (suc (suc (suc (suc (suc (suc (suc (suc j)))))))) = z _

-- ---- plans related: the same but for what plane k's bits may tell

pub data AlikeDeed (k : ℕ) : Deed → Deed → Type 0 where
  rests : AlikeDeed k rest rest
  loads : {o : ℕ} → AlikeDeed k (load o) (load o)
  stores : {o : ℕ} {w : ℕ → Bool} {f g : ℕ → ℕ → ℕ → ℕ → ℕ} → ((p : ℕ) → p ≢ k → (i l x : ℕ) → f p i l x ≡ g p i l x) → AlikeDeed k (store o w f) (store o w g)
  remakes : {o : ℕ} → AlikeDeed k (remake o) (remake o)

pub data AlikeReply (k : ℕ) : Reply → Reply → Type 0 where
  replies : {r : Reply} → AlikeReply k r r

pub record AlikePlan (k : ℕ) (a b : Plan) : Type 0 where
  pub number : a.number ≡ b.number
  pub deed : AlikeDeed k a.deed b.deed
  pub reply : AlikeReply k a.reply b.reply

-- a reply that tells nothing of plane k, but for its bit of pixels, its number of a store and its pixels of a show: it does not answer from it, nor compare over it
unfoldable pub Silent : ℕ → Reply → Type 0
Silent k (known v) = Unit {0}
Silent k (byte_at p o) = p ≢ k
Silent k (compare care colour) = bit k care ≡ 0
Silent k (pixel_at j) = Unit {0}
Silent k (pixels_at j) = Unit {0}
Silent k (changes_at o) = Unit {0}
Silent k (shown_at d o) = Unit {0}

module _ (k : ℕ) where
  agree-self : (x : ℕ) → Agree k x x
  unfolding Agree
  agree-self x b ne = refl

  -- ---- pixels

  pub agree_of : (f g : ℕ → ℕ) → ((p : ℕ) → f p < 2) → ((p : ℕ) → g p < 2) → ((p : ℕ) → p ≢ k → f p ≡ g p) → Agree k (of_bits 4 f) (of_bits 4 g)
  unfolding Agree
  agree_of f g sf sg e b ne = go (dec_lt b 4)
    where
      go : Dec (b < 4) → bit b (of_bits 4 f) ≡ bit b (of_bits 4 g)
      go (yes l) = bit-of 4 f sf b l ∙ e b ne ∙ sym (bit-of 4 g sg b l)
      go (no n) = bit_high 4 b _ (of_lt 4 f sf) (omega (arith, n)) ∙ sym (bit_high 4 b _ (of_lt 4 g sg) (omega (arith, n)))

  both-eight : (f g : ℕ → ℕ) → ((i : ℕ) → Agree k (f i) (g i)) → Both (Agree k) (eight f) (eight g)
  both-eight f g h = more (h 0) (more (h 1) (more (h 2) (more (h 3) (more (h 4) (more (h 5) (more (h 6) (more (h 7) none)))))))

  -- ---- memories made plane by plane

  module _ (f g : ℕ → List ℕ) (e : (p : ℕ) → p ≢ k → f p ≡ g p) (n : (p : ℕ) → length (f p) ≡ length (g p)) (l u : List ℕ) (h : Both (Agree k) l u) where
    pub alike-planes : AlikeMemory k (planes f l) (planes g u)
    alike-planes = record { planes = equal; lengths = long; pictures = h }
      where
        equal : (p : ℕ) → p ≢ k → plane (planes f l) p ≡ plane (planes g u) p
        equal zero ne = e 0 ne
        equal (suc zero) ne = e 1 ne
        equal (suc (suc zero)) ne = e 2 ne
        equal (suc (suc (suc zero))) ne = e 3 ne
        equal (suc (suc (suc (suc p)))) ne = refl

        long : (p : ℕ) → length (plane (planes f l) p) ≡ length (plane (planes g u) p)
        long zero = n 0
        long (suc zero) = n 1
        long (suc (suc zero)) = n 2
        long (suc (suc (suc zero))) = n 3
        long (suc (suc (suc (suc p)))) = refl

  -- ---- the deeds

  module _ (m n : Memory) (a : AlikeMemory k m n) where
    byte-same : (p o : ℕ) → p ≢ k → byte m p o ≡ byte n p o
    byte-same p o ne = rw (a.planes p ne)

    pixel-agree : (o i : ℕ) → Agree k (pixel_of m o i) (pixel_of n o i)
    unfolding pixel_of
    pixel-agree o i = agree_of _ _ (λ p. bit-lt (7 - i) _) (λ p. bit-lt (7 - i) _) λ p ne. ap (bit (7 - i)) (byte-same p o ne)

    remade-alike : (o : ℕ) → AlikeMemory k (remade o m) (remade o n)
    unfolding remade
    remade-alike o = alike-planes (plane m) (plane n) a.planes a.lengths _ _ (both-sets _ (both-eight _ _ (pixel-agree o)) a.pictures)

    laid-alike : (o : ℕ) (w : ℕ → Bool) (b c : ℕ → ℕ) → ((p : ℕ) → p ≢ k → b p ≡ c p) → AlikeMemory k (laid o w b m) (laid o w c n)
    unfolding laid
    laid-alike o w b c e = alike-planes _ _ equal (λ p. long (w p) p (b p) (c p)) _ _ a.pictures
      where
        equal : (p : ℕ) → p ≢ k → pick (w p) (set (plane m p) o (b p)) (plane m p) ≡ pick (w p) (set (plane n p) o (c p)) (plane n p)
        equal p ne = rw (e p ne, a.planes p ne)

        long : (t : Bool) (p x y : ℕ) → length (pick t (set (plane m p) o x) (plane m p)) ≡ length (pick t (set (plane n p) o y) (plane n p))
        long true p x y = simp length-set (a.lengths p)
        long false p x y = a.lengths p

  module _ (m n : Memory) (a : AlikeMemory k m n) where
    stored-alike : (o : ℕ) (w : ℕ → Bool) (b c : ℕ → ℕ) → ((p : ℕ) → p ≢ k → b p ≡ c p) → AlikeMemory k (stored o w b m) (stored o w c n)
    unfolding stored
    stored-alike o w b c e = go (any w)
      where
        go : (t : Bool) → AlikeMemory k (pick t (remade o (laid o w b m)) m) (pick t (remade o (laid o w c n)) n)
        go true = remade-alike (laid o w b m) (laid o w c n) (laid-alike m n a o w b c e) o
        go false = a

    shape_same : shape m ≡ shape n
    shape_same = rw (a.lengths 0, a.lengths 1, a.lengths 2, a.lengths 3, both-length a.pictures) refl

    module _ (l u : List ℕ) (v : AlikeLatches k l u) where
      stored-byte-same : (o : ℕ) (f g : ℕ → ℕ → ℕ → ℕ → ℕ) → ((p : ℕ) → p ≢ k → (i l x : ℕ) → f p i l x ≡ g p i l x)
          → (p : ℕ) → p ≢ k → stored_byte o f l m p ≡ stored_byte o g u n p
      unfolding stored_byte AlikeLatches
      stored-byte-same o f g e p ne = of-ext 8 λ i h. rw (byte-same m n a p o ne, v p ne, e p ne i _ _)

      memory-after : {d e : Deed} → AlikeDeed k d e → AlikeMemory k (memory_after d l m) (memory_after e u n)
      unfolding memory_after
      memory-after rests = a
      memory-after loads = a
      memory-after (stores {o} {w} {f} {g} h) = stored-alike o w _ _ (stored-byte-same o f g h)
      memory-after (remakes {o}) = remade-alike m n a o

      latches-after : {d e : Deed} → AlikeDeed k d e → AlikeLatches k (latches_after d l m) (latches_after e u n)
      unfolding latches_after loaded AlikeLatches
      latches-after rests = v
      latches-after (loads {o}) = go
        where
          go : (p : ℕ) → p ≢ k → latch (loaded m o) p ≡ latch (loaded n o) p
          go zero ne = byte-same m n a 0 o ne
          go (suc zero) ne = byte-same m n a 1 o ne
          go (suc (suc zero)) ne = byte-same m n a 2 o ne
          go (suc (suc (suc zero))) ne = byte-same m n a 3 o ne
          go (suc (suc (suc (suc p)))) ne = refl
      latches-after (stores h) = v
      latches-after remakes = v

      -- ---- the replies

      agrees-same : (care colour i p : ℕ) → bit k care ≡ 0 → agrees care colour l i p ≡ agrees care colour u i p
      unfolding agrees AlikeLatches
      agrees-same care colour i p clear = go (ℕ_discrete p k)
        where
          go : Dec (p ≡ k) → agrees care colour l i p ≡ agrees care colour u i p
          go (yes e) = simp (e, clear)
          go (no ne) = rw (v p ne)

      compared_same : (care colour : ℕ) → bit k care ≡ 0 → compared care colour l ≡ compared care colour u
      unfolding compared
      compared_same care colour clear = of-ext 8 λ i h. ap (λ (f : ℕ → Bool). bit_of (every 4 f)) (fun_ext λ p. agrees-same care colour i p clear)

      -- the four numbers of a store, from the memories before it too
      changed-same : (b d : Memory) → AlikeMemory k b d → (o p : ℕ) → p ≢ k → changed_at b m o p ≡ changed_at d n o p
      unfolding changed_at
      changed-same b d h o p ne = ap₂ changed_bits (byte-same b d h p o ne) (byte-same m n a p o ne)

      -- the pixels of a show: those of the picture but for bit k, those of planes but for plane k's
      picture-shown : (o : ℕ) → Both (Agree k) (shown_in Standard m o) (shown_in Standard n o)
      unfolding shown_in
      picture-shown o = both-take 8 (both-drop (8 * o) a.pictures)

      shown-alike : (d : ShiftMode) (o : ℕ) → AlikeShow k d (shown_in d m o) (shown_in d n o)
      unfolding shown_in AlikePixel cga_pixel chain4_pixel
      shown-alike Standard o = record { long = both-length (picture-shown o); at = λ j. both_at j 0 (agree-self 0) (picture-shown o) }
      shown-alike CGACompatible o = record { long = refl; at = eight-at (AlikePixel k CGACompatible) (cga_pixel m o) (cga_pixel n o) (λ j ne. refl) λ j ne. rw (a.planes (j / 4) ne) }
      shown-alike Chain4 o = record { long = refl; at = eight-at (AlikePixel k Chain4) (chain4_pixel m o) (chain4_pixel n o) (λ j ne. refl) λ j ne. rw (a.planes (j / 2) ne) }
      shown-alike Unused o = record { long = both-length (picture-shown o); at = λ j. both_at j 0 (agree-self 0) (picture-shown o) }

      value_same : {q r : Reply} → AlikeReply k q r → Silent k q → (b d : Memory) → AlikeMemory k b d → AlikeValue k (value_of q b l m) (value_of r d u n)
      unfolding value_of Silent
      value_same (replies {r}) h b d e = go r h
        where
          go : (r : Reply) → Silent k r → AlikeValue k (value_of r b l m) (value_of r d u n)
          go (known w) h = same
          go (byte_at p o) h = rw (byte-same m n a p o h) same
          go (compare care colour) h = rw (compared_same care colour h) same
          go (pixel_at j) h = pixels (both_at j 0 (agree-self 0) a.pictures)
          go (pixels_at j) h = parts (both-take 8 (both-drop j a.pictures))
          go (changes_at o) h = numbers (changed-same b d e o)
          go (shown_at d o) h = eights (shown-alike d o)

      -- a refusal's value does not depend on what was read
      blank-same : {q r : Reply} → AlikeReply k q r → (b d : Memory) → blank (value_of q b l m) ≡ blank (value_of r d u n)
      unfolding value_of
      blank-same (replies {r}) b d = go r
        where
          go : (r : Reply) → blank (value_of r b l m) ≡ blank (value_of r d u n)
          go (known w) = refl
          go (byte_at p o) = refl
          go (compare care colour) = refl
          go (pixel_at j) = refl
          go (pixels_at j) = refl
          go (changes_at o) = refl
          go (shown_at d o) = refl

  -- ---- one plan, two answers

  module _ {S : Type 0} (R : S → S → Type 0) (v w : Value) (new new' old old' : S) where
    answered-alike : (c d : ℕ) → c ≡ d → (c ≡ 0 → AlikeValue k v w) → blank v ≡ blank w → R new new' → R old old' → Together k R (answered c v new old) (answered d w new' old')
    answered-alike zero d e hv hb hn ho = rw (← e) record { answer = record { number = refl; value = hv refl }; next = hn }
    answered-alike (suc c) d e hv hb hn ho = rw (← e) record { answer = record { number = refl; value = subst (AlikeValue k (blank v)) hb same }; next = ho }

  no-latches : AlikeLatches k [] []
  unfolding AlikeLatches
  no-latches p ne = refl

  performed : (a b : Plan) → AlikePlan k a b → (m n : Memory) → AlikeMemory k m n → (a.number ≡ 0 → Silent k a.reply) → Together k (AlikeMemory k) (perform a m) (perform b n)
  unfolding perform
  performed a b q m n h s =
      let after = memory-after m n h [] [] no-latches q.deed in
      answered-alike (AlikeMemory k) _ _ _ _ m n a.number b.number q.number
      (λ z. value_same _ _ after [] [] no-latches q.reply (s z) m n h) (blank-same _ _ after [] [] no-latches q.reply m n) after h

  record AlikeDevice (d e : Device) : Type 0 where
    gc : AlikeGc k d.gc e.gc
    memory : AlikeMemory k d.memory e.memory

  module _ (g h : GraphicsController) (m n : Memory) (c : AlikeGc k g h) (e : AlikeMemory k m n) where
    -- both raise the same counter, where they are accepted and where they are refused
    cpu-performed : (a b : CpuPlan) → AlikePlan k a.ask b.ask → a.counter ≡ b.counter → a.turned_away ≡ b.turned_away → (a.ask.number ≡ 0 → Silent k a.ask.reply)
        → Together k AlikeDevice (cpu_perform a g m) (cpu_perform b h n)
    cpu-performed a b q i j s =
        let after = memory-after m n e g.latches h.latches c.latches q.deed in
        let held = latches-after m n e g.latches h.latches c.latches q.deed in
        answered-alike AlikeDevice _ _ (cpu_after a g m) (cpu_after b h n) (cpu_refused a g m) (cpu_refused b h n) a.ask.number b.ask.number q.number
        (λ z. value_same _ _ after _ _ held q.reply (s z) m n e) (blank-same _ _ after _ _ held q.reply m n)
        (record { gc = record { registers = c.registers; stats = ap₂ counted i c.stats; latches = held }; memory = after })
        (record { gc = record { registers = c.registers; stats = ap₂ counted (ap₂ refusal_counter q.number j) c.stats; latches = c.latches }; memory = e })

  -- ---- the plans of two alike states

  deed-self : (d : Deed) → AlikeDeed k d d
  deed-self rest = rests
  deed-self (load o) = loads
  deed-self (store o w f) = stores λ p ne i l x. refl
  deed-self (remake o) = remakes

  plan-self : (a : Plan) → AlikePlan k a a
  plan-self a = record { number = refl; deed = deed-self a.deed; reply = replies }

  plan-alike : (a b : Plan) → a ≡ b → AlikePlan k a b
  plan-alike a b e = subst (AlikePlan k a) e (plan-self a)

  module _ (g h : GraphicsController) (a : AlikeGc k g h) where
    -- the ports move registers alone; a reset leaves the same record in both
    ported : (f : GraphicsRegisters → GraphicsRegisters) → AlikeGc k (gc_of (f g.registers) g.stats g.latches) (gc_of (f h.registers) h.stats h.latches)
    ported f = record { registers = record { same = ap f a.registers.same }; stats = a.stats; latches = a.latches }

    next-alike : (c : GraphicsCall) → AlikeGc k (gc_next g c) (gc_next h c)
    unfolding gc_next AlikeLatches
    next-alike gc_reset = record { registers = record { same = refl }; stats = refl; latches = λ p ne. refl }
    next-alike gc_chain = a
    next-alike gc_chain4 = a
    next-alike gc_memory_map = a
    next-alike gc_odd_even = a
    next-alike gc_shift_mode = a
    next-alike gc_read_address = a
    next-alike gc_read_data = a
    next-alike (gc_write_address x) = ported (with_address x)
    next-alike (gc_write_data x) = ported (with_data x)
    next-alike (gc_map_address x page) = a

    graphics-alike : (c : GraphicsCall) → Together k (AlikeGc k) (graphics_step g c) (graphics_step h c)
    unfolding graphics_step
    graphics-alike c =
        let value = ap (λ r. gc_value r c) a.registers.same in
        answered-alike (AlikeGc k) _ _ _ _ g h (gc_number_of g.registers c) (gc_number_of h.registers c) (ap (λ r. gc_number_of r c) a.registers.same)
        (λ z. rw value same) (ap blank value) (next-alike c) a

  -- ---- one call

  -- an accepted call's reply is silent on plane k
  unfoldable pub Permitted : State → Call → Type 0
  Permitted s (vram c) = (vram_plan (shape s.memory) c).number ≡ 0 → Silent k (vram_plan (shape s.memory) c).reply
  Permitted s (sequencer c) = Unit {0}
  Permitted s (direct c) = (direct_plan s.seq (shape s.memory) c).number ≡ 0 → Silent k (direct_plan s.seq (shape s.memory) c).reply
  Permitted s (graphics c) = Unit {0}
  Permitted s (cpu c) = (cpu_plan s.gc.registers s.seq (shape s.memory) c).ask.number ≡ 0 → Silent k (cpu_plan s.gc.registers s.seq (shape s.memory) c).ask.reply

  lifted-alike : {S T : Type 0} {R : S → S → Type 0} {Q : T → T → Type 0} (f g : S → T) (o u : Outcome S) → ((x y : S) → R x y → Q (f x) (g y))
      → Together k R o u → Together k Q (lifted f o) (lifted g u)
  lifted-alike f g o u h t = record { answer = t.answer; next = h _ _ t.next }

  module _ (s t : State) (a : Alike k s t) where
    vram-same : (c : VramCall) → vram_plan (shape s.memory) c ≡ vram_plan (shape t.memory) c
    vram-same c = ap (λ h. vram_plan h c) (shape_same _ _ a.memory)

    direct-same : (c : DirectCall) → direct_plan s.seq (shape s.memory) c ≡ direct_plan t.seq (shape t.memory) c
    direct-same c = ap₂ (λ q h. direct_plan q h c) a.seq (shape_same _ _ a.memory)

    cpu-same : (c : CpuCall) → cpu_plan s.gc.registers s.seq (shape s.memory) c ≡ cpu_plan t.gc.registers t.seq (shape t.memory) c
    cpu-same c = ap₂ (λ r q. cpu_plan r q (shape s.memory) c) a.gc.registers.same a.seq ∙ ap (λ h. cpu_plan t.gc.registers t.seq h c) (shape_same _ _ a.memory)

    step-together : (c : Call) → Permitted s c → Together k (Alike k) (step s c) (step t c)
    unfolding step Permitted vram_step sequencer_step direct_step cpu_step
    step-together (vram c) h =
        lifted-alike _ _ _ _ (λ x y e. record { gc = a.gc; seq = a.seq; memory = e })
        (performed _ _ (plan-alike _ _ (vram-same c)) s.memory t.memory a.memory h)
    step-together (sequencer c) h =
        lifted-alike _ _ _ _ (λ x y e. record { gc = a.gc; seq = e; memory = a.memory })
        (subst (λ q. Together k ◌≡◌ (sequencer_step s.seq c) (sequencer_step q c)) a.seq (record { answer = record { number = refl; value = same }; next = refl }))
    step-together (direct c) h =
        lifted-alike _ _ _ _ (λ x y e. record { gc = a.gc; seq = a.seq; memory = e })
        (performed _ _ (plan-alike _ _ (direct-same c)) s.memory t.memory a.memory h)
    step-together (graphics c) h =
        lifted-alike _ _ _ _ (λ x y e. record { gc = e; seq = a.seq; memory = a.memory }) (graphics-alike s.gc t.gc a.gc c)
    step-together (cpu c) h =
        lifted-alike _ _ _ _ (λ x y e. record { gc = e.gc; seq = a.seq; memory = e.memory })
        (cpu-performed s.gc t.gc s.memory t.memory a.gc a.memory _ _
        (plan-alike _ _ (ap (λ p. p.ask) (cpu-same c))) (ap (λ p. p.counter) (cpu-same c)) (ap (λ p. p.turned_away) (cpu-same c)) h)

  -- ---- the mission's premise makes each reply silent

  vram-silent : (h : Shape) (c : VramCall) → VramNotFrom k c → Silent k (vram_plan h c).reply
  unfolding VramNotFrom vram_plan Silent
  vram-silent h (read_u8 p o) n = n
  vram-silent h (peek_u8 p o) n = n
  vram-silent h (read_glyph o) n = n
  vram-silent h (read_linear j) n = tt
  vram-silent h (serialize_linear o) n = tt
  vram-silent h (write_u8 p o x) n = tt
  vram-silent h (plane_set p o x) n = tt
  vram-silent h (plane_and p o x) n = tt
  vram-silent h (plane_or p o x) n = tt
  vram-silent h (deplane o) n = tt

  direct-silent : (s : Sequencer) (h : Shape) (c : DirectCall) → DirectNotFrom k c → Silent k (direct_plan s h c).reply
  unfolding DirectNotFrom direct_plan Silent
  direct-silent s h (seq_cpu_read_u8 p o a) n = n
  direct-silent s h (seq_peek_u8 p o a) n = n
  direct-silent s h (seq_gc_read_u8 p o a) n = n
  direct-silent s h (seq_read_linear j) n = tt
  direct-silent s h (seq_serialize_linear o) n = tt
  direct-silent s h (seq_plane_set p o a x) n = tt
  direct-silent s h (seq_plane_and p o a x) n = tt
  direct-silent s h (seq_plane_or p o a x) n = tt

  read-silent : (d : ReadMode) (r : GraphicsRegisters) (s : Sequencer) (x o : ℕ) → SelectedNotFrom k d r s x o → ComparedWithout k d r → Silent k (read_reply d r s x o)
  unfolding SelectedNotFrom ComparedWithout read_reply Silent
  read-silent ReadSelectedPlane r s x o n w = n
  read-silent ReadComparedPlanes r s x o n w = w

  cpu-silent : (r : GraphicsRegisters) (s : Sequencer) (h : Shape) (c : CpuCall) → CpuNotFrom k r s c → CpuWithout k r c → CpuNoPeek k r s c → Silent k (cpu_plan r s h c).ask.reply
  unfolding CpuNotFrom CpuWithout CpuNoPeek cpu_plan Silent
  cpu-silent r s h (cpu_read x page) n w p = read-silent (read_mode r) r s x (offset r x page) n w
  cpu-silent r s h (cpu_peek x page) n w p = p
  cpu-silent r s h (cpu_write x page v) n w p = tt
  cpu-silent r s h (serialize o) n w p = tt
  cpu-silent r s h (show_pixels o) n w p = tt

  permitted : (s : State) (c : Call) → Obeys k s c → Permitted s c
  unfolding Permitted NotFrom ComparesWithout NoPeek step vram_step direct_step cpu_step perform
  permitted s (vram c) o = λ z. vram-silent (shape s.memory) c (o.reads (sym (answered-number _ _ _ _) ∙ z))
  permitted s (sequencer c) o = tt
  permitted s (direct c) o = λ z. direct-silent s.seq (shape s.memory) c (o.reads (sym (answered-number _ _ _ _) ∙ z))
  permitted s (graphics c) o = tt
  permitted s (cpu c) o = λ z.
      let e = sym (answered-number _ _ _ _) ∙ z in
      cpu-silent s.gc.registers s.seq (shape s.memory) c (o.reads e) (o.compares e) (o.peeks e)

-- ---- demand 3

-- in the mission's words, with K4's on peeks
pub isolation : (k : ℕ) (cs : List Call) (s t : State) → Alike k s t → Along (Obeys k) s cs → Throughout k s t cs
unfolding Throughout Along
isolation k [] s t a h = a
isolation k (c ∷ cs) s t a h =
    let o = step-together k s t a c (permitted k s c h.0) in
    (a, o, isolation k cs (step s c).next (step t c).next o.next h.1)
