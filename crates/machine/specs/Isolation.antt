-- Demand 3's words: two states alike but for plane k, what the calls may not ask, and what then agrees.
use Rattle.std.specs.Prelude.{ℕ, suc, ◌+◌, ◌*◌, ◌/◌, ◌%◌, ◌^◌, ◌≢◌, ◌≡◌, Bool, List, [], ◌∷◌, map, eqb, length, get_or}
use Rattle.bits.specs.Bit.{bit, pick}
use Rattle.machine_types.specs.declared.gc.GraphicsRegisters.{GraphicsRegisters}
use Rattle.machine_types.specs.declared.gc.GraphicsController.{GraphicsController}
use Rattle.machine_types.specs.declared.gc.ReadMode.{ReadMode}
use Rattle.machine_types.specs.declared.gc.ReadMode.TheVariants.{ReadSelectedPlane, ReadComparedPlanes}
use Rattle.machine_types.specs.declared.gc.ShiftMode.{ShiftMode}
use Rattle.machine_types.specs.declared.gc.ShiftMode.TheVariants.{Standard, CGACompatible, Chain4, Unused}
use Rattle.machine_types.specs.declared.seq.Sequencer.{Sequencer}
use Rattle.machine.specs.Memory.{Memory, plane}
use Rattle.machine.specs.Answers.{Value, one, two, pixel, part, changes, changes_of, shown, Said, said, Outcome}
use Rattle.machine.specs.Graphics.{read_mode}
use Rattle.machine.specs.Address.{offset}
use Rattle.machine.specs.DataPath.{selected_plane, peeked_plane}
use Rattle.machine.specs.Deeds.{latch, eight}
use Rattle.machine.specs.Calls.{VramCall, read_u8, peek_u8, read_glyph, read_linear, serialize_linear, write_u8, plane_set, plane_and, plane_or, deplane}
use Rattle.machine.specs.Calls.{DirectCall, seq_cpu_read_u8, seq_peek_u8, seq_gc_read_u8, seq_read_linear, seq_serialize_linear, seq_plane_set, seq_plane_and, seq_plane_or}
use Rattle.machine.specs.Calls.{CpuCall, cpu_read, cpu_peek, cpu_write, serialize, show_pixels}
use Rattle.machine.specs.Step.{State, Call, vram, sequencer, direct, graphics, cpu, step}

-- ---- two states alike, lengths included, except in plane k's bytes, latch k and bit k of each pixel

-- two pixels agree in every bit but k
unfoldable pub Agree : ℕ → ℕ → ℕ → Type 0
Agree k x y = (b : ℕ) → b ≢ k → bit b x ≡ bit b y

-- two lists of one length, related entry by entry
pub data Both {A : Type 0} (R : A → A → Type 0) : List A → List A → Type 0 where
  none : Both R [] []
  more : {x y : A} {l u : List A} → R x y → Both R l u → Both R (x ∷ l) (y ∷ u)

-- alike but for plane k's bytes and bit k of each pixel; lengths agree for every plane
pub record AlikeMemory (k : ℕ) (m n : Memory) : Type 0 where
  pub planes : (p : ℕ) → p ≢ k → plane m p ≡ plane n p
  pub lengths : (p : ℕ) → length (plane m p) ≡ length (plane n p)
  pub pictures : Both (Agree k) m.picture n.picture

-- alike but for latch k
unfoldable pub AlikeLatches : ℕ → List ℕ → List ℕ → Type 0
AlikeLatches k l u = (p : ℕ) → p ≢ k → latch l p ≡ latch u p

-- registers agree
pub record AlikeRegisters (k : ℕ) (r q : GraphicsRegisters) : Type 0 where
  pub same : r ≡ q

-- registers and counters agree, latches but for latch k
pub record AlikeGc (k : ℕ) (g h : GraphicsController) : Type 0 where
  pub registers : AlikeRegisters k g.registers h.registers
  pub stats : g.stats ≡ h.stats
  pub latches : AlikeLatches k g.latches h.latches

-- the whole state alike but for plane k
pub record Alike (k : ℕ) (s t : State) : Type 0 where
  pub gc : AlikeGc k s.gc t.gc
  pub seq : s.seq ≡ t.seq
  pub memory : AlikeMemory k s.memory t.memory

-- ---- the premise, call by call

-- a call that is answered 0
abbrev pub Accepted : State → Call → Type 0
Accepted s c = (step s c).answer.number ≡ 0

-- a direct plane read is any read by plane in vram.rs, each `peek_u8` included, and `read_glyph` (plane 2) ..
unfoldable pub VramNotFrom : ℕ → VramCall → Type 0
VramNotFrom k (read_u8 p o) = p ≢ k
VramNotFrom k (peek_u8 p o) = p ≢ k
VramNotFrom k (read_glyph o) = 2 ≢ k
VramNotFrom k (read_linear j) = Unit {0}
VramNotFrom k (serialize_linear o) = Unit {0}
VramNotFrom k (write_u8 p o x) = Unit {0}
VramNotFrom k (plane_set p o x) = Unit {0}
VramNotFrom k (plane_and p o x) = Unit {0}
VramNotFrom k (plane_or p o x) = Unit {0}
VramNotFrom k (deplane o) = Unit {0}

-- .. or in the sequencer
unfoldable pub DirectNotFrom : ℕ → DirectCall → Type 0
DirectNotFrom k (seq_cpu_read_u8 p o a) = p ≢ k
DirectNotFrom k (seq_peek_u8 p o a) = p ≢ k
DirectNotFrom k (seq_gc_read_u8 p o a) = p ≢ k
DirectNotFrom k (seq_read_linear j) = Unit {0}
DirectNotFrom k (seq_serialize_linear o) = Unit {0}
DirectNotFrom k (seq_plane_set p o a x) = Unit {0}
DirectNotFrom k (seq_plane_and p o a x) = Unit {0}
DirectNotFrom k (seq_plane_or p o a x) = Unit {0}

-- a selected-plane read answers from the selected plane, chain-four's choice included; a compare read is no such read
unfoldable pub SelectedNotFrom : ℕ → ReadMode → GraphicsRegisters → Sequencer → ℕ → ℕ → Type 0
SelectedNotFrom k ReadSelectedPlane r s x o = selected_plane r s x o ≢ k
SelectedNotFrom k ReadComparedPlanes r s x o = Unit {0}

-- of the processor's accesses, only a selected-plane read answers from a selected plane
unfoldable pub CpuNotFrom : ℕ → GraphicsRegisters → Sequencer → CpuCall → Type 0
CpuNotFrom k r s (cpu_read x page) = SelectedNotFrom k (read_mode r) r s x (offset r x page)
CpuNotFrom k r s (cpu_peek x page) = Unit {0}
CpuNotFrom k r s (cpu_write x page v) = Unit {0}
CpuNotFrom k r s (serialize o) = Unit {0}
CpuNotFrom k r s (show_pixels o) = Unit {0}

-- no selected-plane or direct plane read answers from plane k
unfoldable pub NotFrom : ℕ → State → Call → Type 0
NotFrom k s (vram c) = VramNotFrom k c
NotFrom k s (sequencer c) = Unit {0}
NotFrom k s (direct c) = DirectNotFrom k c
NotFrom k s (graphics c) = Unit {0}
NotFrom k s (cpu c) = CpuNotFrom k s.gc.registers s.seq c

-- a compare read has k's Color Don't Care bit clear
unfoldable pub ComparedWithout : ℕ → ReadMode → GraphicsRegisters → Type 0
ComparedWithout k ReadSelectedPlane r = Unit {0}
ComparedWithout k ReadComparedPlanes r = bit k r.color_dont_care ≡ 0

-- of the processor's accesses, only a read can compare
unfoldable pub CpuWithout : ℕ → GraphicsRegisters → CpuCall → Type 0
CpuWithout k r (cpu_read x page) = ComparedWithout k (read_mode r) r
CpuWithout k r (cpu_peek x page) = Unit {0}
CpuWithout k r (cpu_write x page v) = Unit {0}
CpuWithout k r (serialize o) = Unit {0}
CpuWithout k r (show_pixels o) = Unit {0}

-- each accepted compare read has k's Color Don't Care bit clear
unfoldable pub ComparesWithout : ℕ → State → Call → Type 0
ComparesWithout k s (vram c) = Unit {0}
ComparesWithout k s (sequencer c) = Unit {0}
ComparesWithout k s (direct c) = Unit {0}
ComparesWithout k s (graphics c) = Unit {0}
ComparesWithout k s (cpu c) = CpuWithout k s.gc.registers c

-- K4: a peek of the processor answers from the peeked plane, chain-four's choice included
unfoldable pub CpuNoPeek : ℕ → GraphicsRegisters → Sequencer → CpuCall → Type 0
CpuNoPeek k r s (cpu_read x page) = Unit {0}
CpuNoPeek k r s (cpu_peek x page) = peeked_plane s (offset r x page) ≢ k
CpuNoPeek k r s (cpu_write x page v) = Unit {0}
CpuNoPeek k r s (serialize o) = Unit {0}
CpuNoPeek k r s (show_pixels o) = Unit {0}

-- no peek answers from plane k
unfoldable pub NoPeek : ℕ → State → Call → Type 0
NoPeek k s (vram c) = Unit {0}
NoPeek k s (sequencer c) = Unit {0}
NoPeek k s (direct c) = Unit {0}
NoPeek k s (graphics c) = Unit {0}
NoPeek k s (cpu c) = CpuNoPeek k s.gc.registers s.seq c

-- the mission's words, with K4's on peeks; a refused read or peek answers from no plane
pub record Obeys (k : ℕ) (s : State) (c : Call) : Type 0 where
  pub reads : Accepted s c → NotFrom k s c
  pub compares : Accepted s c → ComparesWithout k s c
  pub peeks : Accepted s c → NoPeek k s c

-- the questions that the premise rules out, a constructor for each kind of call that can ask one: `asks-nothing-else` says that there is no other
pub data Asked (k : ℕ) (s : State) : Call → Type 0 where
  -- an accepted read by plane in vram.rs of plane k, each `peek_u8` included, and `read_glyph` where k is 2 ..
  asks_read_u8 : {p o : ℕ} → p ≡ k → Accepted s (vram (read_u8 p o)) → Asked k s (vram (read_u8 p o))
  asks_peek_u8 : {p o : ℕ} → p ≡ k → Accepted s (vram (peek_u8 p o)) → Asked k s (vram (peek_u8 p o))
  asks_read_glyph : {o : ℕ} → 2 ≡ k → Accepted s (vram (read_glyph o)) → Asked k s (vram (read_glyph o))
  -- .. or in the sequencer
  asks_seq_cpu_read_u8 : {p o : ℕ} {a : Bool} → p ≡ k → Accepted s (direct (seq_cpu_read_u8 p o a)) → Asked k s (direct (seq_cpu_read_u8 p o a))
  asks_seq_peek_u8 : {p o : ℕ} {a : Bool} → p ≡ k → Accepted s (direct (seq_peek_u8 p o a)) → Asked k s (direct (seq_peek_u8 p o a))
  asks_seq_gc_read_u8 : {p o : ℕ} {a : Bool} → p ≡ k → Accepted s (direct (seq_gc_read_u8 p o a)) → Asked k s (direct (seq_gc_read_u8 p o a))
  -- an accepted selected-plane read that answers from k
  asks_selected : {x : ℕ} {page : Bool} → read_mode s.gc.registers ≡ ReadSelectedPlane → selected_plane s.gc.registers s.seq x (offset s.gc.registers x page) ≡ k
      → Accepted s (cpu (cpu_read x page)) → Asked k s (cpu (cpu_read x page))
  -- an accepted compare read with k's Color Don't Care bit set
  asks_compared : {x : ℕ} {page : Bool} → read_mode s.gc.registers ≡ ReadComparedPlanes → bit k s.gc.registers.color_dont_care ≡ 1
      → Accepted s (cpu (cpu_read x page)) → Asked k s (cpu (cpu_read x page))
  -- an accepted peek that answers from k
  asks_peek : {x : ℕ} {page : Bool} → peeked_plane s.seq (offset s.gc.registers x page) ≡ k → Accepted s (cpu (cpu_peek x page)) → Asked k s (cpu (cpu_peek x page))

-- a premise kept by each call of a run
unfoldable pub Along : (State → Call → Type 0) → State → List Call → Type 0
Along P s [] = Unit {0}
Along P s (c ∷ cs) = P s c × Along P (step s c).next cs

-- ---- the conclusion

-- K3: pixel j of two shows in one shift mode. From the picture it may differ in bit k only; in Chain4 pixels 2k and 2k + 1 may differ, and in CGACompatible the first four
-- where k is 0 and the last four where k is 1, in any bit; no other pixel may
unfoldable pub AlikePixel : ℕ → ShiftMode → ℕ → ℕ → ℕ → Type 0
AlikePixel k Standard j x y = Agree k x y
AlikePixel k CGACompatible j x y = j / 4 ≢ k → x ≡ y
AlikePixel k Chain4 j x y = j / 2 ≢ k → x ≡ y
AlikePixel k Unused j x y = Agree k x y

-- as many pixels, each alike by its place
pub record AlikeShow (k : ℕ) (d : ShiftMode) (l u : List ℕ) : Type 0 where
  pub long : length l ≡ length u
  pub at : (j : ℕ) → AlikePixel k d j (get_or l j 0) (get_or u j 0)

-- pixels handed out may differ in bit k only, the four numbers of a store in plane k's only (K6), the pixels of two shows in one shift mode as that mode allows (K3)
pub data AlikeValue (k : ℕ) : Value → Value → Type 0 where
  same : {v : Value} → AlikeValue k v v
  pixels : {x y : ℕ} → Agree k x y → AlikeValue k (pixel x) (pixel y)
  parts : {l u : List ℕ} → Both (Agree k) l u → AlikeValue k (part l) (part u)
  numbers : {f g : ℕ → ℕ} → ((p : ℕ) → p ≢ k → f p ≡ g p) → AlikeValue k (changes_of f) (changes_of g)
  eights : {d : ShiftMode} {l u : List ℕ} → AlikeShow k d l u → AlikeValue k (shown d l) (shown d u)

-- answers and refusals agree, values but for bit k of pixels, plane k's number of a store and plane k's pixels of a show
pub record AlikeSaid (k : ℕ) (a b : Said) : Type 0 where
  pub number : a.number ≡ b.number
  pub value : AlikeValue k a.value b.value

-- two outcomes whose answers agree and whose next states are related
pub record Together (k : ℕ) {S : Type 0} (R : S → S → Type 0) (o u : Outcome S) : Type 0 where
  pub answer : AlikeSaid k o.answer u.answer
  pub next : R o.next u.next

-- answers, refusals, registers, counters, other latches, other planes and other pixel bits agree throughout: before the first call, and at each
unfoldable pub Throughout : ℕ → State → State → List Call → Type 0
Throughout k s t [] = Alike k s t
Throughout k s t (c ∷ cs) = Alike k s t × Together k (Alike k) (step s c) (step t c) × Throughout k (step s c).next (step t c).next cs

-- a number less its bit k
unfoldable pub less : ℕ → ℕ → ℕ
less k x = x / 2 ^ suc k * 2 ^ suc k + x % 2 ^ k

-- what is a plane's own, a number of a store or a pixel of a show; none of plane k
unfoldable pub less_of : ℕ → ℕ → ℕ → ℕ
less_of k p x = pick (eqb p k) 0 x

-- K3: pixel j of a show, less what plane k makes of it: its bit k, or all of it
unfoldable pub less_pixel : ℕ → ShiftMode → ℕ → ℕ → ℕ
less_pixel k Standard j x = less k x
less_pixel k CGACompatible j x = less_of k (j / 4) x
less_pixel k Chain4 j x = less_of k (j / 2) x
less_pixel k Unused j x = less k x

-- what is handed out, less bit k of each pixel, less plane k's number of a store and less plane k's pixels of a show
unfoldable pub less_said : ℕ → Said → Said
less_said k a = said a.number (less_value a.value)
  where
    less_value : Value → Value
    less_value (one x) = one x
    less_value (two x y) = two x y
    less_value (pixel x) = pixel (less k x)
    less_value (part l) = part (map (less k) l)
    less_value (changes a b c d) = changes (less_of k 0 a) (less_of k 1 b) (less_of k 2 c) (less_of k 3 d)
    less_value (shown d l) = shown d (eight (λ j. less_pixel k d j (get_or l j 0)))
