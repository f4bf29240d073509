-- The premise of `isolation` asks nothing else: a call that asks nothing of plane k keeps it. And it asks nothing in vain: the reply to each question tells of plane k.
-- So a run keeps the premise where none of its replies tells of plane k, which computes.
use Prim.Native.Nat.{ℕ, zero, suc, ◌<◌}
use native.Mathlib.Omega.{arith}
use mathlib.Core.Path.{◌≡◌, refl, sym, ◌∙◌}
use mathlib.Core.Bool.{Bool, true, ◌&&◌, ◌||◌, not}
use mathlib.Core.List.{List, [], ◌∷◌}
use lib.Dec.{eqb}
use borrow.Author.Tests.{eqb-true, eqb-false, not-true}
use Rattle.bits.specs.Bit.{bit}
use Rattle.bits.proofs.Laws.{bit-lt}
use Rattle.machine_types.specs.declared.gc.ReadMode.{ReadMode}
use Rattle.machine_types.specs.declared.gc.ReadMode.TheVariants.{ReadSelectedPlane, ReadComparedPlanes}
use Rattle.machine.specs.Memory.{shape}
use Rattle.machine.specs.Graphics.{read_mode}
use Rattle.machine.specs.Address.{offset}
use Rattle.machine.specs.Deeds.{Reply, known, byte_at, compare, pixel_at, pixels_at, changes_at, shown_at}
use Rattle.machine.specs.Calls.{VramCall, read_u8, peek_u8, read_glyph, read_linear, serialize_linear, write_u8, plane_set, plane_and, plane_or, deplane, vram_plan}
use Rattle.machine.specs.Calls.{DirectCall, seq_cpu_read_u8, seq_peek_u8, seq_gc_read_u8, seq_read_linear, seq_serialize_linear, seq_plane_set, seq_plane_and, seq_plane_or, direct_plan}
use Rattle.machine.specs.Calls.{CpuCall, cpu_read, cpu_peek, cpu_write, serialize, show_pixels, cpu_plan, read_reply, seq_value, gc_value}
use Rattle.machine.specs.Step.{State, Call, vram, sequencer, direct, graphics, cpu, step}
use Rattle.machine.specs.Isolation.{Accepted, VramNotFrom, DirectNotFrom, SelectedNotFrom, CpuNotFrom, NotFrom, ComparedWithout, CpuWithout, ComparesWithout, CpuNoPeek, NoPeek, Obeys, Along}
use Rattle.machine.specs.Isolation.{Asked, asks_read_u8, asks_peek_u8, asks_read_glyph, asks_seq_cpu_read_u8, asks_seq_peek_u8, asks_seq_gc_read_u8, asks_selected, asks_compared, asks_peek}
use Rattle.machine.proofs.Laws.{both}
use Rattle.machine.proofs.Isolation.{Silent}

-- ---- nothing else is asked

module _ (k : ℕ) (s : State) where
  vram-asks : (c : VramCall) → (Asked k s (vram c) → ⊥) → Accepted s (vram c) → VramNotFrom k c
  unfolding VramNotFrom
  vram-asks (read_u8 p o) n a = λ e. n (asks_read_u8 e a)
  vram-asks (peek_u8 p o) n a = λ e. n (asks_peek_u8 e a)
  vram-asks (read_glyph o) n a = λ e. n (asks_read_glyph e a)
  vram-asks (read_linear j) n a = tt
  vram-asks (serialize_linear o) n a = tt
  vram-asks (write_u8 p o x) n a = tt
  vram-asks (plane_set p o x) n a = tt
  vram-asks (plane_and p o x) n a = tt
  vram-asks (plane_or p o x) n a = tt
  vram-asks (deplane o) n a = tt

  direct-asks : (c : DirectCall) → (Asked k s (direct c) → ⊥) → Accepted s (direct c) → DirectNotFrom k c
  unfolding DirectNotFrom
  direct-asks (seq_cpu_read_u8 p o b) n a = λ e. n (asks_seq_cpu_read_u8 e a)
  direct-asks (seq_peek_u8 p o b) n a = λ e. n (asks_seq_peek_u8 e a)
  direct-asks (seq_gc_read_u8 p o b) n a = λ e. n (asks_seq_gc_read_u8 e a)
  direct-asks (seq_read_linear j) n a = tt
  direct-asks (seq_serialize_linear o) n a = tt
  direct-asks (seq_plane_set p o b x) n a = tt
  direct-asks (seq_plane_and p o b x) n a = tt
  direct-asks (seq_plane_or p o b x) n a = tt

  -- a selected-plane read and a compare read, by the read mode
  module _ (x : ℕ) (page : Bool) (n : Asked k s (cpu (cpu_read x page)) → ⊥) (a : Accepted s (cpu (cpu_read x page))) where
    selects : (d : ReadMode) → read_mode s.gc.registers ≡ d → SelectedNotFrom k d s.gc.registers s.seq x (offset s.gc.registers x page)
    unfolding SelectedNotFrom
    selects ReadSelectedPlane e = λ f. n (asks_selected e f a)
    selects ReadComparedPlanes e = tt

    compares : (d : ReadMode) → read_mode s.gc.registers ≡ d → ComparedWithout k d s.gc.registers
    unfolding ComparedWithout
    compares ReadSelectedPlane e = tt
    compares ReadComparedPlanes e = clear (bit k s.gc.registers.color_dont_care) (bit-lt k _) λ f. n (asks_compared e f a)
      where
        clear : (b : ℕ) → b < 2 → (b ≡ 1 → ⊥) → b ≡ 0
        clear zero l f = refl
        clear (suc zero) l f = absurd (f refl)
        clear (suc (suc b)) l f = absurd (omega arith)

  cpu-asks : (c : CpuCall) → (Asked k s (cpu c) → ⊥) → Obeys k s (cpu c)
  unfolding NotFrom CpuNotFrom ComparesWithout CpuWithout NoPeek CpuNoPeek
  cpu-asks (cpu_read x page) n = record { reads = λ a. selects x page n a _ refl; compares = λ a. compares x page n a _ refl; peeks = λ a. tt }
  cpu-asks (cpu_peek x page) n = record { reads = λ a. tt; compares = λ a. tt; peeks = λ a e. n (asks_peek e a) }
  cpu-asks (cpu_write x page v) n = record { reads = λ a. tt; compares = λ a. tt; peeks = λ a. tt }
  cpu-asks (serialize o) n = record { reads = λ a. tt; compares = λ a. tt; peeks = λ a. tt }
  cpu-asks (show_pixels o) n = record { reads = λ a. tt; compares = λ a. tt; peeks = λ a. tt }

-- a call that asks nothing of plane k keeps the premise
pub asks-nothing-else : (k : ℕ) (s : State) (c : Call) → (Asked k s c → ⊥) → Obeys k s c
unfolding NotFrom ComparesWithout NoPeek
asks-nothing-else k s (vram c) n = record { reads = vram-asks k s c n; compares = λ a. tt; peeks = λ a. tt }
asks-nothing-else k s (sequencer c) n = record { reads = λ a. tt; compares = λ a. tt; peeks = λ a. tt }
asks-nothing-else k s (direct c) n = record { reads = direct-asks k s c n; compares = λ a. tt; peeks = λ a. tt }
asks-nothing-else k s (graphics c) n = record { reads = λ a. tt; compares = λ a. tt; peeks = λ a. tt }
asks-nothing-else k s (cpu c) n = cpu-asks k s c n

-- ---- nothing is asked in vain

-- what a call answers from
unfoldable pub reply_of : State → Call → Reply
reply_of s (vram c) = (vram_plan (shape s.memory) c).reply
reply_of s (sequencer c) = known (seq_value s.seq c)
reply_of s (direct c) = (direct_plan s.seq (shape s.memory) c).reply
reply_of s (graphics c) = known (gc_value s.gc.registers c)
reply_of s (cpu c) = (cpu_plan s.gc.registers s.seq (shape s.memory) c).ask.reply

-- the reply to each question tells of plane k
pub asked-tells : {k : ℕ} {s : State} {c : Call} → Asked k s c → Silent k (reply_of s c) → ⊥
unfolding reply_of Silent vram_plan direct_plan cpu_plan read_reply
asked-tells (asks_read_u8 e a) q = q e
asked-tells (asks_peek_u8 e a) q = q e
asked-tells (asks_read_glyph e a) q = q e
asked-tells (asks_seq_cpu_read_u8 e a) q = q e
asked-tells (asks_seq_peek_u8 e a) q = q e
asked-tells (asks_seq_gc_read_u8 e a) q = q e
asked-tells (asks_selected m e a) q = (rw m at q) e
asked-tells (asks_compared m e a) q = let z = rw m at q in let y : ◌≡◌ {A = ℕ} 0 1 = sym z ∙ e in omega arith
asked-tells (asks_peek e a) q = q e

-- a refused call asks nothing
asked-accepted : {k : ℕ} {s : State} {c : Call} → Asked k s c → Accepted s c
asked-accepted (asks_read_u8 e a) = a
asked-accepted (asks_peek_u8 e a) = a
asked-accepted (asks_read_glyph e a) = a
asked-accepted (asks_seq_cpu_read_u8 e a) = a
asked-accepted (asks_seq_peek_u8 e a) = a
asked-accepted (asks_seq_gc_read_u8 e a) = a
asked-accepted (asks_selected m e a) = a
asked-accepted (asks_compared m e a) = a
asked-accepted (asks_peek e a) = a

-- ---- a run whose replies tell nothing of plane k

-- whether a reply tells nothing of plane k
is_silent : ℕ → Reply → Bool
is_silent k (known v) = true
is_silent k (byte_at p o) = not (eqb p k)
is_silent k (compare care colour) = eqb (bit k care) 0
is_silent k (pixel_at j) = true
is_silent k (pixels_at j) = true
is_silent k (changes_at o) = true
is_silent k (shown_at d o) = true

silent-told : (k : ℕ) (r : Reply) → is_silent k r ≡ true → Silent k r
unfolding is_silent Silent
silent-told k (known v) e = tt
silent-told k (byte_at p o) e = eqb-false p k (not-true _ e)
silent-told k (compare care colour) e = eqb-true (bit k care) 0 e
silent-told k (pixel_at j) e = tt
silent-told k (pixels_at j) e = tt
silent-told k (changes_at o) e = tt
silent-told k (shown_at d o) e = tt

-- whether no reply of a run tells of plane k: each call is refused, or its reply is silent
unfoldable pub quiet : ℕ → State → List Call → Bool
unfolding is_silent reply_of
quiet k s [] = true
quiet k s (c ∷ cs) = (not (eqb (step s c).answer.number 0) || is_silent k (reply_of s c)) && quiet k (step s c).next cs

-- such a run keeps the premise
pub quiet-obeys : (k : ℕ) (cs : List Call) (s : State) → quiet k s cs ≡ true → Along (Obeys k) s cs
unfolding quiet is_silent reply_of Along
quiet-obeys k [] s e = tt
quiet-obeys k (c ∷ cs) s e =
    let h = both (not (eqb (step s c).answer.number 0) || is_silent k (reply_of s c)) (quiet k (step s c).next cs) e in
    (asks-nothing-else k s c (unasked (step s c).answer.number refl h.0), quiet-obeys k cs (step s c).next h.1)
  where
    unasked : (n : ℕ) → (step s c).answer.number ≡ n → (not (eqb n 0) || is_silent k (reply_of s c)) ≡ true → Asked k s c → ⊥
    unasked zero z h a = asked-tells a (silent-told k (reply_of s c) h)
    unasked (suc n) z h a = let y : ◌≡◌ {A = ℕ} 0 (suc n) = sym (asked-accepted a) ∙ z in omega arith
