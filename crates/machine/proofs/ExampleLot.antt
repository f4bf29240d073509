-- A second run, with k as 0: two labels that differ in the lot, plane 0, and a reader that leaves it out, with peeks under chain-four that answer from another plane.
-- What each run answers is computed. Then what the premise leaves out: each question that can be put to plane 0, its peeks among them, is answered differently by the two.
use Prim.Native.Nat.{ℕ}
use native.Mathlib.Omega.{arith}
use mathlib.Core.Path.{◌≡◌, refl}
use mathlib.Core.Bool.{false}
use mathlib.Core.List.{List, [], ◌∷◌, ◌++◌}
use lib.ListN.{get_or, replicate}
use Rattle.machine_types.specs.declared.gc.ShiftMode.TheVariants.{CGACompatible, Chain4}
use Rattle.machine.specs.Memory.{mem}
use Rattle.machine.specs.Answers.{one, Said, said}
use Rattle.machine.specs.Calls.{read_u8, peek_u8, read_glyph, read_linear, seq_cpu_read_u8, seq_peek_u8, seq_gc_read_u8, cpu_read, cpu_peek, cpu_write, serialize, show_pixels}
use Rattle.machine.specs.Step.{State, Call, vram, direct, cpu}
use Rattle.machine.specs.Isolation.{Alike, Obeys, Along, Throughout, Asked, asks_peek}
use Rattle.machine.proofs.Isolation.{isolation}
use Rattle.machine.proofs.Computed.{computed}
use Rattle.machine.proofs.Worked.{gc_to, seq_to, a_number, a_pixel, a_show, a_store, pixels_in}
use Rattle.machine.proofs.Questions.{quiet, quiet-obeys}
use Rattle.machine.proofs.AlikeStates.{with_plane, with-plane-alike}

-- ---- the two states and the calls

-- what stands in planes 1 to 3
remaining : ℕ → List ℕ
remaining p = get_or ([] ∷ (0xCC ∷ 0x55 ∷ []) ∷ (0xAA ∷ 0x66 ∷ []) ∷ (0x7E ∷ 0x18 ∷ []) ∷ []) p []

-- the lot stands in plane 0, in latch 0 and in bit 0 of each pixel
pub early : State
unfolding remaining with_plane
early = with_plane 0 remaining (0x0F ∷ 0x00 ∷ []) 0x0F 0

pub late : State
unfolding remaining with_plane
late = with_plane 0 remaining (0xF0 ∷ 0x33 ∷ []) 0xF0 1

pub lot_calls : List Call
unfolding gc_to seq_to
lot_calls =
    -- the 64K window; sequential, every plane in the mask
    gc_to 6 4
    ++ (seq_to 4 4
    ++ (seq_to 2 15
    -- a selected-plane read of plane 2 loads all latches; a write through Bit Mask 0F keeps their upper halves, the lot's too
    ++ (gc_to 4 2
    ++ ((cpu (cpu_read 0xA0000 false) ∷ [])
    ++ (gc_to 8 0x0F
    ++ ((cpu (cpu_write 0xA0001 false 0x35) ∷ [])
    -- under GC odd/even a0 leads map select 2 to plane 3
    ++ (gc_to 5 0x10
    ++ ((cpu (cpu_read 0xA0001 false) ∷ [])
    -- a compare read over planes 1 to 3, colour E
    ++ (gc_to 5 8
    ++ (gc_to 2 0xE
    ++ (gc_to 7 0xE
    ++ (cpu (cpu_read 0xA0001 false)
    -- a show, a pixel, direct reads of planes 1 to 3
    ∷ cpu (serialize 1)
    ∷ vram (read_linear 0)
    ∷ vram (read_u8 3 1)
    ∷ vram (peek_u8 1 0)
    ∷ vram (read_glyph 0)
    ∷ direct (seq_gc_read_u8 2 1 false)
    -- chain-four: A0001 is plane 1's, though map select is 0. Refused peeks, past the planes and outside the window, would be plane 0's
    ∷ (seq_to 4 8
    ++ (gc_to 5 0
    ++ (gc_to 4 0
    ++ (cpu (cpu_read 0xA0001 false)
    ∷ cpu (cpu_peek 0xA0001 false)
    ∷ cpu (cpu_peek 0xA0004 false)
    ∷ cpu (cpu_peek 0xB0000 false)
    -- shown in CGACompatible and in Chain4
    ∷ (gc_to 5 0x20 ++ (cpu (show_pixels 0) ∷ (gc_to 5 0x40 ++ (cpu (show_pixels 1) ∷ []))))))))))))))))))))

-- ---- what is answered, and what is left: plane 0 differs and changes

-- the answers of either run, but for the pixels, an offset's eight and one of the other's, for plane 0's number of the store, and for plane 0's pixels of two shows,
-- the first four in CGACompatible, the first two in Chain4
lot_says : List ℕ → ℕ → ℕ → List ℕ → List ℕ → List Said
lot_says eight first changed fours twos =
    replicate 8 (a_number 0)
    ++ (a_number 0xAA
    ∷ (replicate 2 (a_number 0)
    ++ (a_store changed 2 4 5
    ∷ a_number 0
    ∷ a_number 0
    ∷ a_number 0x75
    ∷ (replicate 6 (a_number 0)
    ++ (a_number 0x05
    ∷ a_show eight
    ∷ a_pixel first
    ∷ a_number 0x75
    ∷ a_number 0xCC
    ∷ a_number 0xAA
    ∷ a_number 0xA5
    ∷ (replicate 6 (a_number 0)
    ++ (a_number 0xCC
    ∷ a_number 0xCC
    ∷ said 3 (one 0)
    ∷ said 2 (one 0)
    ∷ (replicate 2 (a_number 0)
    ++ (pixels_in CGACompatible (fours ++ (3 ∷ 0 ∷ 1 ∷ 1 ∷ []))
    ∷ (replicate 2 (a_number 0) ++ (pixels_in Chain4 (twos ++ (12 ∷ 5 ∷ 10 ∷ 5 ∷ 7 ∷ 5 ∷ [])) ∷ [])))))))))))

early-says : (computed early lot_calls).answers ≡ lot_says (6 ∷ 10 ∷ 12 ∷ 8 ∷ 0 ∷ 15 ∷ 0 ∷ 15 ∷ []) 0 2 (0 ∷ 0 ∷ 3 ∷ 3 ∷ []) (0 ∷ 5 ∷ [])
unfolding early lot_calls lot_says computed
early-says = refl

-- the same, but for bit 0 of the pixels, plane 0's number and plane 0's pixels of the shows
late-says : (computed late lot_calls).answers ≡ lot_says (7 ∷ 11 ∷ 13 ∷ 9 ∷ 0 ∷ 15 ∷ 0 ∷ 15 ∷ []) 1 4 (3 ∷ 3 ∷ 0 ∷ 0 ∷ []) (15 ∷ 5 ∷ [])
unfolding late lot_calls lot_says computed
late-says = refl

early-leaves : (computed early lot_calls).final.memory
    ≡ mem (0x0F ∷ 0x05 ∷ []) (0xCC ∷ 0xC5 ∷ []) (0xAA ∷ 0xA5 ∷ []) (0x7E ∷ 0x75 ∷ []) (replicate 8 0 ++ (6 ∷ 10 ∷ 12 ∷ 8 ∷ 0 ∷ 15 ∷ 0 ∷ 15 ∷ []))
unfolding early lot_calls computed
early-leaves = refl

late-leaves : (computed late lot_calls).final.memory
    ≡ mem (0xF0 ∷ 0xF5 ∷ []) (0xCC ∷ 0xC5 ∷ []) (0xAA ∷ 0xA5 ∷ []) (0x7E ∷ 0x75 ∷ []) (replicate 8 1 ++ (7 ∷ 11 ∷ 13 ∷ 9 ∷ 0 ∷ 15 ∷ 0 ∷ 15 ∷ []))
unfolding late lot_calls computed
late-leaves = refl

-- ---- the premises hold

pub lot-alike : Alike 0 early late
unfolding early late
lot-alike = with-plane-alike 0 remaining (0x0F ∷ 0x00 ∷ []) (0xF0 ∷ 0x33 ∷ []) refl 0x0F 0xF0 0 1 (omega arith) (omega arith)

pub lot-obeyed : Along (Obeys 0) early lot_calls
lot-obeyed = quiet-obeys 0 lot_calls early (unfold quiet lot_calls early computed in refl)

pub lot-together : Throughout 0 early late lot_calls
lot-together = isolation 0 lot_calls early late lot-alike lot-obeyed

-- ---- what is left out

-- every question that plane 0 can be asked, after that run
questions : List Call
unfolding gc_to seq_to
questions =
    -- direct plane reads
    vram (read_u8 0 0)
    ∷ vram (peek_u8 0 0)
    ∷ direct (seq_cpu_read_u8 0 0 false)
    ∷ direct (seq_peek_u8 0 0 false)
    ∷ direct (seq_gc_read_u8 0 0 false)
    -- under chain-four a peek and a selected-plane read of A0000, map select 2
    ∷ cpu (cpu_peek 0xA0000 false)
    ∷ (gc_to 4 2
    ++ (cpu (cpu_read 0xA0000 false)
    -- with chain-four clear a peek of A0001, a compare read with plane 0's Don't Care bit set, a selected-plane read with map select 0
    ∷ (seq_to 4 4
    ++ (cpu (cpu_peek 0xA0001 false)
    ∷ (gc_to 5 8 ++ (gc_to 7 1 ++ (cpu (cpu_read 0xA0000 false) ∷ (gc_to 5 0 ++ (gc_to 4 0 ++ (cpu (cpu_read 0xA0000 false) ∷ []))))))))))

-- what is told: plane 0's two bytes, and where its first is 0
lot_told : ℕ → ℕ → ℕ → List Said
lot_told first second clear =
    replicate 6 (a_number first)
    ++ (replicate 2 (a_number 0)
    ++ (a_number first ∷ (replicate 2 (a_number 0) ++ (a_number second ∷ (replicate 4 (a_number 0) ++ (a_number clear ∷ (replicate 4 (a_number 0) ++ (a_number first ∷ []))))))))

early-told : (computed (computed early lot_calls).final questions).answers ≡ lot_told 0x0F 0x05 0xF0
unfolding early lot_calls questions lot_told computed
early-told = refl

late-told : (computed (computed late lot_calls).final questions).answers ≡ lot_told 0xF0 0xF5 0x0F
unfolding late lot_calls questions lot_told computed
late-told = refl

-- so the peek of A0000 under chain-four is one of the questions; the run has the one of A0001, and keeps the premise
peek-asked : Asked 0 (computed early lot_calls).final (cpu (cpu_peek 0xA0000 false))
unfolding early lot_calls computed
peek-asked = asks_peek refl refl
