-- A third run, under chain-four and with k as 3 again: a program of 256 colours paints the price by the addresses that end in binary 11, and a reader keeps away from
-- them. What each run answers is computed. Then what the premise leaves out: a peek and a read of such an address tell the two apart.
use Prim.Native.Nat.{ℕ}
use native.Mathlib.Omega.{arith}
use mathlib.Core.Path.{◌≡◌, refl}
use mathlib.Core.Bool.{false}
use mathlib.Core.List.{List, [], ◌∷◌, ◌++◌}
use lib.ListN.{get_or, replicate}
use Rattle.machine.specs.Memory.{mem}
use Rattle.machine.specs.Answers.{one, Said, said}
use Rattle.machine.specs.Calls.{cpu_read, cpu_peek, cpu_write, serialize}
use Rattle.machine.specs.Step.{State, Call, cpu}
use Rattle.machine.specs.Isolation.{Alike, Obeys, Along, Throughout, Asked, asks_peek}
use Rattle.machine.proofs.Isolation.{isolation}
use Rattle.machine.proofs.Computed.{computed}
use Rattle.machine.proofs.Worked.{gc_to, seq_to, a_number, a_show, a_store}
use Rattle.machine.proofs.Questions.{quiet, quiet-obeys}
use Rattle.machine.proofs.AlikeStates.{with_plane, with-plane-alike}

-- ---- the two states and the calls

-- four bytes a plane: the bytes of A0000, A0001 and A0002 stand at offset 0 of planes 0 to 2
label : ℕ → List ℕ
label p = get_or ((0xF0 ∷ 0 ∷ 0 ∷ 0 ∷ []) ∷ (0xCC ∷ 0 ∷ 0 ∷ 0 ∷ []) ∷ (0xAA ∷ 0 ∷ 0 ∷ 0 ∷ []) ∷ []) p []

-- the price, A0003's byte
pub low : State
unfolding label with_plane
low = with_plane 3 label (0x00 ∷ 0x18 ∷ 0 ∷ 0 ∷ []) 0x00 0

pub high : State
unfolding label with_plane
high = with_plane 3 label (0x7E ∷ 0xFF ∷ 0 ∷ 0 ∷ []) 0x7E 1

pub colour_calls : List Call
unfolding gc_to seq_to
colour_calls =
    -- the 64K window; chain-four; map select 3, which is ignored
    gc_to 6 4
    ++ (seq_to 4 12
    ++ (gc_to 4 3
    ++ (gc_to 8 0xFF
    -- reads and peeks of planes 0 to 2
    ++ (cpu (cpu_read 0xA0000 false)
    ∷ cpu (cpu_read 0xA0001 false)
    ∷ cpu (cpu_read 0xA0002 false)
    ∷ cpu (cpu_peek 0xA0000 false)
    ∷ cpu (cpu_peek 0xA0001 false)
    ∷ cpu (cpu_peek 0xA0002 false)
    -- the price by Xor with its latch
    ∷ (gc_to 3 0x18
    ++ (cpu (cpu_write 0xA0003 false 0x0F)
    -- a compare read of A0003 over planes 0 to 2, colour 3
    ∷ (gc_to 5 8
    ++ (gc_to 2 3
    ++ (gc_to 7 7
    ++ (cpu (cpu_read 0xA0003 false)
    -- a peek past the planes, which would be plane 3's; a show
    ∷ cpu (cpu_peek 0xA0007 false)
    ∷ cpu (serialize 0)
    ∷ []))))))))))

-- ---- what is answered, and what is left: plane 3 differs and changes

-- the answers of either run, but for the pixels
colour_says : List ℕ → List Said
colour_says eight =
    replicate 8 (a_number 0)
    ++ (a_number 0xF0
    ∷ a_number 0xCC
    ∷ a_number 0xAA
    ∷ a_number 0xF0
    ∷ a_number 0xCC
    ∷ a_number 0xAA
    ∷ (replicate 2 (a_number 0) ++ (a_store 0 0 0 4 ∷ (replicate 6 (a_number 0) ++ (a_number 0x40 ∷ said 3 (one 0) ∷ a_show eight ∷ [])))))

low-says : (computed low colour_calls).answers ≡ colour_says (7 ∷ 3 ∷ 5 ∷ 1 ∷ 14 ∷ 10 ∷ 12 ∷ 8 ∷ [])
unfolding low colour_calls colour_says computed
low-says = refl

-- the same, but for bit 3 of the pixels
high-says : (computed high colour_calls).answers ≡ colour_says (7 ∷ 11 ∷ 13 ∷ 9 ∷ 6 ∷ 2 ∷ 4 ∷ 8 ∷ [])
unfolding high colour_calls colour_says computed
high-says = refl

low-leaves : (computed low colour_calls).final.memory
    ≡ mem (0xF0 ∷ 0 ∷ 0 ∷ 0 ∷ []) (0xCC ∷ 0 ∷ 0 ∷ 0 ∷ []) (0xAA ∷ 0 ∷ 0 ∷ 0 ∷ []) (0x0F ∷ 0x18 ∷ 0 ∷ 0 ∷ []) ((7 ∷ 3 ∷ 5 ∷ 1 ∷ 14 ∷ 10 ∷ 12 ∷ 8 ∷ []) ++ replicate 24 0)
unfolding low colour_calls computed
low-leaves = refl

high-leaves : (computed high colour_calls).final.memory
    ≡ mem (0xF0 ∷ 0 ∷ 0 ∷ 0 ∷ []) (0xCC ∷ 0 ∷ 0 ∷ 0 ∷ []) (0xAA ∷ 0 ∷ 0 ∷ 0 ∷ []) (0x71 ∷ 0xFF ∷ 0 ∷ 0 ∷ []) ((7 ∷ 11 ∷ 13 ∷ 9 ∷ 6 ∷ 2 ∷ 4 ∷ 8 ∷ []) ++ replicate 24 8)
unfolding high colour_calls computed
high-leaves = refl

-- ---- the premises hold

pub colour-alike : Alike 3 low high
unfolding low high
colour-alike = with-plane-alike 3 label (0x00 ∷ 0x18 ∷ 0 ∷ 0 ∷ []) (0x7E ∷ 0xFF ∷ 0 ∷ 0 ∷ []) refl 0x00 0x7E 0 1 (omega arith) (omega arith)

pub colour-obeyed : Along (Obeys 3) low colour_calls
colour-obeyed = quiet-obeys 3 colour_calls low (unfold quiet colour_calls low computed in refl)

pub colour-together : Throughout 3 low high colour_calls
colour-together = isolation 3 colour_calls low high colour-alike colour-obeyed

-- ---- what is left out

-- A0003 peeked and read, map select 0
price_questions : List Call
unfolding gc_to
price_questions = cpu (cpu_peek 0xA0003 false) ∷ (gc_to 5 0 ++ (gc_to 4 0 ++ (cpu (cpu_read 0xA0003 false) ∷ [])))

low_told : (computed (computed low colour_calls).final price_questions).answers ≡ a_number 0x0F ∷ (replicate 4 (a_number 0) ++ (a_number 0x0F ∷ []))
unfolding low colour_calls price_questions computed
low_told = refl

high-told : (computed (computed high colour_calls).final price_questions).answers ≡ a_number 0x71 ∷ (replicate 4 (a_number 0) ++ (a_number 0x71 ∷ []))
unfolding high colour_calls price_questions computed
high-told = refl

-- the peek asks of plane 3
price-peek-asked : Asked 3 (computed low colour_calls).final (cpu (cpu_peek 0xA0003 false))
unfolding low colour_calls computed
price-peek-asked = asks_peek refl refl
