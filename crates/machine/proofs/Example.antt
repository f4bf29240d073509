-- The theorems say something: a label painted twice over different prices, by a run that has every kind of call. Plane 3 differs and changes, the premise of
-- `isolation` holds, and what each run answers is computed. Then the other theorems on the same run.
use Prim.Native.Nat.{ℕ, ◌/◌, ◌%◌}
use native.Mathlib.Omega.{arith}
use mathlib.Core.Path.{◌≡◌, refl}
use mathlib.Core.Bool.{true, false}
use mathlib.Core.List.{List, [], ◌∷◌, ◌++◌}
use lib.ListN.{get_or, replicate}
use Rattle.bits.specs.Bit.{bit, of_bits}
use Rattle.bits.proofs.Decide.{agree1}
use Rattle.machine_types.specs.declared.gc.ShiftMode.TheVariants.{Standard, CGACompatible, Chain4}
use Rattle.machine.specs.Memory.{Memory, mem}
use Rattle.machine.specs.Answers.{one, two, shown, no_pixels, Said, said}
use Rattle.machine.specs.Deeds.{pixel_of}
use Rattle.machine.specs.Calls.{read_u8, peek_u8, read_glyph, read_linear, serialize_linear, write_u8, plane_set, plane_and, plane_or, deplane}
use Rattle.machine.specs.Calls.{seq_reset, seq_clock, seq_set_clock_change_pending, seq_poll_clock_change, seq_read_address, seq_read_data}
use Rattle.machine.specs.Calls.{seq_cpu_read_u8, seq_peek_u8, seq_gc_read_u8, seq_read_linear, seq_serialize_linear, seq_plane_set, seq_plane_and, seq_plane_or}
use Rattle.machine.specs.Calls.{gc_reset, gc_chain, gc_chain4, gc_memory_map, gc_odd_even, gc_shift_mode, gc_read_address, gc_read_data, gc_map_address}
use Rattle.machine.specs.Calls.{cpu_read, cpu_peek, cpu_write, serialize, show_pixels}
use Rattle.machine.specs.Step.{State, Call, vram, sequencer, direct, graphics, cpu}
use Rattle.machine.specs.Isolation.{Alike, Obeys, Along, Throughout}
use Rattle.machine.specs.Claims.{total, seven_total, counts_where, tally_where, tally, seven_tally, Matches}
use Rattle.machine.proofs.Isolation.{isolation}
use Rattle.machine.proofs.Computed.{computed}
use Rattle.machine.proofs.Worked.{gc_to, seq_to, a_number, a_pixel, a_show, a_store, pixels_in}
use Rattle.machine.proofs.Questions.{quiet, quiet-obeys}
use Rattle.machine.proofs.AlikeStates.{with_plane, with-plane-alike}
use Rattle.machine.proofs.EveryKind.{every_kind}

-- ---- the two states and the calls

-- lot, grade and weight: two bytes a plane
label : ℕ → List ℕ
label p = get_or ((0xF0 ∷ 0 ∷ []) ∷ (0xCC ∷ 0 ∷ []) ∷ (0xAA ∷ 0 ∷ []) ∷ []) p []

-- the price stands in plane 3, in latch 3 and in bit 3 of each pixel
pub cheap : State
unfolding label with_plane
cheap = with_plane 3 label (0x00 ∷ 0x18 ∷ []) 0x00 0

pub dear : State
unfolding label with_plane
dear = with_plane 3 label (0x7E ∷ 0xF0 ∷ []) 0x7E 1

-- the label is painted and read
pub painting : List Call
unfolding gc_to seq_to
painting =
    -- both register sets at their start; the 64K window; sequential, every plane in the mask
    (graphics gc_reset ∷ sequencer seq_reset ∷ [])
    ++ (gc_to 6 4
    ++ (seq_to 4 4
    ++ (seq_to 2 15
    -- all latches loaded, plane 0's byte answered; write mode 1 stores them at the next offset, price and all
    ++ ((cpu (cpu_read 0xA0000 false) ∷ [])
    ++ (gc_to 5 9
    ++ ((cpu (cpu_write 0xA0001 false 0) ∷ [])
    -- a compare read over planes 0 to 2, colour 3
    ++ (gc_to 2 3
    ++ (gc_to 7 7
    ++ (cpu (cpu_read 0xA0001 false)
    -- a show, a read past the planes, a peek
    ∷ cpu (serialize 1)
    ∷ cpu (cpu_read 0xA0002 false)
    ∷ cpu (cpu_peek 0xA0001 false)
    ∷ [])))))))))

-- it is read directly: planes 0 to 2 alone, and pixels
reading : List Call
reading =
    vram (read_u8 2 1)
    ∷ vram (peek_u8 0 1)
    ∷ vram (read_glyph 1)
    ∷ direct (seq_cpu_read_u8 0 0 false)
    ∷ direct (seq_peek_u8 1 0 false)
    ∷ direct (seq_gc_read_u8 2 0 false)
    -- pixel 1 of offset 1; offset 0's pixels as they were, then made from its bytes; pixel 6 of offset 1
    ∷ vram (read_linear 9)
    ∷ vram (serialize_linear 0)
    ∷ vram (deplane 0)
    ∷ direct (seq_serialize_linear 0)
    ∷ direct (seq_read_linear 14)
    ∷ []

-- a bar is shaded over it in write mode 3: Set/Reset 9, Xor, rotate 4, Bit Mask 3C. Plane 3 gets its latch, price and all, the mask's bits turned; then a show
shading : List Call
unfolding gc_to
shading = gc_to 5 3 ++ (gc_to 0 9 ++ (gc_to 3 0x1C ++ (gc_to 8 0x3C ++ (cpu (cpu_write 0xA0000 false 0xF0) ∷ cpu (serialize 0) ∷ []))))

-- direct stores, into plane 3 too
storing : List Call
storing =
    vram (write_u8 0 0 0x0F)
    ∷ vram (plane_set 3 1 0xC3)
    ∷ vram (plane_and 3 0 0x3C)
    ∷ vram (plane_or 1 1 0x33)
    ∷ direct (seq_plane_set 2 1 false 0x0F)
    ∷ direct (seq_plane_and 0 1 false 0xAA)
    ∷ direct (seq_plane_or 3 0 false 0x81)
    ∷ []

-- what the registers say
ports : List Call
ports =
    sequencer seq_clock
    ∷ sequencer seq_set_clock_change_pending
    ∷ sequencer seq_poll_clock_change
    ∷ sequencer seq_read_address
    ∷ sequencer seq_read_data
    ∷ graphics gc_chain
    ∷ graphics gc_chain4
    ∷ graphics gc_memory_map
    ∷ graphics gc_odd_even
    ∷ graphics gc_shift_mode
    ∷ graphics gc_read_address
    ∷ graphics gc_read_data
    ∷ graphics (gc_map_address 0xA0001 false)
    ∷ []

-- under chain-four A0001 is plane 1's, whatever the map select, read and peeked; a peek past the planes would be plane 3's
chained : List Call
unfolding gc_to seq_to
chained = seq_to 4 12 ++ (gc_to 5 0 ++ (gc_to 4 3 ++ (cpu (cpu_read 0xA0001 false) ∷ cpu (cpu_peek 0xA0001 false) ∷ cpu (cpu_peek 0xA0003 false) ∷ [])))

-- shown in every shift mode, still under chain-four: Chain4, CGACompatible and a show of it past the planes, Standard
showing : List Call
unfolding gc_to
showing = gc_to 5 0x40 ++ (cpu (show_pixels 0) ∷ (gc_to 5 0x20 ++ (cpu (show_pixels 0) ∷ cpu (show_pixels 1) ∷ (gc_to 5 0 ++ (cpu (show_pixels 0) ∷ [])))))

pub calls : List Call
unfolding painting reading shading storing ports chained showing
calls = painting ++ (reading ++ (shading ++ (storing ++ (ports ++ (chained ++ showing)))))

every-kind : every_kind calls ≡ true
unfolding every_kind calls gc_to seq_to
every-kind = refl

-- ---- what is answered

-- the answers of either run, but for the pixels: an offset's eight, the same before they were ever made, pixels 1 and 6, an offset's eight with the bar;
-- and but for plane 3's number of three stores (K6): of the latches stored, of its byte put, of its byte masked;
-- and but for plane 3's two pixels of a Chain4 show, and an offset's eight at the end (K3)
label_says : List ℕ → List ℕ → ℕ → ℕ → List ℕ → ℕ → ℕ → ℕ → ℕ → ℕ → List ℕ → List Said
label_says eight unmade second seventh barred copied put kept high low last =
    -- the registers written, the read, the store, the registers written
    replicate 8 (a_number 0)
    ++ (a_number 0xF0
    ∷ (replicate 2 (a_number 0)
    ++ (a_store 4 4 4 copied
    ∷ (replicate 4 (a_number 0)
    -- the compare read, the show, refusal 3, the peek
    ++ (a_number 0x40
    ∷ a_show eight
    ∷ said 3 (one 0)
    ∷ a_number 0xF0
    -- read directly
    ∷ a_number 0xAA
    ∷ a_number 0xF0
    ∷ a_number 0xAA
    ∷ a_number 0xF0
    ∷ a_number 0xCC
    ∷ a_number 0xAA
    ∷ a_pixel second
    ∷ a_show unmade
    ∷ a_number 0
    ∷ a_show eight
    ∷ a_pixel seventh
    -- the registers written, the bar, the show
    ∷ (replicate 8 (a_number 0)
    ++ (a_store 2 0 0 2
    ∷ a_show barred
    -- stored
    ∷ a_store 6 0 0 0
    ∷ a_store 0 0 0 put
    ∷ a_store 0 0 0 kept
    ∷ a_store 0 4 0 0
    ∷ a_store 0 0 4 0
    ∷ a_store 2 0 0 0
    ∷ a_store 0 0 0 2
    -- clock 9, the mark set and polled, Map Mask 15
    ∷ a_number 9
    ∷ a_number 0
    ∷ a_number 1
    ∷ a_number 2
    ∷ a_number 15
    -- no chain, no Chain4, A0000_64K, sequential, Standard, Bit Mask 3C, A0001 at offset 1
    ∷ a_number 0
    ∷ a_number 0
    ∷ a_number 1
    ∷ a_number 0
    ∷ a_number 0
    ∷ a_number 8
    ∷ a_number 0x3C
    ∷ said 0 (two 1 1)
    -- the registers written, plane 1's byte at offset 0 read and peeked, refusal 3
    ∷ (replicate 6 (a_number 0)
    ++ (a_number 0xCC
    ∷ a_number 0xCC
    ∷ said 3 (one 0)
    -- planes 0F, CC, AA and the price by four bits; plane 0's 0F and plane 1's next byte FF by two; refusal 5; the picture
    ∷ (replicate 2 (a_number 0)
    ++ (pixels_in Chain4 (0 ∷ 15 ∷ 12 ∷ 12 ∷ 10 ∷ 10 ∷ high ∷ low ∷ [])
    ∷ (replicate 2 (a_number 0)
    ++ (pixels_in CGACompatible (0 ∷ 0 ∷ 3 ∷ 3 ∷ 3 ∷ 3 ∷ 3 ∷ 3 ∷ [])
    ∷ said 5 (shown CGACompatible no_pixels)
    ∷ (replicate 2 (a_number 0) ++ (pixels_in Standard last ∷ [])))))))))))))))

cheap-says : (computed cheap calls).answers ≡ label_says (7 ∷ 3 ∷ 5 ∷ 1 ∷ 6 ∷ 2 ∷ 4 ∷ 0 ∷ []) (replicate 8 0) 3 4 (7 ∷ 3 ∷ 5 ∷ 1 ∷ 15 ∷ 11 ∷ 4 ∷ 0 ∷ []) 2 4 0
    8 13 (14 ∷ 2 ∷ 4 ∷ 0 ∷ 15 ∷ 11 ∷ 5 ∷ 9 ∷ [])
unfolding cheap calls gc_to seq_to label_says computed
cheap-says = refl

-- the same, but for bit 3 of the pixels that carry the price, for how many bits of plane 3 three stores changed, and for the last two pixels of the Chain4 show
dear-says : (computed dear calls).answers ≡ label_says (7 ∷ 11 ∷ 13 ∷ 9 ∷ 14 ∷ 10 ∷ 12 ∷ 0 ∷ []) (replicate 8 8) 11 12 (7 ∷ 11 ∷ 13 ∷ 9 ∷ 7 ∷ 3 ∷ 12 ∷ 0 ∷ []) 4 6 2
    11 1 (14 ∷ 2 ∷ 12 ∷ 8 ∷ 7 ∷ 3 ∷ 5 ∷ 9 ∷ [])
unfolding dear calls gc_to seq_to label_says computed
dear-says = refl

-- ---- what is left: plane 3 differs and changes; its pixels' bit 3 with it

cheap-leaves : (computed cheap calls).final.memory
    ≡ mem (0x0F ∷ 0xA0 ∷ []) (0xCC ∷ 0xFF ∷ []) (0xAA ∷ 0x0F ∷ []) (0x8D ∷ 0xC3 ∷ []) ((14 ∷ 2 ∷ 4 ∷ 0 ∷ 15 ∷ 11 ∷ 5 ∷ 9 ∷ []) ++ (11 ∷ 10 ∷ 3 ∷ 2 ∷ 6 ∷ 6 ∷ 14 ∷ 14 ∷ []))
unfolding cheap calls gc_to seq_to computed
cheap-leaves = refl

dear-leaves : (computed dear calls).final.memory
    ≡ mem (0x0F ∷ 0xA0 ∷ []) (0xCC ∷ 0xFF ∷ []) (0xAA ∷ 0x0F ∷ []) (0xB1 ∷ 0xC3 ∷ []) ((14 ∷ 2 ∷ 12 ∷ 8 ∷ 7 ∷ 3 ∷ 5 ∷ 9 ∷ []) ++ (11 ∷ 10 ∷ 3 ∷ 2 ∷ 6 ∷ 6 ∷ 14 ∷ 14 ∷ []))
unfolding dear calls gc_to seq_to computed
dear-leaves = refl

-- ---- the premises hold

pub alike : Alike 3 cheap dear
unfolding cheap dear
alike = with-plane-alike 3 label (0x00 ∷ 0x18 ∷ []) (0x7E ∷ 0xF0 ∷ []) refl 0x00 0x7E 0 1 (omega arith) (omega arith)

pub obeyed : Along (Obeys 3) cheap calls
obeyed = quiet-obeys 3 calls cheap (unfold quiet calls gc_to seq_to cheap computed in refl)

pub together : Throughout 3 cheap dear calls
together = isolation 3 calls cheap dear alike obeyed

-- ---- the counters: five accepted accesses, and of the seven the refused read besides; no peek, refused or not

sum-counted : total (computed cheap calls).final.gc.stats ≡ 5
unfolding cheap calls gc_to seq_to computed
sum-counted = refl

sum-tallied : tally 0 cheap calls ≡ 5
unfolding tally_where counts_where cheap calls gc_to seq_to computed
sum-tallied = refl

seven-counted : seven_total (computed cheap calls).final.gc.stats ≡ 6
unfolding cheap calls gc_to seq_to computed
seven-counted = refl

seven-tallied : seven_tally 0 cheap calls ≡ 6
unfolding tally_where counts_where cheap calls gc_to seq_to computed
seven-tallied = refl

-- ---- the picture: the stored offset's eight pixels move, the other eight stay

painted-picture : (computed dear painting).final.memory.picture ≡ replicate 8 8 ++ (7 ∷ 11 ∷ 13 ∷ 9 ∷ 14 ∷ 10 ∷ 12 ∷ 0 ∷ [])
unfolding dear painting gc_to seq_to computed
painted-picture = refl

-- a picture that matches its planes
matched : Memory
matched = mem (0xF0 ∷ 0 ∷ []) (0xCC ∷ 0 ∷ []) (0xAA ∷ 0 ∷ []) (0x7E ∷ 0 ∷ []) ((7 ∷ 11 ∷ 13 ∷ 9 ∷ 14 ∷ 10 ∷ 12 ∷ 0 ∷ []) ++ replicate 8 0)

matches : Matches matched
unfolding Matches matched pixel_of of_bits bit
matches = agree1 16 (λ j. get_or matched.picture j 0) (λ j. pixel_of matched (j / 8) (j % 8)) tt
