-- Document 01's rules on registers that no case of the twelve reaches: one list of what the definitions give, one of what the document says, one statement.
-- By computation: a definition and a code that were wrong alike would be refused here.
use Prim.Native.Nat.{ℕ}
use mathlib.Core.Path.{◌≡◌, refl}
use mathlib.Core.List.{List, [], ◌∷◌, ◌++◌}
use lib.ListN.{replicate}
use Rattle.machine.specs.Calls.{seq_reset, seq_clock, seq_set_clock_change_pending, seq_poll_clock_change, seq_read_address, seq_read_data, seq_write_address}
use Rattle.machine.specs.Calls.{gc_reset, gc_chain, gc_chain4, gc_memory_map, gc_odd_even, gc_shift_mode, gc_read_address, gc_read_data, gc_write_address}
use Rattle.machine.specs.Step.{Call, sequencer, graphics}
use Rattle.machine.proofs.Computed.{computed}
use Rattle.machine.proofs.Worked.{start, gc_to, seq_to, says, each}

-- the controller's nine registers, read back
gc_holds : List Call → List ℕ
unfolding says each
gc_holds set = each (λ n. says (set ++ (graphics (gc_write_address n) ∷ [])) (graphics gc_read_data ∷ [])) (0 ∷ 1 ∷ 2 ∷ 3 ∷ 4 ∷ 5 ∷ 6 ∷ 7 ∷ 8 ∷ [])

-- each of them written
gc_all : (a b c d e f g h i : ℕ) → List Call
unfolding gc_to
gc_all a b c d e f g h i = gc_to 0 a ++ (gc_to 1 b ++ (gc_to 2 c ++ (gc_to 3 d ++ (gc_to 4 e ++ (gc_to 5 f ++ (gc_to 6 g ++ (gc_to 7 h ++ gc_to 8 i)))))))

-- the sequencer's five registers, read back
seq_holds : List Call → List ℕ
unfolding says each
seq_holds set = each (λ n. says (set ++ (sequencer (seq_write_address n) ∷ [])) (sequencer seq_read_data ∷ [])) (0 ∷ 1 ∷ 2 ∷ 3 ∷ 4 ∷ [])

-- each of them written
seq_all : (a b c d e : ℕ) → List Call
unfolding seq_to
seq_all a b c d e = seq_to 0 a ++ (seq_to 1 b ++ (seq_to 2 c ++ (seq_to 3 d ++ seq_to 4 e)))

-- the clock divisor, which no call answers
divides : List Call → List ℕ
unfolding start computed
divides cs = (computed start cs).final.seq.clock_divisor ∷ []

pub registers : List (List ℕ)
unfolding gc_holds gc_all seq_holds seq_all divides says each gc_to seq_to
registers =
    -- all 0 at the start; registers 0, 1, 2, 7 keep four bits, 4 keeps two, the others the whole byte; each holds its own
    gc_holds []
    ∷ gc_holds (gc_all 0xFF 0xFF 0xFF 0xFF 0xFF 0xFF 0xFF 0xFF 0xFF)
    ∷ gc_holds (gc_all 4 5 6 7 2 9 10 11 12)
    -- Mode: odd/even 4, shift 5-6; Miscellaneous: chain odd/even 1, map 2-3
    ∷ each (λ m. says (gc_to 5 m) (graphics gc_odd_even ∷ graphics gc_shift_mode ∷ graphics gc_chain4 ∷ [])) (0x0F ∷ 0x10 ∷ 0x20 ∷ 0x40 ∷ 0x60 ∷ 0x80 ∷ [])
    ∷ each (λ m. says (gc_to 6 m) (graphics gc_chain ∷ graphics gc_memory_map ∷ [])) (0x01 ∷ 0x02 ∷ 0x04 ∷ 0x08 ∷ 0x0C ∷ 0xF0 ∷ [])
    -- GC address: low four bits kept; `reset` restores the start
    ∷ says (gc_to 0xF3 0x5A) (graphics gc_read_address ∷ graphics gc_read_data ∷ [])
    ∷ says (gc_to 3 0x5A) (graphics gc_reset ∷ graphics gc_read_address ∷ graphics gc_read_data ∷ graphics (gc_write_address 3) ∷ graphics gc_read_data ∷ [])
    -- the sequencer: all 0 at the start; data lose bits 6 and 7, Reset keeps 2 bits, Map Mask 4; each holds its own
    ∷ seq_holds []
    ∷ seq_holds (seq_all 0xFF 0xFF 0xFF 0xFF 0xFF)
    ∷ seq_holds (seq_all 1 5 6 7 9)
    -- any address is kept; from 5 on Invalid is selected, which reads FF and ignores writes
    ∷ each (λ n. says (seq_to n 0x2A) (sequencer seq_read_address ∷ sequencer seq_read_data ∷ [])) (3 ∷ 5 ∷ 0xF2 ∷ [])
    ∷ seq_holds (seq_to 5 0x2A)
    -- the start: clock 9, divisor 1, no mark; no other register's write marks
    ∷ (says [] (sequencer seq_clock ∷ sequencer seq_poll_clock_change ∷ []) ++ divides [])
    ∷ says (seq_all 3 0 15 15 15) (sequencer seq_poll_clock_change ∷ sequencer seq_poll_clock_change ∷ sequencer seq_set_clock_change_pending ∷ sequencer seq_poll_clock_change ∷ [])
    ∷ says (seq_to 2 15) (sequencer seq_poll_clock_change ∷ [])
    -- Clocking Mode 1, 0, 9, 8: (divisor, clock) is (1,8), (1,9), (2,16), (2,18)
    ∷ each (λ x. says (seq_to 1 x) (sequencer seq_clock ∷ []) ++ divides (seq_to 1 x)) (1 ∷ 0 ∷ 9 ∷ 8 ∷ [])
    -- what the mark's two calls and writes to other registers leave alone
    ∷ seq_holds (seq_all 1 8 6 7 9 ++ (sequencer seq_set_clock_change_pending ∷ sequencer seq_poll_clock_change ∷ []))
    ∷ (says (seq_all 1 8 6 7 9) (sequencer seq_set_clock_change_pending ∷ sequencer seq_poll_clock_change ∷ sequencer seq_clock ∷ sequencer seq_read_address ∷ sequencer seq_read_data ∷ [])
    ++ divides (seq_all 1 8 6 7 9 ++ (sequencer seq_set_clock_change_pending ∷ sequencer seq_poll_clock_change ∷ [])))
    -- the sequencer's reset restores its start
    ∷ (says (seq_to 1 9) (sequencer seq_reset ∷ sequencer seq_clock ∷ sequencer seq_poll_clock_change ∷ sequencer seq_read_address ∷ sequencer seq_read_data ∷ [])
    ++ divides (seq_to 1 9 ++ (sequencer seq_reset ∷ [])))
    ∷ []

pub registers_said : List (List ℕ)
registers_said =
    replicate 18 0
    ∷ (0 ∷ 0x0F ∷ 0 ∷ 0x0F ∷ 0 ∷ 0x0F ∷ 0 ∷ 0xFF ∷ 0 ∷ 0x03 ∷ 0 ∷ 0xFF ∷ 0 ∷ 0xFF ∷ 0 ∷ 0x0F ∷ 0 ∷ 0xFF ∷ [])
    ∷ (0 ∷ 4 ∷ 0 ∷ 5 ∷ 0 ∷ 6 ∷ 0 ∷ 7 ∷ 0 ∷ 2 ∷ 0 ∷ 9 ∷ 0 ∷ 10 ∷ 0 ∷ 11 ∷ 0 ∷ 12 ∷ [])
    ∷ (0 ∷ 0 ∷ 0 ∷ 0 ∷ 0 ∷ 0 ∷ 0 ∷ 1 ∷ 0 ∷ 0 ∷ 0 ∷ 0 ∷ 0 ∷ 0 ∷ 0 ∷ 1 ∷ 0 ∷ 0 ∷ 0 ∷ 0 ∷ 0 ∷ 2 ∷ 0 ∷ 1 ∷ 0 ∷ 0 ∷ 0 ∷ 3 ∷ 0 ∷ 0 ∷ 0 ∷ 0 ∷ 0 ∷ 0 ∷ 0 ∷ 0 ∷ [])
    ∷ (0 ∷ 0 ∷ 0 ∷ 0 ∷ 0 ∷ 1 ∷ 0 ∷ 0 ∷ 0 ∷ 0 ∷ 0 ∷ 1 ∷ 0 ∷ 0 ∷ 0 ∷ 2 ∷ 0 ∷ 0 ∷ 0 ∷ 3 ∷ 0 ∷ 0 ∷ 0 ∷ 0 ∷ [])
    ∷ (0 ∷ 3 ∷ 0 ∷ 0x5A ∷ [])
    ∷ replicate 10 0
    ∷ replicate 10 0
    ∷ (0 ∷ 0x03 ∷ 0 ∷ 0x3F ∷ 0 ∷ 0x0F ∷ 0 ∷ 0x3F ∷ 0 ∷ 0x3F ∷ [])
    ∷ (0 ∷ 1 ∷ 0 ∷ 5 ∷ 0 ∷ 6 ∷ 0 ∷ 7 ∷ 0 ∷ 9 ∷ [])
    ∷ (0 ∷ 3 ∷ 0 ∷ 0x2A ∷ 0 ∷ 5 ∷ 0 ∷ 0xFF ∷ 0 ∷ 0xF2 ∷ 0 ∷ 0xFF ∷ [])
    ∷ replicate 10 0
    ∷ (0 ∷ 9 ∷ 0 ∷ 0 ∷ 1 ∷ [])
    ∷ (0 ∷ 1 ∷ 0 ∷ 0 ∷ 0 ∷ 0 ∷ 0 ∷ 1 ∷ [])
    ∷ (0 ∷ 0 ∷ [])
    ∷ (0 ∷ 8 ∷ 1 ∷ 0 ∷ 9 ∷ 1 ∷ 0 ∷ 16 ∷ 2 ∷ 0 ∷ 18 ∷ 2 ∷ [])
    ∷ (0 ∷ 1 ∷ 0 ∷ 8 ∷ 0 ∷ 6 ∷ 0 ∷ 7 ∷ 0 ∷ 9 ∷ [])
    ∷ (0 ∷ 0 ∷ 0 ∷ 1 ∷ 0 ∷ 18 ∷ 0 ∷ 4 ∷ 0 ∷ 9 ∷ 2 ∷ [])
    ∷ (0 ∷ 0 ∷ 0 ∷ 9 ∷ 0 ∷ 0 ∷ 0 ∷ 0 ∷ 0 ∷ 0 ∷ 1 ∷ [])
    ∷ []

pub register-rules : registers ≡ registers_said
unfolding registers registers_said
register-rules = refl
