-- K8: each read and write of the processor that is refused with 2 or 3 raises the seventh counter, and nothing else does. By computation, from the request's words; then both sums on four runs.
use Prim.Native.Nat.{ℕ, ◌^◌, ◌-◌}
use mathlib.Core.Path.{◌≡◌, refl}
use mathlib.Core.Bool.{false}
use mathlib.Core.List.{List, [], ◌∷◌, ◌++◌, map}
use lib.ListN.{replicate}
use Rattle.machine_types.specs.declared.gc.GraphicsRegister.TheVariants.{SetReset}
use Rattle.machine_types.specs.declared.seq.SequencerRegister.TheVariants.{Reset}
use Rattle.machine_types.specs.declared.gc.GraphicsController.{GraphicsController}
use Rattle.machine_types.specs.declared.seq.Sequencer.{Sequencer}
use Rattle.machine_types.specs.Start.{fresh_seq}
use Rattle.machine.specs.Memory.{Memory, mem}
use Rattle.machine.specs.Answers.{Said}
use Rattle.machine.specs.Calls.{read_u8, read_linear, write_u8, deplane, seq_reset, seq_cpu_read_u8, seq_gc_read_u8, seq_read_linear, seq_plane_set, gc_reset, gc_map_address}
use Rattle.machine.specs.Calls.{cpu_read, cpu_peek, cpu_write, serialize}
use Rattle.machine.specs.Step.{State, state, Call, vram, sequencer, direct, graphics, cpu}
use Rattle.machine.specs.Claims.{total, seven_total, counts_where, tally_where, tally, seven_tally}
use Rattle.machine.proofs.Computed.{computed}
use Rattle.machine.proofs.Worked.{start, gc_to, seq_to, says_from, says, each, counters_from, counters}

-- ---- states

-- all counters at one number; the 64K window and Set/Reset so, the other registers at their start
unfoldable pub counting : ℕ → ℕ → GraphicsController
counting n x = record {
  registers = record {
    register_select_byte = 0;
    register_selected = SetReset;
    set_reset = x;
    enable_set_reset = 0;
    color_compare = 0;
    data_rotate = 0;
    read_map_select = 0;
    mode = 0;
    miscellaneous = 4;
    color_dont_care = 0;
    bitmask = 0;
  };
  stats = record { mode_0_writes = n; mode_1_writes = n; mode_2_writes = n; mode_3_writes = n; mode_0_reads = n; mode_1_reads = n; refused_accesses = n };
  latches = 0 ∷ 0 ∷ 0 ∷ 0 ∷ [];
}

-- the sequencer at its start, but for Map Mask
unfoldable pub masking : ℕ → Sequencer
masking x = record {
  address_byte = 0;
  register_selected = Reset;
  reset = 0;
  clocking_mode = 0;
  map_mask = x;
  character_map_select = 0;
  memory_mode = 0;
  clock_change_pending = false;
  clock_divisor = 1;
  char_clock = 9;
}

-- eight bytes in planes 0 to 2, so many in plane 3
unfoldable pub planes_of : ℕ → Memory
planes_of n = mem (replicate 8 0) (replicate 8 0) (replicate 8 0) (replicate n 0) (replicate 64 0)

-- ---- the rules

-- a read and a write at each of some addresses
accesses_at : List ℕ → List Call
accesses_at [] = []
accesses_at (x ∷ xs) = cpu (cpu_read x false) ∷ cpu (cpu_write x false 0xFF) ∷ accesses_at xs

-- two outside the 64K window, two past eight bytes a plane
astray : List ℕ
astray = 0x9FFFF ∷ 0xB0000 ∷ 0xA0008 ∷ 0xAFFFF ∷ []

-- other calls that are refused: shows with 5 and 9, `map_address` with 2, reads and stores by plane with 3 and 4, pixels with 5
others : List Call
unfolding gc_to
others =
    cpu (serialize 8)
    ∷ (gc_to 5 0x20
    ++ (cpu (serialize 0)
    ∷ graphics (gc_map_address 0xB0000 false)
    ∷ direct (seq_cpu_read_u8 4 0 false)
    ∷ direct (seq_gc_read_u8 0 8 false)
    ∷ direct (seq_plane_set 0 8 false 1)
    ∷ direct (seq_read_linear 64)
    ∷ vram (read_u8 0 8)
    ∷ vram (write_u8 4 0 1)
    ∷ vram (read_linear 64)
    ∷ vram (deplane 8)
    ∷ []))

pub turned_away : List (List ℕ)
unfolding counting masking planes_of accesses_at astray others says says_from counters counters_from each gc_to seq_to
turned_away =
    -- a read and a write at each address astray are refused with 2 or 3, and counted: each alone, then all in each mode of writing and reading
    each (λ x. says (gc_to 6 4) (accesses_at (x ∷ []))) astray
    ∷ each (λ x. counters (gc_to 6 4 ++ (cpu (cpu_read x false) ∷ []))) astray
    ∷ each (λ x. counters (gc_to 6 4 ++ (cpu (cpu_write x false 0xFF) ∷ []))) astray
    ∷ each (λ m. counters (gc_to 6 4 ++ (gc_to 5 m ++ accesses_at astray))) (0 ∷ 1 ∷ 2 ∷ 3 ∷ 8 ∷ 9 ∷ 10 ∷ 11 ∷ [])
    -- the map that has no window; a write that the mask stops everywhere is refused at 8, and below it accepted
    ∷ counters (gc_to 6 8 ++ accesses_at (0xB0000 ∷ 0xB8000 ∷ []))
    ∷ counters (gc_to 6 4 ++ (seq_to 2 0 ++ (cpu (cpu_write 0xA0008 false 0xFF) ∷ cpu (cpu_write 0xA0007 false 0xFF) ∷ [])))
    -- no refused peek, and no other call that is refused
    ∷ each (λ x. counters (gc_to 6 4 ++ (cpu (cpu_peek x false) ∷ []))) astray
    ∷ says (gc_to 6 4) others
    ∷ counters (gc_to 6 4 ++ others)
    -- 6 and 1 count nothing, whatever the address: Set/Reset 16, Map Mask 16, a plane of seven bytes
    ∷ says_from (state (counting 5 16) fresh_seq (planes_of 8)) [] (accesses_at (0xA0000 ∷ astray))
    ∷ counters_from (state (counting 5 16) fresh_seq (planes_of 8)) (accesses_at (0xA0000 ∷ astray))
    ∷ says_from (state (counting 5 0) (masking 16) (planes_of 8)) [] (accesses_at (0xA0000 ∷ astray))
    ∷ counters_from (state (counting 5 0) (masking 16) (planes_of 8)) (accesses_at (0xA0000 ∷ astray))
    ∷ says_from (state (counting 5 0) fresh_seq (planes_of 7)) [] (accesses_at (0xA0000 ∷ astray))
    ∷ counters_from (state (counting 5 0) fresh_seq (planes_of 7)) (accesses_at (0xA0000 ∷ astray))
    -- by one, from 4,294,967,295 to 0
    ∷ counters_from (state (counting (2 ^ 32 - 1) 0) fresh_seq (planes_of 8)) (cpu (cpu_read 0xB0000 false) ∷ [])
    ∷ counters_from (state (counting (2 ^ 32 - 1) 0) fresh_seq (planes_of 8)) (cpu (cpu_write 0xA0008 false 0xFF) ∷ cpu (cpu_write 0xA0008 false 0xFF) ∷ [])
    -- the GC's reset clears it, the sequencer's does not
    ∷ counters_from (state (counting 5 0) fresh_seq (planes_of 8)) (graphics gc_reset ∷ [])
    ∷ counters_from (state (counting 5 0) fresh_seq (planes_of 8)) (sequencer seq_reset ∷ [])
    ∷ []

-- the six as they were, so many turned away
abbrev away : ℕ → List ℕ
away n = 0 ∷ 0 ∷ 0 ∷ 0 ∷ 0 ∷ 0 ∷ n ∷ []

-- a read and a write, both refused with a number: the value 0, four times 0
abbrev both_refused : ℕ → List ℕ
both_refused n = n ∷ 0 ∷ n ∷ 0 ∷ 0 ∷ 0 ∷ 0 ∷ []

pub turned_away_said : List (List ℕ)
unfolding each
turned_away_said =
    each both_refused (2 ∷ 2 ∷ 3 ∷ 3 ∷ [])
    ∷ each away (1 ∷ 1 ∷ 1 ∷ 1 ∷ [])
    ∷ each away (1 ∷ 1 ∷ 1 ∷ 1 ∷ [])
    ∷ each away (replicate 8 8)
    ∷ away 4
    ∷ (1 ∷ 0 ∷ 0 ∷ 0 ∷ 0 ∷ 0 ∷ 1 ∷ [])
    ∷ each away (0 ∷ 0 ∷ 0 ∷ 0 ∷ [])
    ∷ (5 ∷ 0 ∷ 0 ∷ 0 ∷ 0 ∷ 9 ∷ 2 ∷ 0 ∷ 0 ∷ 4 ∷ 0 ∷ 3 ∷ 0 ∷ 3 ∷ 0 ∷ 0 ∷ 0 ∷ 0 ∷ 5 ∷ 0 ∷ 3 ∷ 0 ∷ 4 ∷ 0 ∷ 0 ∷ 0 ∷ 0 ∷ 5 ∷ 0 ∷ 3 ∷ 0 ∷ [])
    ∷ away 0
    ∷ each both_refused (replicate 5 6)
    ∷ replicate 7 5
    ∷ each both_refused (replicate 5 6)
    ∷ replicate 7 5
    ∷ each both_refused (replicate 5 1)
    ∷ replicate 7 5
    ∷ (replicate 6 (2 ^ 32 - 1) ++ (0 ∷ []))
    ∷ (replicate 6 (2 ^ 32 - 1) ++ (1 ∷ []))
    ∷ away 0
    ∷ replicate 7 5
    ∷ []

pub turned-away-rules : turned_away ≡ turned_away_said
unfolding turned_away turned_away_said
turned-away-rules = refl

-- ---- both sums, from a reset

-- the numbers of the answers
numbers : State → List Call → List ℕ
unfolding computed
numbers s cs = map (λ (a : Said). a.number) (computed s cs).answers

-- the six's sum and the accepted accesses, the seven's sum and all but those answered 6 or 1
sums : State → List Call → List ℕ
unfolding computed tally_where counts_where
sums s cs = let c = (computed s cs).final.gc.stats in total c ∷ tally 0 s cs ∷ seven_total c ∷ seven_tally 0 s cs ∷ []

-- counters at 9, Map Mask 16
unfoldable pub odd : State
unfolding counting masking planes_of
odd = state (counting 9 0) (masking 16) (planes_of 8)

-- the controller's reset; a read answered 6; the sequencer's reset; then three accepted, a 2, a 3, and a peek that is refused
unfoldable pub mixed : List Call
unfolding gc_to
mixed =
    (graphics gc_reset ∷ cpu (cpu_read 0xA0000 false) ∷ sequencer seq_reset ∷ [])
    ++ (gc_to 6 4
    ++ (cpu (cpu_read 0xA0000 false)
    ∷ cpu (cpu_write 0xA0001 false 0xFF)
    ∷ cpu (cpu_read 0xB0000 false)
    ∷ cpu (cpu_write 0xA0008 false 0xFF)
    ∷ cpu (cpu_peek 0xA0008 false)
    ∷ cpu (cpu_read 0xA0007 false)
    ∷ []))

mixed-answers : numbers odd mixed ≡ 0 ∷ 6 ∷ 0 ∷ 0 ∷ 0 ∷ 0 ∷ 0 ∷ 2 ∷ 3 ∷ 3 ∷ 0 ∷ []
unfolding numbers odd mixed gc_to computed
mixed-answers = refl

mixed-sums : sums odd mixed ≡ 3 ∷ 3 ∷ 5 ∷ 5 ∷ []
unfolding sums odd mixed gc_to
mixed-sums = refl

-- every access to memory of another shape is answered 1
misshapen-sums : sums (state (counting 9 0) fresh_seq (planes_of 7)) mixed ≡ replicate 4 0
unfolding sums counting planes_of mixed gc_to
misshapen-sums = refl

-- a second reset begins anew: two astray, the reset, then four
begun-anew : sums start (accesses_at (0x9FFFF ∷ []) ++ (graphics gc_reset ∷ accesses_at (0x9FFFF ∷ 0xC0000 ∷ []))) ≡ 0 ∷ 0 ∷ 4 ∷ 4 ∷ []
unfolding sums start accesses_at
begun-anew = refl
