-- What worked examples are made of: a start, registers written, what calls say and what they leave. Each computes.
use Prim.Native.Nat.{ℕ, ◌*◌}
use mathlib.Core.Bool.{false}
use mathlib.Core.List.{List, [], ◌∷◌, ◌++◌, map}
use lib.ListN.{replicate, set, take}
use Rattle.machine.specs.Memory.{Memory, mem}
use Rattle.machine.specs.Answers.{Value, one, two, pixel, part, changes, shown, Said, said}
use Rattle.machine_types.specs.declared.gc.ShiftMode.{ShiftMode}
use Rattle.machine_types.specs.Start.{fresh_gc, fresh_seq}
use Rattle.machine.specs.Calls.{write_u8, seq_write_address, seq_write_data, gc_write_address, gc_write_data, gc_map_address, cpu_write}
use Rattle.machine.specs.Step.{State, state, Call, vram, sequencer, graphics, cpu}
use Rattle.machine.proofs.Computed.{computed}

-- both register sets at their start, so many bytes a plane, all 0
abbrev pub start_of : ℕ → State
start_of n = state fresh_gc fresh_seq (mem (replicate n 0) (replicate n 0) (replicate n 0) (replicate n 0) (replicate (8 * n) 0))

-- eight bytes a plane
unfoldable pub start : State
start = start_of 8

-- an answer as numbers: its own, then its value's
unfoldable pub told : Said → List ℕ
told a = a.number ∷ values a.value
  where
    values : Value → List ℕ
    values (one x) = x ∷ []
    values (two x y) = x ∷ y ∷ []
    values (pixel x) = x ∷ []
    values (part l) = l
    values (changes a b c d) = a ∷ b ∷ c ∷ d ∷ []
    values (shown d l) = l

-- an accepted answer: a number, a pixel, an older show's pixels, a store's four numbers, a show's pixels by its shift mode
abbrev pub a_number : ℕ → Said
a_number x = said 0 (one x)

abbrev pub a_pixel : ℕ → Said
a_pixel x = said 0 (pixel x)

abbrev pub a_show : List ℕ → Said
a_show l = said 0 (part l)

abbrev pub a_store : ℕ → ℕ → ℕ → ℕ → Said
a_store a b c d = said 0 (changes a b c d)

abbrev pub pixels_in : ShiftMode → List ℕ → Said
pixels_in d l = said 0 (shown d l)

-- four numbers, one for each plane: n of plane p, 0 of the others
abbrev pub in_plane : ℕ → ℕ → List ℕ
in_plane p n = set (replicate 4 0) p n

-- a register written: its number, its data
unfoldable pub gc_to : ℕ → ℕ → List Call
gc_to n x = graphics (gc_write_address n) ∷ graphics (gc_write_data x) ∷ []

unfoldable pub seq_to : ℕ → ℕ → List Call
seq_to n x = sequencer (seq_write_address n) ∷ sequencer (seq_write_data x) ∷ []

-- what calls say, after others that set the registers and the memory up, from a state
unfoldable pub says_from : State → List Call → List Call → List ℕ
unfolding told computed
says_from s set cs = flat (computed (computed s set).final cs).answers
  where
    flat : List Said → List ℕ
    flat [] = []
    flat (a ∷ as') = told a ++ flat as'

-- .. from that start
unfoldable pub says : List Call → List Call → List ℕ
unfolding start says_from
says = says_from start

-- what they leave
unfoldable pub leaves : List Call → Memory
unfolding start computed
leaves cs = (computed start cs).final.memory

-- where addresses lead, with Miscellaneous so and the page bit clear
unfoldable pub leads : ℕ → List ℕ → List ℕ
unfolding says gc_to
leads m xs = says (gc_to 6 m) (map (λ x. graphics (gc_map_address x false)) xs)

-- what is told of each number of a list, one after the other
unfoldable pub each : (ℕ → List ℕ) → List ℕ → List ℕ
each f [] = []
each f (x ∷ xs) = f x ++ each f xs

-- the first two bytes of each plane after calls
unfoldable pub tops : List Call → List ℕ
unfolding leaves
tops cs = let m = leaves cs in take 2 m.p0 ++ (take 2 m.p1 ++ (take 2 m.p2 ++ take 2 m.p3))

-- the seven counters after calls, from a state
unfoldable pub counters_from : State → List Call → List ℕ
unfolding computed
counters_from s cs =
    let c = (computed s cs).final.gc.stats in
    c.mode_0_writes ∷ c.mode_1_writes ∷ c.mode_2_writes ∷ c.mode_3_writes ∷ c.mode_0_reads ∷ c.mode_1_reads ∷ c.refused_accesses ∷ []

-- .. from that start
unfoldable pub counters : List Call → List ℕ
unfolding start counters_from
counters = counters_from start

-- the first byte of each plane and the first eight pixels after calls
unfoldable pub firsts : List Call → List ℕ
unfolding leaves
firsts cs = let m = leaves cs in take 1 m.p0 ++ (take 1 m.p1 ++ (take 1 m.p2 ++ (take 1 m.p3 ++ take 8 m.picture)))

-- case 10's write: chain-four, offset 5, Map Mask 0, GC sequential
unfoldable pub case10 : List Call
unfolding gc_to seq_to
case10 = gc_to 6 4 ++ (gc_to 8 0xFF ++ (seq_to 4 12 ++ (cpu (cpu_write 0xA0005 false 0xFF) ∷ [])))

-- case 11's write: mode 2, byte 5, Bit Mask FF, Map Mask 7, function 0, sequential
unfoldable pub case11 : List Call
unfolding gc_to seq_to
case11 = gc_to 6 4 ++ (gc_to 8 0xFF ++ (gc_to 5 2 ++ (seq_to 4 4 ++ (seq_to 2 7 ++ (cpu (cpu_write 0xA0000 false 5) ∷ [])))))

-- the 64K window, sequential, every plane in the mask, Bit Mask FF; 11, 22, 44, 88 in the planes' first bytes and 1, 2, 4, 8 in the next
unfoldable pub painted : List Call
unfolding gc_to seq_to
painted =
    gc_to 6 4
    ++ (seq_to 4 4
    ++ (seq_to 2 15
    ++ (gc_to 8 0xFF
    ++ (vram (write_u8 0 0 0x11)
    ∷ vram (write_u8 1 0 0x22)
    ∷ vram (write_u8 2 0 0x44)
    ∷ vram (write_u8 3 0 0x88)
    ∷ vram (write_u8 0 1 1)
    ∷ vram (write_u8 1 1 2)
    ∷ vram (write_u8 2 1 4)
    ∷ vram (write_u8 3 1 8)
    ∷ []))))
