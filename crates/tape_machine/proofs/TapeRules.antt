-- Document 01's operations 0 to 8, each told apart from its neighbours by what it says and by what it leaves, and what a 7 and an 8 leave. From a tape's
-- bytes, by computation.
use Prim.Native.Nat.{ℕ}
use mathlib.Core.Path.{◌≡◌, refl}
use mathlib.Core.Bool.{true}
use mathlib.Core.List.{List, [], ◌∷◌, ◌++◌}
use lib.ListN.{replicate, take}
use Rattle.bits.specs.Bit.{bit_of}
use Rattle.machine_types.specs.declared.gc.GraphicsRegister.TheVariants.{BitMask}
use Rattle.machine_types.specs.declared.gc.GraphicsRegisters.{GraphicsRegisters}
use Rattle.machine_types.specs.declared.gc.GraphicsControllerStats.{GraphicsControllerStats}
use Rattle.machine_types.specs.declared.seq.SequencerRegister.TheVariants.{MapMask}
use Rattle.machine_types.specs.declared.seq.Sequencer.{Sequencer}
use Rattle.machine.specs.Memory.{Memory, mem}
use Rattle.machine.specs.Graphics.{register_number, gc_of}
use Rattle.machine.specs.Sequencer.{seq_number}
use Rattle.machine.specs.Step.{State, state}
use Rattle.tape_machine.specs.Run.{TapeRun}
use Rattle.tape_machine.proofs.Computed.{roomy_run, line, show_line, digits_line}

-- ---- a machine that is nowhere at its start: four bytes a plane, no two alike; the 64K map with chain odd/even, map select 1

scene : State
scene = state (gc_of registers_there counters_there (1 ∷ 2 ∷ 4 ∷ 8 ∷ [])) sequencer_there memory_there
  where
    registers_there : GraphicsRegisters
    registers_there = record {
      register_select_byte = 8;
      register_selected = BitMask;
      set_reset = 9;
      enable_set_reset = 8;
      color_compare = 3;
      data_rotate = 1;
      read_map_select = 1;
      mode = 4;
      miscellaneous = 6;
      color_dont_care = 7;
      bitmask = 0xFF;
    }

    counters_there : GraphicsControllerStats
    counters_there = record { mode_0_writes = 10; mode_1_writes = 20; mode_2_writes = 30; mode_3_writes = 40; mode_0_reads = 50; mode_1_reads = 60; refused_accesses = 70 }

    sequencer_there : Sequencer
    sequencer_there = record {
      address_byte = 2;
      register_selected = MapMask;
      reset = 3;
      clocking_mode = 9;
      map_mask = 11;
      character_map_select = 5;
      memory_mode = 4;
      clock_change_pending = true;
      clock_divisor = 2;
      char_clock = 16;
    }

    memory_there : Memory
    memory_there = mem (0x10 ∷ 0x11 ∷ 0x12 ∷ 0x13 ∷ []) (0x20 ∷ 0x21 ∷ 0x22 ∷ 0x23 ∷ []) (0x40 ∷ 0x41 ∷ 0x42 ∷ 0x43 ∷ []) (0x80 ∷ 0x81 ∷ 0x82 ∷ 0x83 ∷ [])
        (replicate 8 1 ++ (replicate 8 2 ++ (replicate 8 3 ++ replicate 8 4)))

-- ---- what a tape says and leaves there: lines, controller, sequencer, latches, counters, planes, pixels

gc_numbers : TapeRun → List ℕ
gc_numbers o =
    let r = o.ran.gc.registers in
    r.register_select_byte ∷ register_number r.register_selected ∷ r.set_reset ∷ r.enable_set_reset ∷ r.color_compare
    ∷ r.data_rotate ∷ r.read_map_select ∷ r.mode ∷ r.miscellaneous ∷ r.color_dont_care ∷ r.bitmask ∷ []

seq_numbers : TapeRun → List ℕ
seq_numbers o =
    let s = o.ran.seq in
    s.address_byte ∷ seq_number s.register_selected ∷ s.reset ∷ s.clocking_mode ∷ s.map_mask ∷ s.character_map_select
    ∷ s.memory_mode ∷ bit_of s.clock_change_pending ∷ s.clock_divisor ∷ s.char_clock ∷ []

counter_numbers : TapeRun → List ℕ
counter_numbers o =
    let c = o.ran.gc.stats in
    c.mode_0_writes ∷ c.mode_1_writes ∷ c.mode_2_writes ∷ c.mode_3_writes ∷ c.mode_0_reads ∷ c.mode_1_reads ∷ c.refused_accesses ∷ []

plane_numbers : TapeRun → List ℕ
plane_numbers o = let m = o.memory in m.p0 ++ (m.p1 ++ (m.p2 ++ m.p3))

played : List ℕ → List (List ℕ)
unfolding scene roomy_run gc_numbers seq_numbers counter_numbers plane_numbers
played tape =
    let o = roomy_run tape scene in
    take o.ran.written o.out ∷ gc_numbers o ∷ seq_numbers o ∷ o.ran.gc.latches ∷ counter_numbers o ∷ plane_numbers o ∷ o.memory.picture ∷ []

-- ---- each operation. A0000 is 80 80 28, A0002 is 82 80 28, A0003 is 83 80 28, B8001 is 81 80 2E

pub operations : List (List (List ℕ))
unfolding played
operations =
    -- 0 reset both
    played (0 ∷ [])
    -- 1, 2 GC address, data
    ∷ played (1 ∷ 0x13 ∷ [])
    ∷ played (2 ∷ 0x5A ∷ [])
    -- 3, 4 sequencer address, data
    ∷ played (3 ∷ 4 ∷ [])
    ∷ played (4 ∷ 0x36 ∷ [])
    -- 5 read: address A0003, page 0; address A0002, page 1
    ∷ played (5 ∷ 0x83 ∷ 0x80 ∷ 0x28 ∷ 0 ∷ [])
    ∷ played (5 ∷ 0x82 ∷ 0x80 ∷ 0x28 ∷ 1 ∷ [])
    -- 6 write: the same, and byte A5
    ∷ played (6 ∷ 0x83 ∷ 0x80 ∷ 0x28 ∷ 0 ∷ 0xA5 ∷ 1 ∷ [])
    ∷ played (6 ∷ 0x82 ∷ 0x80 ∷ 0x28 ∷ 1 ∷ 0xA5 ∷ 1 ∷ [])
    -- 7 peek: the same
    ∷ played (7 ∷ 0x83 ∷ 0x80 ∷ 0x28 ∷ 0 ∷ 7 ∷ 0x82 ∷ 0x80 ∷ 0x28 ∷ 1 ∷ [])
    -- 8 show: offsets 1, 3 and 4
    ∷ played (8 ∷ 1 ∷ 8 ∷ 3 ∷ 8 ∷ 4 ∷ [])
    -- Mode 40, then 20: shows of offsets 3 and 2, then of 2 and 3; Mode 60: offset 3
    ∷ played (1 ∷ 5 ∷ 2 ∷ 0x40 ∷ 8 ∷ 3 ∷ 8 ∷ 2 ∷ [])
    ∷ played (1 ∷ 5 ∷ 2 ∷ 0x20 ∷ 8 ∷ 2 ∷ 8 ∷ 3 ∷ [])
    ∷ played (1 ∷ 5 ∷ 2 ∷ 0x60 ∷ 8 ∷ 3 ∷ [])
    -- a read of A0000, a peek at another place, write mode 1: the latches are those of the read
    ∷ played (5 ∷ 0x80 ∷ 0x80 ∷ 0x28 ∷ 0 ∷ 7 ∷ 0x82 ∷ 0x80 ∷ 0x28 ∷ 1 ∷ 1 ∷ 5 ∷ 2 ∷ 1 ∷ 6 ∷ 0x82 ∷ 0x80 ∷ 0x28 ∷ 0 ∷ 0x7F ∷ [])
    -- write mode 3: byte A5 at A0003
    ∷ played (1 ∷ 5 ∷ 2 ∷ 3 ∷ 6 ∷ 0x83 ∷ 0x80 ∷ 0x28 ∷ 0 ∷ 0xA5 ∷ 1 ∷ [])
    -- Memory Mode 8, chain-four: a read of A0003, page 0, and a peek of A0002, page 1
    ∷ played (3 ∷ 4 ∷ 4 ∷ 8 ∷ 5 ∷ 0x83 ∷ 0x80 ∷ 0x28 ∷ 0 ∷ 7 ∷ 0x82 ∷ 0x80 ∷ 0x28 ∷ 1 ∷ [])
    -- another map: reads of B8001 and of A0002
    ∷ played (1 ∷ 6 ∷ 2 ∷ 12 ∷ 5 ∷ 0x81 ∷ 0x80 ∷ 0x2E ∷ 1 ∷ 5 ∷ 0x82 ∷ 0x80 ∷ 0x28 ∷ 0 ∷ [])
    -- past the planes: a read, a write and a peek of A0005
    ∷ played (5 ∷ 0x85 ∷ 0x80 ∷ 0x28 ∷ 0 ∷ 6 ∷ 0x85 ∷ 0x80 ∷ 0x28 ∷ 0 ∷ 0xA5 ∷ 1 ∷ 7 ∷ 0x85 ∷ 0x80 ∷ 0x28 ∷ 0 ∷ [])
    -- an operation of 9, a page of 2, a read that is cut, a number that is damaged: each after a record that stays done
    ∷ played (1 ∷ 0x13 ∷ 9 ∷ 0 ∷ [])
    ∷ played (1 ∷ 0x13 ∷ 5 ∷ 0x82 ∷ 0x80 ∷ 0x28 ∷ 2 ∷ 0 ∷ [])
    ∷ played (1 ∷ 0x13 ∷ 5 ∷ 0x82 ∷ [])
    ∷ played (1 ∷ 0x13 ∷ 3 ∷ 0x84 ∷ 0 ∷ 0 ∷ [])
    ∷ []

-- ---- what the document says

-- the scene as it stands
scene_gc : List ℕ
scene_gc = 8 ∷ 8 ∷ 9 ∷ 8 ∷ 3 ∷ 1 ∷ 1 ∷ 4 ∷ 6 ∷ 7 ∷ 0xFF ∷ []

scene_seq : List ℕ
scene_seq = 2 ∷ 2 ∷ 3 ∷ 9 ∷ 11 ∷ 5 ∷ 4 ∷ 1 ∷ 2 ∷ 16 ∷ []

scene_latches : List ℕ
scene_latches = 1 ∷ 2 ∷ 4 ∷ 8 ∷ []

scene_counts : List ℕ
scene_counts = 10 ∷ 20 ∷ 30 ∷ 40 ∷ 50 ∷ 60 ∷ 70 ∷ []

scene_bytes : List ℕ
scene_bytes = 0x10 ∷ 0x11 ∷ 0x12 ∷ 0x13 ∷ 0x20 ∷ 0x21 ∷ 0x22 ∷ 0x23 ∷ 0x40 ∷ 0x41 ∷ 0x42 ∷ 0x43 ∷ 0x80 ∷ 0x81 ∷ 0x82 ∷ 0x83 ∷ []

scene_pixels : List ℕ
scene_pixels = replicate 8 1 ++ (replicate 8 2 ++ (replicate 8 3 ++ replicate 8 4))

-- what a Mode leaves
in_mode : ℕ → List (List ℕ)
unfolding scene_seq scene_latches scene_counts scene_bytes scene_pixels
in_mode mode = (5 ∷ 5 ∷ 9 ∷ 8 ∷ 3 ∷ 1 ∷ 1 ∷ mode ∷ 6 ∷ 7 ∷ 0xFF ∷ []) ∷ scene_seq ∷ scene_latches ∷ scene_counts ∷ scene_bytes ∷ scene_pixels ∷ []

-- the lines of a GC address 13 and of a record that breaks; what they leave
broken_after : List ℕ → List (List ℕ)
unfolding line scene_seq scene_latches scene_counts scene_bytes scene_pixels
broken_after last = (line 1 1 0 0 ++ last) ∷ (3 ∷ 3 ∷ 9 ∷ 8 ∷ 3 ∷ 1 ∷ 1 ∷ 4 ∷ 6 ∷ 7 ∷ 0xFF ∷ []) ∷ scene_seq ∷ scene_latches ∷ scene_counts ∷ scene_bytes ∷ scene_pixels ∷ []

pub operations_said : List (List (List ℕ))
unfolding line show_line digits_line broken_after in_mode scene_gc scene_seq scene_latches scene_counts scene_bytes scene_pixels
operations_said =
    -- all 0, latches and counters too; Reset selected, divisor 1, character clock 9, no change pending. Memory stays
    (line 1 0 0 0 ∷ replicate 11 0 ∷ (0 ∷ 0 ∷ 0 ∷ 0 ∷ 0 ∷ 0 ∷ 0 ∷ 0 ∷ 1 ∷ 9 ∷ []) ∷ replicate 4 0 ∷ replicate 7 0 ∷ scene_bytes ∷ scene_pixels ∷ [])
    -- the low four bits of 13; Bit Mask 5A
    ∷ (line 1 1 0 0 ∷ (3 ∷ 3 ∷ 9 ∷ 8 ∷ 3 ∷ 1 ∷ 1 ∷ 4 ∷ 6 ∷ 7 ∷ 0xFF ∷ []) ∷ scene_seq ∷ scene_latches ∷ scene_counts ∷ scene_bytes ∷ scene_pixels ∷ [])
    ∷ (line 1 2 0 0 ∷ (8 ∷ 8 ∷ 9 ∷ 8 ∷ 3 ∷ 1 ∷ 1 ∷ 4 ∷ 6 ∷ 7 ∷ 0x5A ∷ []) ∷ scene_seq ∷ scene_latches ∷ scene_counts ∷ scene_bytes ∷ scene_pixels ∷ [])
    -- Memory Mode selected; Map Mask 6, of four bits
    ∷ (line 1 3 0 0 ∷ scene_gc ∷ (4 ∷ 4 ∷ 3 ∷ 9 ∷ 11 ∷ 5 ∷ 4 ∷ 1 ∷ 2 ∷ 16 ∷ []) ∷ scene_latches ∷ scene_counts ∷ scene_bytes ∷ scene_pixels ∷ [])
    ∷ (line 1 4 0 0 ∷ scene_gc ∷ (2 ∷ 2 ∷ 3 ∷ 9 ∷ 6 ∷ 5 ∷ 4 ∷ 1 ∷ 2 ∷ 16 ∷ []) ∷ scene_latches ∷ scene_counts ∷ scene_bytes ∷ scene_pixels ∷ [])
    -- plane 1 at offset 2, then at 3: bit 0 becomes the page bit. The latches are loaded there, and the read is counted
    ∷ (line 1 5 0 0x22 ∷ scene_gc ∷ scene_seq ∷ (0x12 ∷ 0x22 ∷ 0x42 ∷ 0x82 ∷ []) ∷ (10 ∷ 20 ∷ 30 ∷ 40 ∷ 51 ∷ 60 ∷ 70 ∷ []) ∷ scene_bytes ∷ scene_pixels ∷ [])
    ∷ (line 1 5 0 0x23 ∷ scene_gc ∷ scene_seq ∷ (0x13 ∷ 0x23 ∷ 0x43 ∷ 0x83 ∷ []) ∷ (10 ∷ 20 ∷ 30 ∷ 40 ∷ 51 ∷ 60 ∷ 70 ∷ []) ∷ scene_bytes ∷ scene_pixels ∷ [])
    -- A5 turned right by 1 is D2; Set/Reset makes it FF for plane 3; Map Mask B keeps plane 2 out. At offset 2, then at 3
    ∷ (line 1 6 0 0 ∷ scene_gc ∷ scene_seq ∷ scene_latches ∷ (11 ∷ 20 ∷ 30 ∷ 40 ∷ 50 ∷ 60 ∷ 70 ∷ [])
    ∷ (0x10 ∷ 0x11 ∷ 0xD2 ∷ 0x13 ∷ 0x20 ∷ 0x21 ∷ 0xD2 ∷ 0x23 ∷ 0x40 ∷ 0x41 ∷ 0x42 ∷ 0x43 ∷ 0x80 ∷ 0x81 ∷ 0xFF ∷ 0x83 ∷ [])
    ∷ (replicate 8 1 ++ (replicate 8 2 ++ ((11 ∷ 15 ∷ 8 ∷ 11 ∷ 8 ∷ 8 ∷ 15 ∷ 8 ∷ []) ++ replicate 8 4))) ∷ [])
    ∷ (line 1 6 0 0 ∷ scene_gc ∷ scene_seq ∷ scene_latches ∷ (11 ∷ 20 ∷ 30 ∷ 40 ∷ 50 ∷ 60 ∷ 70 ∷ [])
    ∷ (0x10 ∷ 0x11 ∷ 0x12 ∷ 0xD2 ∷ 0x20 ∷ 0x21 ∷ 0x22 ∷ 0xD2 ∷ 0x40 ∷ 0x41 ∷ 0x42 ∷ 0x43 ∷ 0x80 ∷ 0x81 ∷ 0x82 ∷ 0xFF ∷ [])
    ∷ (replicate 8 1 ++ (replicate 8 2 ++ (replicate 8 3 ++ (11 ∷ 15 ∷ 8 ∷ 11 ∷ 8 ∷ 8 ∷ 15 ∷ 12 ∷ [])))) ∷ [])
    -- plane 0 whatever the map select; no latch or counter moves
    ∷ ((line 1 7 0 0x12 ++ line 2 7 0 0x13) ∷ scene_gc ∷ scene_seq ∷ scene_latches ∷ scene_counts ∷ scene_bytes ∷ scene_pixels ∷ [])
    -- eight pixels at 8 times the offset; 4 is n
    ∷ ((show_line 1 2 ++ (show_line 2 4 ++ line 3 8 5 0)) ∷ scene_gc ∷ scene_seq ∷ scene_latches ∷ scene_counts ∷ scene_bytes ∷ scene_pixels ∷ [])
    -- 13, 23, 43, 83 and 12, 22, 42, 82 by four bits; 12 and plane 1's next, 23, by two, and 5 at the last offset; the picture again
    ∷ ((line 1 1 0 0 ++ (line 2 2 0 0 ++ (digits_line 3 (1 ∷ 3 ∷ 2 ∷ 3 ∷ 4 ∷ 3 ∷ 8 ∷ 3 ∷ []) ++ digits_line 4 (1 ∷ 2 ∷ 2 ∷ 2 ∷ 4 ∷ 2 ∷ 8 ∷ 2 ∷ [])))) ∷ in_mode 0x40)
    ∷ ((line 1 1 0 0 ++ (line 2 2 0 0 ++ (digits_line 3 (0 ∷ 1 ∷ 0 ∷ 2 ∷ 0 ∷ 2 ∷ 0 ∷ 3 ∷ []) ++ line 4 8 5 0))) ∷ in_mode 0x20)
    ∷ ((line 1 1 0 0 ++ (line 2 2 0 0 ++ show_line 3 4)) ∷ in_mode 0x60)
    -- planes 0, 1 and 3 get 10, 20 and 80 at offset 2
    ∷ ((line 1 5 0 0x20 ++ (line 2 7 0 0x13 ++ (line 3 1 0 0 ++ (line 4 2 0 0 ++ line 5 6 0 0)))) ∷ (5 ∷ 5 ∷ 9 ∷ 8 ∷ 3 ∷ 1 ∷ 1 ∷ 1 ∷ 6 ∷ 7 ∷ 0xFF ∷ []) ∷ scene_seq
    ∷ (0x10 ∷ 0x20 ∷ 0x40 ∷ 0x80 ∷ []) ∷ (10 ∷ 21 ∷ 30 ∷ 40 ∷ 51 ∷ 60 ∷ 70 ∷ [])
    ∷ (0x10 ∷ 0x11 ∷ 0x10 ∷ 0x13 ∷ 0x20 ∷ 0x21 ∷ 0x20 ∷ 0x23 ∷ 0x40 ∷ 0x41 ∷ 0x42 ∷ 0x43 ∷ 0x80 ∷ 0x81 ∷ 0x80 ∷ 0x83 ∷ [])
    ∷ (replicate 8 1 ++ (replicate 8 2 ++ ((8 ∷ 4 ∷ 2 ∷ 1 ∷ 0 ∷ 0 ∷ 4 ∷ 0 ∷ []) ++ replicate 8 4))) ∷ [])
    -- the mask is D2; Set/Reset 9 gives planes 0 and 3 FF there, though Enable has plane 3 alone, and plane 1 00; the latches' other bits are kept. At offset 2
    ∷ ((line 1 1 0 0 ++ (line 2 2 0 0 ++ line 3 6 0 0)) ∷ (5 ∷ 5 ∷ 9 ∷ 8 ∷ 3 ∷ 1 ∷ 1 ∷ 3 ∷ 6 ∷ 7 ∷ 0xFF ∷ []) ∷ scene_seq ∷ scene_latches ∷ (10 ∷ 20 ∷ 30 ∷ 41 ∷ 50 ∷ 60 ∷ 70 ∷ [])
    ∷ (0x10 ∷ 0x11 ∷ 0xD3 ∷ 0x13 ∷ 0x20 ∷ 0x21 ∷ 0 ∷ 0x23 ∷ 0x40 ∷ 0x41 ∷ 0x42 ∷ 0x43 ∷ 0x80 ∷ 0x81 ∷ 0xDA ∷ 0x83 ∷ [])
    ∷ (replicate 8 1 ++ (replicate 8 2 ++ ((9 ∷ 13 ∷ 0 ∷ 9 ∷ 8 ∷ 0 ∷ 13 ∷ 1 ∷ []) ++ replicate 8 4))) ∷ [])
    -- offsets 2 and 3: planes 2 and 3 at offset 0, where all latches are loaded; the peek moves none and counts nothing
    ∷ ((line 1 3 0 0 ++ (line 2 4 0 0 ++ (line 3 5 0 0x40 ++ line 4 7 0 0x80))) ∷ scene_gc ∷ (4 ∷ 4 ∷ 3 ∷ 9 ∷ 11 ∷ 5 ∷ 8 ∷ 1 ∷ 2 ∷ 16 ∷ []) ∷ (0x10 ∷ 0x20 ∷ 0x40 ∷ 0x80 ∷ [])
    ∷ (10 ∷ 20 ∷ 30 ∷ 40 ∷ 51 ∷ 60 ∷ 70 ∷ []) ∷ scene_bytes ∷ scene_pixels ∷ [])
    -- B8000: minus B8000; A0002 is outside its window, and the read of it is counted as turned away
    ∷ ((line 1 1 0 0 ++ (line 2 2 0 0 ++ (line 3 5 0 0x21 ++ line 4 5 2 0))) ∷ (6 ∷ 6 ∷ 9 ∷ 8 ∷ 3 ∷ 1 ∷ 1 ∷ 4 ∷ 12 ∷ 7 ∷ 0xFF ∷ []) ∷ scene_seq
    ∷ (0x11 ∷ 0x21 ∷ 0x41 ∷ 0x81 ∷ []) ∷ (10 ∷ 20 ∷ 30 ∷ 40 ∷ 51 ∷ 60 ∷ 71 ∷ []) ∷ scene_bytes ∷ scene_pixels ∷ [])
    -- offset 4 is n: the read and the write are counted as turned away, the peek is not
    ∷ ((line 1 5 3 0 ++ (line 2 6 3 0 ++ line 3 7 3 0)) ∷ scene_gc ∷ scene_seq ∷ scene_latches ∷ (10 ∷ 20 ∷ 30 ∷ 40 ∷ 50 ∷ 60 ∷ 72 ∷ []) ∷ scene_bytes ∷ scene_pixels ∷ [])
    -- 8 and 7 undo no record before them
    ∷ broken_after (line 2 9 8 0)
    ∷ broken_after (line 2 5 8 0)
    ∷ broken_after (line 2 5 7 0)
    ∷ broken_after (line 2 3 7 0)
    ∷ []

pub tape-rules : operations ≡ operations_said
unfolding operations operations_said
tape-rules = refl
