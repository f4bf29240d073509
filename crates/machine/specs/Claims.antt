-- The words in which the theorems on the machine are put: what each refusal asks and leaves, accesses counted, a picture that matches, pixels that may move.
use Rattle.std.specs.Prelude.{ℕ, ◌+◌, ◌*◌, ◌/◌, ◌%◌, ◌^◌, ◌<◌, ◌≤◌, ◌≢◌, ◌≡◌, Bool, true, false, ◌||◌, not, List, [], ◌∷◌, eqb, length, get_or}
use Rattle.bits.specs.Bit.{pick}
use Rattle.machine_types.specs.declared.gc.MemoryMap.{MemoryMap}
use Rattle.machine_types.specs.declared.gc.MemoryMap.TheVariants.{A0000_128k, A0000_64K, B0000_32K, B8000_32K}
use Rattle.machine_types.specs.declared.gc.ShiftMode.TheVariants.{CGACompatible, Chain4}
use Rattle.machine_types.specs.declared.gc.GraphicsRegisters.{GraphicsRegisters}
use Rattle.machine_types.specs.declared.gc.GraphicsControllerStats.{GraphicsControllerStats}
use Rattle.machine_types.specs.declared.gc.GraphicsController.{GraphicsController}
use Rattle.machine_types.specs.declared.seq.Sequencer.{Sequencer}
use Rattle.machine_types.specs.Start.{fresh_gc, fresh_seq}
use Rattle.machine.specs.Memory.{Memory, shape, Shaped}
use Rattle.machine.specs.Answers.{blank, Outcome}
use Rattle.machine.specs.Graphics.{shift_mode, memory_map}
use Rattle.machine.specs.Address.{offset}
use Rattle.machine.specs.Deeds.{Deed, rest, load, store, remake, byte, pixel_of, stored_byte, any, changed_bits}
use Rattle.machine.specs.Calls.{VramCall, read_u8, peek_u8, read_glyph, read_linear, serialize_linear, write_u8, plane_set, plane_and, plane_or, deplane, vram_plan}
use Rattle.machine.specs.Calls.{SequencerCall, seq_reset, seq_clock, seq_set_clock_change_pending, seq_poll_clock_change, seq_read_address, seq_read_data, seq_write_address, seq_write_data}
use Rattle.machine.specs.Calls.{DirectCall, seq_cpu_read_u8, seq_peek_u8, seq_gc_read_u8, seq_read_linear, seq_serialize_linear, seq_plane_set, seq_plane_and, seq_plane_or, direct_plan}
use Rattle.machine.specs.Calls.{GraphicsCall, gc_reset, gc_chain, gc_chain4, gc_memory_map, gc_odd_even, gc_shift_mode, gc_read_address, gc_read_data, gc_write_address, gc_write_data, gc_map_address}
use Rattle.machine.specs.Calls.{CpuCall, cpu_read, cpu_peek, cpu_write, serialize, show_pixels, cpu_plan}
use Rattle.machine.specs.Step.{State, state, Call, vram, sequencer, direct, graphics, cpu, with_gc, step}

-- ---- `refused-exactly`: what each call looks for, and in which order

-- a refusal's number, and what keeps it away
pub record Check : Type 1 where
  pub number : ℕ
  pub right : Type 0

-- the check of a number and what keeps it away
abbrev pub check : ℕ → Type 0 → Check
check n p = record { number = n; right = p }

-- 6: the state holds a value its registers cannot
pub record RightGc (r : GraphicsRegisters) : Type 0 where
  pub address : r.register_select_byte ≤ 15
  pub set_reset : r.set_reset ≤ 15
  pub enable : r.enable_set_reset ≤ 15
  pub compare : r.color_compare ≤ 15
  pub dont_care : r.color_dont_care ≤ 15
  pub map_select : r.read_map_select ≤ 3

-- 6, of the sequencer: Reset above 3, Map Mask above 15, the other three above 63
pub record RightSeq (s : Sequencer) : Type 0 where
  pub reset : s.reset ≤ 3
  pub map_mask : s.map_mask ≤ 15
  pub clocking_mode : s.clocking_mode ≤ 63
  pub character_map_select : s.character_map_select ≤ 63
  pub memory_mode : s.memory_mode ≤ 63

-- 2: the address is outside the current window, or the map is B0000_32K
abbrev pub InWindow : MemoryMap → ℕ → Type 0
InWindow A0000_128k x = (0xA0000 ≤ x) × (x ≤ 0xBFFFF)
InWindow A0000_64K x = (0xA0000 ≤ x) × (x ≤ 0xAFFFF)
InWindow B0000_32K x = ⊥
InWindow B8000_32K x = (0xB8000 ≤ x) × (x ≤ 0xBFFFF)

-- 6, of a call that is handed the controller's record
abbrev pub for_gc : GraphicsRegisters → Check
for_gc r = check 6 (RightGc r)

-- 6, of a call that is handed the sequencer's record
abbrev pub for_seq : Sequencer → Check
for_seq s = check 6 (RightSeq s)

-- 6, of a call that is handed both records
abbrev pub for_both : GraphicsRegisters → Sequencer → Check
for_both r s = check 6 (RightGc r × RightSeq s)

-- 1: plane lengths differ, n is 0 or above 65,536, or the picture isn't 8n long
abbrev pub for_memory : Memory → Check
for_memory m = check 1 (Shaped m)

-- 9: the older show while the shift mode is Chain4 or CGACompatible
abbrev pub for_shift : GraphicsRegisters → Check
for_shift r = check 9 ((shift_mode r ≢ Chain4) × (shift_mode r ≢ CGACompatible))

-- 4: a plane number is above 3
abbrev pub for_plane : ℕ → Check
for_plane p = check 4 (p ≤ 3)

-- 2, of an address and the current map
abbrev pub for_window : GraphicsRegisters → ℕ → Check
for_window r x = check 2 (InWindow (memory_map r) x)

-- 3: a plane offset is n or more
abbrev pub for_offset : Memory → ℕ → Check
for_offset m o = check 3 (o < length m.p0)

-- 5: a shown offset is n or more, or a pixel place is 8n or more
abbrev pub for_shown : Memory → ℕ → Check
for_shown m o = check 5 (o < length m.p0)

-- 5, of K3's show: "a CGA show whose next offset is n or more" too
abbrev pub for_pixels : GraphicsRegisters → Memory → ℕ → Check
for_pixels r m o = check 5 ((o < length m.p0) × (shift_mode r ≡ CGACompatible → o + 1 < length m.p0))

-- 5, of a pixel place
abbrev pub for_place : Memory → ℕ → Check
for_place m j = check 5 (j < 8 * length m.p0)

-- the first table's column of refusals
unfoldable pub vram_checks : Memory → VramCall → List Check
vram_checks m (read_u8 p o) = for_memory m ∷ for_plane p ∷ for_offset m o ∷ []
vram_checks m (peek_u8 p o) = for_memory m ∷ for_plane p ∷ for_offset m o ∷ []
vram_checks m (read_glyph o) = for_memory m ∷ for_offset m o ∷ []
vram_checks m (read_linear j) = for_memory m ∷ for_place m j ∷ []
vram_checks m (serialize_linear o) = for_memory m ∷ for_shown m o ∷ []
vram_checks m (write_u8 p o x) = for_memory m ∷ for_plane p ∷ for_offset m o ∷ []
vram_checks m (plane_set p o x) = for_memory m ∷ for_plane p ∷ for_offset m o ∷ []
vram_checks m (plane_and p o x) = for_memory m ∷ for_plane p ∷ for_offset m o ∷ []
vram_checks m (plane_or p o x) = for_memory m ∷ for_plane p ∷ for_offset m o ∷ []
vram_checks m (deplane o) = for_memory m ∷ for_offset m o ∷ []

-- the second table's, of calls without memory
unfoldable pub sequencer_checks : Sequencer → SequencerCall → List Check
sequencer_checks s seq_reset = []
sequencer_checks s seq_clock = for_seq s ∷ []
sequencer_checks s seq_set_clock_change_pending = for_seq s ∷ []
sequencer_checks s seq_poll_clock_change = for_seq s ∷ []
sequencer_checks s seq_read_address = for_seq s ∷ []
sequencer_checks s seq_read_data = for_seq s ∷ []
sequencer_checks s (seq_write_address x) = for_seq s ∷ []
sequencer_checks s (seq_write_data x) = for_seq s ∷ []

-- the second table's, of calls with memory
unfoldable pub direct_checks : Sequencer → Memory → DirectCall → List Check
direct_checks s m (seq_cpu_read_u8 p o a) = for_seq s ∷ for_memory m ∷ for_plane p ∷ for_offset m o ∷ []
direct_checks s m (seq_peek_u8 p o a) = for_seq s ∷ for_memory m ∷ for_plane p ∷ for_offset m o ∷ []
direct_checks s m (seq_gc_read_u8 p o a) = for_seq s ∷ for_memory m ∷ for_plane p ∷ for_offset m o ∷ []
direct_checks s m (seq_read_linear j) = for_seq s ∷ for_memory m ∷ for_place m j ∷ []
direct_checks s m (seq_serialize_linear o) = for_seq s ∷ for_memory m ∷ for_shown m o ∷ []
direct_checks s m (seq_plane_set p o a x) = for_seq s ∷ for_memory m ∷ for_plane p ∷ for_offset m o ∷ []
direct_checks s m (seq_plane_and p o a x) = for_seq s ∷ for_memory m ∷ for_plane p ∷ for_offset m o ∷ []
direct_checks s m (seq_plane_or p o a x) = for_seq s ∷ for_memory m ∷ for_plane p ∷ for_offset m o ∷ []

-- the third table's, of calls without memory
unfoldable pub graphics_checks : GraphicsRegisters → GraphicsCall → List Check
graphics_checks r gc_reset = []
graphics_checks r gc_chain = for_gc r ∷ []
graphics_checks r gc_chain4 = for_gc r ∷ []
graphics_checks r gc_memory_map = for_gc r ∷ []
graphics_checks r gc_odd_even = for_gc r ∷ []
graphics_checks r gc_shift_mode = for_gc r ∷ []
graphics_checks r gc_read_address = for_gc r ∷ []
graphics_checks r gc_read_data = for_gc r ∷ []
graphics_checks r (gc_write_address x) = for_gc r ∷ []
graphics_checks r (gc_write_data x) = for_gc r ∷ []
graphics_checks r (gc_map_address x page) = for_gc r ∷ for_window r x ∷ []

-- the third table's, of calls with memory
unfoldable pub cpu_checks : GraphicsRegisters → Sequencer → Memory → CpuCall → List Check
cpu_checks r s m (cpu_read x page) = for_both r s ∷ for_memory m ∷ for_window r x ∷ for_offset m (offset r x page) ∷ []
cpu_checks r s m (cpu_peek x page) = for_both r s ∷ for_memory m ∷ for_window r x ∷ for_offset m (offset r x page) ∷ []
cpu_checks r s m (cpu_write x page v) = for_both r s ∷ for_memory m ∷ for_window r x ∷ for_offset m (offset r x page) ∷ []
cpu_checks r s m (serialize o) = for_both r s ∷ for_memory m ∷ for_shift r ∷ for_shown m o ∷ []
cpu_checks r s m (show_pixels o) = for_both r s ∷ for_memory m ∷ for_pixels r m o ∷ []

-- the refusals that a call looks for, in its order
unfoldable pub checks : State → Call → List Check
checks s (vram c) = vram_checks s.memory c
checks s (sequencer c) = sequencer_checks s.seq c
checks s (direct c) = direct_checks s.seq s.memory c
checks s (graphics c) = graphics_checks s.gc.registers c
checks s (cpu c) = cpu_checks s.gc.registers s.seq s.memory c

-- the number that a list of checks gives: that of the first that is not met, 0 where all are
pub data Given : List Check → ℕ → Type 1 where
  done : {n : ℕ} → n ≡ 0 → Given [] n
  here : {c : Check} {cs : List Check} {n : ℕ} → (c.right → ⊥) → n ≡ c.number → Given (c ∷ cs) n
  later : {c : Check} {cs : List Check} {n : ℕ} → c.right → Given cs n → Given (c ∷ cs) n

-- the order of refusals: 6, 1, 9, 4, 2, 3, 5
abbrev pub order : List ℕ
order = 6 ∷ 1 ∷ 9 ∷ 4 ∷ 2 ∷ 3 ∷ 5 ∷ []

-- whether checks stand in an order, some left out
abbrev pub in_order : List ℕ → List Check → Bool
in_order ns [] = true
in_order [] (c ∷ cs) = false
in_order (n ∷ ns) (c ∷ cs) = pick (eqb n c.number) (in_order ns cs) (in_order ns (c ∷ cs))

-- ---- `refused-stays`

-- K8: a read or a write of the processor that is answered 2 or 3; no other call, and no other number
abbrev pub turns_away : CpuCall → ℕ → Bool
turns_away (cpu_read x page) n = eqb n 2 || eqb n 3
turns_away (cpu_peek x page) n = false
turns_away (cpu_write x page v) n = eqb n 2 || eqb n 3
turns_away (serialize o) n = false
turns_away (show_pixels o) n = false

-- the record with its seventh counter raised by one, back to 0 after 4,294,967,295, and all else as it was
abbrev pub one_more_refused : GraphicsController → GraphicsController
one_more_refused g = record {
  registers = g.registers;
  stats = record {
    mode_0_writes = g.stats.mode_0_writes;
    mode_1_writes = g.stats.mode_1_writes;
    mode_2_writes = g.stats.mode_2_writes;
    mode_3_writes = g.stats.mode_3_writes;
    mode_0_reads = g.stats.mode_0_reads;
    mode_1_reads = g.stats.mode_1_reads;
    refused_accesses = (g.stats.refused_accesses + 1) % 2 ^ 32;
  };
  latches = g.latches;
}

-- what a refusal with a number leaves of the state that a call was handed: that state, but for the counter of accesses turned away
unfoldable pub after_refusal : State → Call → ℕ → State
after_refusal s (vram c) n = s
after_refusal s (sequencer c) n = s
after_refusal s (direct c) n = s
after_refusal s (graphics c) n = s
after_refusal s (cpu c) n = pick (turns_away c n) (with_gc s (one_more_refused s.gc)) s

-- a refusal: what is left, and the value is blank
pub record Stays {S : Type 0} (o : Outcome S) (left : S) : Type 0 where
  pub next : o.next ≡ left
  pub value : o.answer.value ≡ blank o.answer.value

-- ---- `records-stay`: a record that refusal 6 lets pass is left such

-- both records hold what their registers can
pub record RightRecords (s : State) : Type 0 where
  pub gc : RightGc s.gc.registers
  pub seq : RightSeq s.seq

-- both register sets at their start, whatever the memory
abbrev pub at_start : Memory → State
at_start m = state fresh_gc fresh_seq m

-- ---- `counters-sum`, `seven-counters-sum`: the reads and writes of the processor since a reset

-- the sum of the six counters
abbrev pub total : GraphicsControllerStats → ℕ
total c = c.mode_0_writes + c.mode_1_writes + c.mode_2_writes + c.mode_3_writes + c.mode_0_reads + c.mode_1_reads

-- the sum of the seven
abbrev pub seven_total : GraphicsControllerStats → ℕ
seven_total c = total c + c.refused_accesses

-- a read or a write of the processor is an access; no peek and no show is
abbrev pub accesses : CpuCall → ℕ
accesses (cpu_read x page) = 1
accesses (cpu_peek x page) = 0
accesses (cpu_write x page v) = 1
accesses (serialize o) = 0
accesses (show_pixels o) = 0

-- a reset begins to count anew
abbrev pub since_reset : ℕ → GraphicsCall → ℕ
since_reset n gc_reset = 0
since_reset n gc_chain = n
since_reset n gc_chain4 = n
since_reset n gc_memory_map = n
since_reset n gc_odd_even = n
since_reset n gc_shift_mode = n
since_reset n gc_read_address = n
since_reset n gc_read_data = n
since_reset n (gc_write_address x) = n
since_reset n (gc_write_data x) = n
since_reset n (gc_map_address x page) = n

-- n accesses so far, and one call more; an access counts where its answer's number is one that counts
unfoldable pub counts_where : (ℕ → Bool) → ℕ → State → Call → ℕ
counts_where f n s (vram c) = n
counts_where f n s (sequencer c) = n
counts_where f n s (direct c) = n
counts_where f n s (graphics c) = since_reset n c
counts_where f n s (cpu c) = pick (f (step s (cpu c)).answer.number) (n + accesses c) n

-- the accesses after a list of calls
unfoldable pub tally_where : (ℕ → Bool) → ℕ → State → List Call → ℕ
tally_where f n s [] = n
tally_where f n s (c ∷ cs) = tally_where f (counts_where f n s c) (step s c).next cs

-- the six count accepted accesses alone
abbrev pub in_six : ℕ → Bool
in_six n = eqb n 0

-- K8: the seven count every access, apart from those answered 6 or 1
abbrev pub in_seven : ℕ → Bool
in_seven n = not (eqb n 6 || eqb n 1)

-- the accesses that the six count
abbrev pub tally : ℕ → State → List Call → ℕ
tally = tally_where in_six

-- those that the seven count
abbrev pub seven_tally : ℕ → State → List Call → ℕ
seven_tally = tally_where in_seven

-- ---- `changes-counted`

-- K6: vram's four stores ..
abbrev pub vram_stores : VramCall → Bool
vram_stores (read_u8 p o) = false
vram_stores (peek_u8 p o) = false
vram_stores (read_glyph o) = false
vram_stores (read_linear j) = false
vram_stores (serialize_linear o) = false
vram_stores (write_u8 p o x) = true
vram_stores (plane_set p o x) = true
vram_stores (plane_and p o x) = true
vram_stores (plane_or p o x) = true
vram_stores (deplane o) = false

-- .. the sequencer's three ..
abbrev pub direct_stores : DirectCall → Bool
direct_stores (seq_cpu_read_u8 p o a) = false
direct_stores (seq_peek_u8 p o a) = false
direct_stores (seq_gc_read_u8 p o a) = false
direct_stores (seq_read_linear j) = false
direct_stores (seq_serialize_linear o) = false
direct_stores (seq_plane_set p o a x) = true
direct_stores (seq_plane_and p o a x) = true
direct_stores (seq_plane_or p o a x) = true

-- .. and the processor's write
abbrev pub cpu_stores : CpuCall → Bool
cpu_stores (cpu_read x page) = false
cpu_stores (cpu_peek x page) = false
cpu_stores (cpu_write x page v) = true
cpu_stores (serialize o) = false
cpu_stores (show_pixels o) = false

-- the eight calls that answer how much changed
abbrev pub is_store : Call → Bool
is_store (vram c) = vram_stores c
is_store (sequencer c) = false
is_store (direct c) = direct_stores c
is_store (graphics c) = false
is_store (cpu c) = cpu_stores c

-- K6's words, by the deed: the bits of the byte put down that differ from the old one's; 0 "when the mask stopped it or the plane was not visited"
unfoldable pub changed_by : Deed → List ℕ → Memory → ℕ → ℕ
changed_by rest l m p = 0
changed_by (load o) l m p = 0
changed_by (store o w f) l m p = pick (w p) (changed_bits (byte m p o) (stored_byte o f l m p)) 0
changed_by (remake o) l m p = 0

-- ---- `picture-matches`, `pixels-stay`

-- a picture that matches the planes: each of its pixels is the one that the planes make there
unfoldable pub Matches : Memory → Type 0
Matches m = (j : ℕ) → j < length m.picture → get_or m.picture j 0 ≡ pixel_of m (j / 8) (j % 8)

-- whether a deed moves an offset's eight pixels: a store of any plane there, or their remaking
unfoldable pub MovesAt : Deed → ℕ → Type 0
MovesAt rest q = ⊥
MovesAt (load o) q = ⊥
MovesAt (store o w f) q = (any w ≡ true) × (q ≡ o)
MovesAt (remake o) q = q ≡ o

-- the deed that a call plans
unfoldable pub deed_of : State → Call → Deed
deed_of s (vram c) = (vram_plan (shape s.memory) c).deed
deed_of s (sequencer c) = rest
deed_of s (direct c) = (direct_plan s.seq (shape s.memory) c).deed
deed_of s (graphics c) = rest
deed_of s (cpu c) = (cpu_plan s.gc.registers s.seq (shape s.memory) c).ask.deed
