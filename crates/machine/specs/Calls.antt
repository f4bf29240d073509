-- Every call: what it refuses, in the order 6, 1, 9, 4, 2, 3, 5, and what it plans, from registers and lengths alone.
use Rattle.std.specs.Prelude.{ℕ, ◌+◌, ◌*◌, ◌%◌, ◌^◌, min, max, Bool, true, false, ◌&&◌, ◌||◌, eqb, ltb, leb}
use Rattle.bits.specs.Bit.{bit, bit_of, pick}
use Rattle.machine_types.specs.declared.gc.GraphicsRegisters.{GraphicsRegisters}
use Rattle.machine_types.specs.declared.gc.GraphicsControllerStats.{GraphicsControllerStats}
use Rattle.machine_types.specs.declared.gc.GraphicsController.{GraphicsController}
use Rattle.machine_types.specs.declared.gc.ReadMode.{ReadMode}
use Rattle.machine_types.specs.declared.gc.ReadMode.TheVariants.{ReadSelectedPlane, ReadComparedPlanes}
use Rattle.machine_types.specs.declared.gc.WriteMode.{WriteMode}
use Rattle.machine_types.specs.declared.gc.WriteMode.TheVariants.{Mode0, Mode1, Mode2, Mode3}
use Rattle.machine_types.specs.declared.gc.ShiftMode.{ShiftMode}
use Rattle.machine_types.specs.declared.gc.ShiftMode.TheVariants.{Standard, CGACompatible, Chain4, Unused}
use Rattle.machine_types.specs.declared.seq.Sequencer.{Sequencer}
use Rattle.machine_types.specs.declared.shape.Shape.{Shape}
use Rattle.machine.specs.Memory.{size, sound}
use Rattle.machine.specs.Answers.{Value, one, two, map_number, odd_even_number, shift_number}
use Rattle.machine.specs.Graphics.{with_address, with_data, data_of, fits_gc, write_mode, read_mode, odd_even, shift_mode, chained, memory_map, gc_of}
use Rattle.machine_types.specs.Start.{fresh_gc, fresh_seq}
use Rattle.machine.specs.Sequencer.{with_seq_address, with_seq_data, seq_data_of, with_mark, fits_seq, in_mask, stored_at, gc_read_at}
use Rattle.machine.specs.Address.{in_window, a0, offset}
use Rattle.machine.specs.DataPath.{written_bit, visits, selected_plane, peeked_plane}
use Rattle.machine.specs.Deeds.{Deed, rest, load, store, remake, Reply, known, byte_at, compare, pixel_at, pixels_at, changes_at, shown_at, Plan, plan}

-- ---- refusals

-- a test in its turn: its number where it fails, else what follows
abbrev pub refuse : Bool → ℕ → ℕ → ℕ
refuse true r n = n
refuse false r n = r

-- 3: a plane offset is n or more
abbrev pub check_offset : Shape → ℕ → ℕ
check_offset h o = refuse (ltb o (size h)) 3 0

-- 1, 3
unfoldable pub offset_number : Shape → ℕ → ℕ
offset_number h o = refuse (sound h) 1 (check_offset h o)

-- 1, 4, 3: a plane number is above 3
unfoldable pub plane_number : Shape → ℕ → ℕ → ℕ
plane_number h p o = refuse (sound h) 1 (refuse (leb p 3) 4 (check_offset h o))

-- 1, 5: a pixel place is 8n or more
unfoldable pub place_number : Shape → ℕ → ℕ
place_number h j = refuse (sound h) 1 (refuse (ltb j (8 * size h)) 5 0)

-- 5: a shown offset is n or more
abbrev pub check_shown : Shape → ℕ → ℕ
check_shown h o = refuse (ltb o (size h)) 5 0

-- 1, 5, of an older show
unfoldable pub shown_number : Shape → ℕ → ℕ
shown_number h o = refuse (sound h) 1 (check_shown h o)

-- ---- calls on memory alone (vram.rs)

-- the calls of the first table
pub data VramCall : Type 0 where
  -- plane, offset
  read_u8 peek_u8 : ℕ → ℕ → VramCall
  -- offset
  read_glyph : ℕ → VramCall
  -- pixel place
  read_linear : ℕ → VramCall
  -- offset
  serialize_linear : ℕ → VramCall
  -- plane, offset, byte
  write_u8 plane_set plane_and plane_or : ℕ → ℕ → ℕ → VramCall
  -- offset
  deplane : ℕ → VramCall

-- what a direct store puts into a bit, of the byte's bit and the old one: set, and, or
abbrev pub set_bit : ℕ → ℕ → ℕ
set_bit new old = new

-- `plane_and`: the byte's bit and the old one
abbrev pub and_bit : ℕ → ℕ → ℕ
and_bit new old = min new old

-- `plane_or`: the byte's bit or the old one
abbrev pub or_bit : ℕ → ℕ → ℕ
or_bit new old = max new old

-- a store into one plane of those that a test names
abbrev pub store_one : (ℕ → ℕ → ℕ) → ℕ → ℕ → (ℕ → Bool) → ℕ → Deed
store_one f p o w x = store o (λ q. eqb q p && w q) (λ q i l old. f (bit i x) old)

-- the stores of vram.rs itself use no mask
abbrev pub unmasked : ℕ → Bool
unmasked p = true

-- each call's refusals, deed and reply; direct plane reads answer the plane's byte at the offset, stores (K6) how much each plane changed there
unfoldable pub vram_plan : Shape → VramCall → Plan
vram_plan h (read_u8 p o) = plan (plane_number h p o) rest (byte_at p o)
vram_plan h (peek_u8 p o) = plan (plane_number h p o) rest (byte_at p o)
vram_plan h (read_glyph o) = plan (offset_number h o) rest (byte_at 2 o)
vram_plan h (read_linear j) = plan (place_number h j) rest (pixel_at j)
vram_plan h (serialize_linear o) = plan (shown_number h o) rest (pixels_at (8 * o))
vram_plan h (write_u8 p o x) = plan (plane_number h p o) (store_one set_bit p o unmasked x) (changes_at o)
vram_plan h (plane_set p o x) = plan (plane_number h p o) (store_one set_bit p o unmasked x) (changes_at o)
vram_plan h (plane_and p o x) = plan (plane_number h p o) (store_one and_bit p o unmasked x) (changes_at o)
vram_plan h (plane_or p o x) = plan (plane_number h p o) (store_one or_bit p o unmasked x) (changes_at o)
vram_plan h (deplane o) = plan (offset_number h o) (remake o) (known (one 0))

-- ---- calls on the sequencer's record (sequencer.rs)

-- the calls of the second table that are handed no memory
pub data SequencerCall : Type 0 where
  seq_reset seq_clock seq_set_clock_change_pending seq_poll_clock_change seq_read_address seq_read_data : SequencerCall
  -- byte
  seq_write_address seq_write_data : ℕ → SequencerCall

-- 6; `reset` takes any record
unfoldable pub seq_number_of : Sequencer → SequencerCall → ℕ
seq_number_of s seq_reset = 0
seq_number_of s seq_clock = refuse (fits_seq s) 6 0
seq_number_of s seq_set_clock_change_pending = refuse (fits_seq s) 6 0
seq_number_of s seq_poll_clock_change = refuse (fits_seq s) 6 0
seq_number_of s seq_read_address = refuse (fits_seq s) 6 0
seq_number_of s seq_read_data = refuse (fits_seq s) 6 0
seq_number_of s (seq_write_address x) = refuse (fits_seq s) 6 0
seq_number_of s (seq_write_data x) = refuse (fits_seq s) 6 0

-- `poll_clock_change` answers the mark
unfoldable pub seq_value : Sequencer → SequencerCall → Value
seq_value s seq_reset = one 0
seq_value s seq_clock = one s.char_clock
seq_value s seq_set_clock_change_pending = one 0
seq_value s seq_poll_clock_change = one (bit_of s.clock_change_pending)
seq_value s seq_read_address = one s.address_byte
seq_value s seq_read_data = one (seq_data_of s.register_selected s)
seq_value s (seq_write_address x) = one 0
seq_value s (seq_write_data x) = one 0

-- the sequencer's reset restores its start; `poll_clock_change` clears the mark
unfoldable pub seq_next : Sequencer → SequencerCall → Sequencer
seq_next s seq_reset = fresh_seq
seq_next s seq_clock = s
seq_next s seq_set_clock_change_pending = with_mark true s
seq_next s seq_poll_clock_change = with_mark false s
seq_next s seq_read_address = s
seq_next s seq_read_data = s
seq_next s (seq_write_address x) = with_seq_address x s
seq_next s (seq_write_data x) = with_seq_data x s

-- ---- calls on the sequencer's record and memory

-- the calls of the second table that are handed memory
pub data DirectCall : Type 0 where
  -- plane, offset, a0
  seq_cpu_read_u8 seq_peek_u8 seq_gc_read_u8 : ℕ → ℕ → Bool → DirectCall
  -- pixel place
  seq_read_linear : ℕ → DirectCall
  -- offset
  seq_serialize_linear : ℕ → DirectCall
  -- plane, offset, a0, byte
  seq_plane_set seq_plane_and seq_plane_or : ℕ → ℕ → Bool → ℕ → DirectCall

-- the sequencer's direct stores use its mask and answer for the offset that they store at; its plane reads take the offset as it stands, `gc_read_u8` excepted
unfoldable pub direct_plan : Sequencer → Shape → DirectCall → Plan
direct_plan s h (seq_cpu_read_u8 p o a) = plan (refuse (fits_seq s) 6 (plane_number h p o)) rest (byte_at p o)
direct_plan s h (seq_peek_u8 p o a) = plan (refuse (fits_seq s) 6 (plane_number h p o)) rest (byte_at p o)
direct_plan s h (seq_gc_read_u8 p o a) = plan (refuse (fits_seq s) 6 (plane_number h p o)) rest (byte_at p (gc_read_at s o))
direct_plan s h (seq_read_linear j) = plan (refuse (fits_seq s) 6 (place_number h j)) rest (pixel_at j)
direct_plan s h (seq_serialize_linear o) = plan (refuse (fits_seq s) 6 (shown_number h o)) rest (pixels_at (8 * o))
direct_plan s h (seq_plane_set p o a x) = plan (refuse (fits_seq s) 6 (plane_number h p o)) (store_one set_bit p (stored_at s o) (in_mask s o a) x) (changes_at (stored_at s o))
direct_plan s h (seq_plane_and p o a x) = plan (refuse (fits_seq s) 6 (plane_number h p o)) (store_one and_bit p (stored_at s o) (in_mask s o a) x) (changes_at (stored_at s o))
direct_plan s h (seq_plane_or p o a x) = plan (refuse (fits_seq s) 6 (plane_number h p o)) (store_one or_bit p (stored_at s o) (in_mask s o a) x) (changes_at (stored_at s o))

-- ---- calls on the controller's record (graphics_controller.rs)

-- the calls of the third table that are handed no memory
pub data GraphicsCall : Type 0 where
  gc_reset gc_chain gc_chain4 gc_memory_map gc_odd_even gc_shift_mode gc_read_address gc_read_data : GraphicsCall
  -- byte
  gc_write_address gc_write_data : ℕ → GraphicsCall
  -- address, page
  gc_map_address : ℕ → Bool → GraphicsCall

-- 6, 2; `reset` takes any record
unfoldable pub gc_number_of : GraphicsRegisters → GraphicsCall → ℕ
gc_number_of r gc_reset = 0
gc_number_of r gc_chain = refuse (fits_gc r) 6 0
gc_number_of r gc_chain4 = refuse (fits_gc r) 6 0
gc_number_of r gc_memory_map = refuse (fits_gc r) 6 0
gc_number_of r gc_odd_even = refuse (fits_gc r) 6 0
gc_number_of r gc_shift_mode = refuse (fits_gc r) 6 0
gc_number_of r gc_read_address = refuse (fits_gc r) 6 0
gc_number_of r gc_read_data = refuse (fits_gc r) 6 0
gc_number_of r (gc_write_address x) = refuse (fits_gc r) 6 0
gc_number_of r (gc_write_data x) = refuse (fits_gc r) 6 0
gc_number_of r (gc_map_address x page) = refuse (fits_gc r) 6 (refuse (in_window (memory_map r) x) 2 0)

-- whether the shift mode is Chain4
abbrev pub is_chain4 : ShiftMode → Bool
is_chain4 Standard = false
is_chain4 CGACompatible = false
is_chain4 Chain4 = true
is_chain4 Unused = false

-- fields and registers as they are kept; `map_address`: the offset and a0
unfoldable pub gc_value : GraphicsRegisters → GraphicsCall → Value
gc_value r gc_reset = one 0
gc_value r gc_chain = one (bit_of (chained r))
gc_value r gc_chain4 = one (bit_of (is_chain4 (shift_mode r)))
gc_value r gc_memory_map = one (map_number (memory_map r))
gc_value r gc_odd_even = one (odd_even_number (odd_even r))
gc_value r gc_shift_mode = one (shift_number (shift_mode r))
gc_value r gc_read_address = one r.register_select_byte
gc_value r gc_read_data = one (data_of r.register_selected r)
gc_value r (gc_write_address x) = one 0
gc_value r (gc_write_data x) = one 0
gc_value r (gc_map_address x page) = two (offset r x page) (bit_of (a0 x))

-- `reset` restores the GC's start, latches and counters too
unfoldable pub gc_next : GraphicsController → GraphicsCall → GraphicsController
gc_next g gc_reset = fresh_gc
gc_next g gc_chain = g
gc_next g gc_chain4 = g
gc_next g gc_memory_map = g
gc_next g gc_odd_even = g
gc_next g gc_shift_mode = g
gc_next g gc_read_address = g
gc_next g gc_read_data = g
gc_next g (gc_write_address x) = gc_of (with_address x g.registers) g.stats g.latches
gc_next g (gc_write_data x) = gc_of (with_data x g.registers) g.stats g.latches
gc_next g (gc_map_address x page) = g

-- ---- calls on both records and memory: the processor's accesses, and the shows

-- the calls of the third table that are handed memory
pub data CpuCall : Type 0 where
  -- address, page
  cpu_read cpu_peek : ℕ → Bool → CpuCall
  -- address, page, byte
  cpu_write : ℕ → Bool → ℕ → CpuCall
  -- offset; K3: the second serves every shift mode
  serialize show_pixels : ℕ → CpuCall

-- 6 looks at the whole of each record handed in
abbrev pub fits_both : GraphicsRegisters → Sequencer → Bool
fits_both r s = fits_gc r && fits_seq s

-- 6, 1, 2, 3
unfoldable pub access_number : GraphicsRegisters → Sequencer → Shape → ℕ → Bool → ℕ
access_number r s h x page =
    refuse (fits_both r s) 6 (refuse (sound h) 1 (refuse (in_window (memory_map r) x) 2 (check_offset h (offset r x page))))

-- 9: the older show while the shift mode is Chain4 or CGACompatible
abbrev pub shows : ShiftMode → Bool
shows Standard = true
shows CGACompatible = false
shows Chain4 = false
shows Unused = true

-- 6, 1, 9, 5
unfoldable pub show_number : GraphicsRegisters → Sequencer → Shape → ℕ → ℕ
show_number r s h o = refuse (fits_both r s) 6 (refuse (sound h) 1 (refuse (shows (shift_mode r)) 9 (check_shown h o)))

-- K3: the last offset that a show looks at: in CGACompatible the next one
abbrev pub last_shown : ShiftMode → ℕ → ℕ
last_shown Standard o = o
last_shown CGACompatible o = o + 1
last_shown Chain4 o = o
last_shown Unused o = o

-- 6, 1, 5
unfoldable pub pixels_number : GraphicsRegisters → Sequencer → Shape → ℕ → ℕ
pixels_number r s h o = refuse (fits_both r s) 6 (refuse (sound h) 1 (check_shown h (last_shown (shift_mode r) o)))

-- a plan, the counter that the call raises where it is accepted, and the one that it raises where it is refused with 2 or 3
pub record CpuPlan : Type 0 where
  pub ask : Plan
  pub counter : ℕ
  pub turned_away : ℕ

-- the plan of a call and its two counters
abbrev pub cpu_plan_of : Plan → ℕ → ℕ → CpuPlan
cpu_plan_of a n k = record { ask = a; counter = n; turned_away = k }

-- the seven counters: 0 to 3 accepted writes by mode, 4 and 5 accepted reads by mode, 6 the refused of both (K8). No peek and no show counts
abbrev pub write_counter : WriteMode → ℕ
write_counter Mode0 = 0
write_counter Mode1 = 1
write_counter Mode2 = 2
write_counter Mode3 = 3

-- reads, by read mode
abbrev pub read_counter : ReadMode → ℕ
read_counter ReadSelectedPlane = 4
read_counter ReadComparedPlanes = 5

-- K8: reads and writes refused with 2 or 3, whatever the mode
abbrev pub refused_counter : ℕ
refused_counter = 6

-- a peek and a show raise none
abbrev pub no_counter : ℕ
no_counter = 7

-- K8: the refusals that are counted, by number: 2 and 3, and not 6 or 1
abbrev pub is_counted : ℕ → Bool
is_counted n = eqb n 2 || eqb n 3

-- the counter that a refusal raises, of its number and the one that the plan names
abbrev pub refusal_counter : ℕ → ℕ → ℕ
refusal_counter n k = pick (is_counted n) k no_counter

-- raised by 1, back to 0 after 4,294,967,295
abbrev pub raised : ℕ → ℕ → ℕ → ℕ
raised n i x = pick (eqb n i) ((x + 1) % 2 ^ 32) x

-- the counters after the one of a number was raised
unfoldable pub counted : ℕ → GraphicsControllerStats → GraphicsControllerStats
counted n c = record {
  mode_0_writes = raised n 0 c.mode_0_writes;
  mode_1_writes = raised n 1 c.mode_1_writes;
  mode_2_writes = raised n 2 c.mode_2_writes;
  mode_3_writes = raised n 3 c.mode_3_writes;
  mode_0_reads = raised n 4 c.mode_0_reads;
  mode_1_reads = raised n 5 c.mode_1_reads;
  refused_accesses = raised n 6 c.refused_accesses;
}

-- selected-plane read: the selected plane's byte, under chain-four at the offset with its low two bits clear; compare read: the latches compared
unfoldable pub read_reply : ReadMode → GraphicsRegisters → Sequencer → ℕ → ℕ → Reply
read_reply ReadSelectedPlane r s x o = byte_at (selected_plane r s x o) (stored_at s o)
read_reply ReadComparedPlanes r s x o = compare r.color_dont_care r.color_compare

-- every mode stores; a visited plane is stored only if the mask has it
unfoldable pub write_deed : WriteMode → GraphicsRegisters → Sequencer → ℕ → ℕ → ℕ → Deed
write_deed w r s x o v = store (stored_at s o) (λ p. visits r x p && in_mask s o (a0 x) p) (λ p i l old. written_bit w r v p i l)

-- under chain-four latches load, and a peek answers, at the offset with its low two bits clear, as stores go there; a peek moves no latch or counter
unfoldable pub cpu_plan : GraphicsRegisters → Sequencer → Shape → CpuCall → CpuPlan
cpu_plan r s h (cpu_read x page) =
    cpu_plan_of (plan (access_number r s h x page) (load (stored_at s (offset r x page))) (read_reply (read_mode r) r s x (offset r x page))) (read_counter (read_mode r)) refused_counter
cpu_plan r s h (cpu_peek x page) = cpu_plan_of (plan (access_number r s h x page) rest (byte_at (peeked_plane s (offset r x page)) (stored_at s (offset r x page)))) no_counter no_counter
cpu_plan r s h (cpu_write x page v) =
    cpu_plan_of (plan (access_number r s h x page) (write_deed (write_mode r) r s x (offset r x page) v) (changes_at (stored_at s (offset r x page)))) (write_counter (write_mode r)) refused_counter
cpu_plan r s h (serialize o) = cpu_plan_of (plan (show_number r s h o) rest (pixels_at (8 * o))) no_counter no_counter
cpu_plan r s h (show_pixels o) = cpu_plan_of (plan (pixels_number r s h o) rest (shown_at (shift_mode r) o)) no_counter no_counter
