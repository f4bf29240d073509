-- `records-stay`: no call makes a record that refusal 6 is for, and so from the starts no run is ever answered 6.
use Prim.Native.Nat.{ℕ, zero, suc, ◌≤◌}
use native.Mathlib.Omega.{arith}
use mathlib.Core.Logic.{◌≢◌}
use mathlib.Core.Path.{◌≡◌, refl, sym, ap, ◌∙◌}
use mathlib.Core.Bool.{Bool, true, false, ◌&&◌, not}
use mathlib.Core.List.Memᴰ
use mathlib.Core.List.{List, [], ◌∷◌, Memᴰ}
use lib.Dec.{eqb}
use borrow.Author.Tests.{eqb-false, not-true}
use Rattle.bits.specs.Bit.{pick}
use Rattle.machine_types.specs.Start.{fresh_gc, fresh_seq}
use Rattle.machine_types.specs.declared.gc.GraphicsRegister.{GraphicsRegister}
use Rattle.machine_types.specs.declared.gc.GraphicsRegister.TheVariants.{SetReset, EnableSetReset, ColorCompare, ReadMapSelect, ColorDontCare}
use Rattle.machine_types.specs.declared.seq.SequencerRegister.{SequencerRegister}
use Rattle.machine_types.specs.declared.seq.SequencerRegister.TheVariants.{Reset, ClockingMode, MapMask, CharacterMapSelect, MemoryMode}
use Rattle.machine_types.specs.declared.gc.GraphicsController.{GraphicsController}
use Rattle.machine_types.specs.declared.gc.GraphicsRegisters.{GraphicsRegisters}
use Rattle.machine_types.specs.declared.seq.Sequencer.{Sequencer}
use Rattle.machine.specs.Memory.{Memory, shape}
use Rattle.machine.specs.Answers.{Value, Said, answered}
use Rattle.machine.specs.Graphics.{register_number, with_address, keeps, written, with_data}
use Rattle.machine.specs.Sequencer.{with_seq_address, seq_number, seq_keeps, seq_written, with_seq_data, with_mark}
use Rattle.machine.specs.Calls.{VramCall, read_u8, peek_u8, read_glyph, read_linear, serialize_linear, write_u8, plane_set, plane_and, plane_or, deplane}
use Rattle.machine.specs.Calls.{SequencerCall, seq_reset, seq_clock, seq_set_clock_change_pending, seq_poll_clock_change, seq_read_address}
use Rattle.machine.specs.Calls.{seq_read_data, seq_write_address, seq_write_data, seq_number_of, seq_next}
use Rattle.machine.specs.Calls.{DirectCall, seq_cpu_read_u8, seq_peek_u8, seq_gc_read_u8, seq_read_linear, seq_serialize_linear, seq_plane_set, seq_plane_and, seq_plane_or}
use Rattle.machine.specs.Calls.{GraphicsCall, gc_reset, gc_chain, gc_chain4, gc_memory_map, gc_odd_even, gc_shift_mode, gc_read_address, gc_read_data, gc_write_address, gc_write_data, gc_map_address}
use Rattle.machine.specs.Calls.{gc_number_of, gc_next}
use Rattle.machine.specs.Calls.{CpuCall, cpu_read, cpu_peek, cpu_write, serialize, show_pixels, cpu_plan}
use Rattle.machine.specs.Step.{sequencer_step, graphics_step, Device, cpu_step, State, Call, vram, sequencer, direct, graphics, cpu, step, run}
use Rattle.machine.specs.Claims.{Check, RightGc, RightSeq, vram_checks, sequencer_checks, direct_checks, graphics_checks, cpu_checks, checks, Given, done, here, later, RightRecords, at_start}
use Rattle.machine.proofs.Laws.{both}
use Rattle.machine.proofs.Refusals.{refused-exactly}

-- ---- the starts

fresh-seq-right : RightSeq fresh_seq
fresh-seq-right = record { reset = omega arith; map_mask = omega arith; clocking_mode = omega arith; character_map_select = omega arith; memory_mode = omega arith }

fresh-gc-right : RightGc fresh_gc.registers
fresh-gc-right = record { address = omega arith; set_reset = omega arith; enable = omega arith; compare = omega arith; dont_care = omega arith; map_select = omega arith }

-- ---- a step leaves right records right

-- what is kept of data, and what stood there, fit: so does what stands there after
pick-le : (b : Bool) (x y n : ℕ) → x ≤ n → y ≤ n → pick b x y ≤ n
pick-le true x y n h k = h
pick-le false x y n h k = k

module _ (s : Sequencer) (h : RightSeq s) where
  seq-data-right : (x : ℕ) → RightSeq (with_seq_data x s)
  unfolding with_seq_data seq_keeps
  seq-data-right x = record {
    reset = fits Reset s.reset 3 (omega arith) h.reset;
    map_mask = fits MapMask s.map_mask 15 (omega arith) h.map_mask;
    clocking_mode = fits ClockingMode s.clocking_mode 63 (omega arith) h.clocking_mode;
    character_map_select = fits CharacterMapSelect s.character_map_select 63 (omega arith) h.character_map_select;
    memory_mode = fits MemoryMode s.memory_mode 63 (omega arith) h.memory_mode;
  }
    where
      fits : (p : SequencerRegister) (old n : ℕ) → seq_keeps p x ≤ n → old ≤ n → seq_written s.register_selected p (seq_keeps p x) old ≤ n
      fits p old n = pick-le (eqb (seq_number s.register_selected) (seq_number p)) (seq_keeps p x) old n

  -- refusal 6 looks at no mark and at no address of the sequencer's
  mark-right : (b : Bool) → RightSeq (with_mark b s)
  unfolding with_mark
  mark-right b = record { reset = h.reset; map_mask = h.map_mask; clocking_mode = h.clocking_mode; character_map_select = h.character_map_select; memory_mode = h.memory_mode }

  seq-address-right : (x : ℕ) → RightSeq (with_seq_address x s)
  unfolding with_seq_address
  seq-address-right x = record { reset = h.reset; map_mask = h.map_mask; clocking_mode = h.clocking_mode; character_map_select = h.character_map_select; memory_mode = h.memory_mode }

  sequencer-right : (c : SequencerCall) → RightSeq (seq_next s c)
  unfolding seq_next
  sequencer-right seq_reset = fresh-seq-right
  sequencer-right seq_clock = h
  sequencer-right seq_set_clock_change_pending = mark-right true
  sequencer-right seq_poll_clock_change = mark-right false
  sequencer-right seq_read_address = h
  sequencer-right seq_read_data = h
  sequencer-right (seq_write_address x) = seq-address-right x
  sequencer-right (seq_write_data x) = seq-data-right x

module _ (g : GraphicsController) (h : RightGc g.registers) where
  gc-address-right : (x : ℕ) → RightGc (with_address x g.registers)
  unfolding with_address
  gc-address-right x = record { address = omega arith; set_reset = h.set_reset; enable = h.enable; compare = h.compare; dont_care = h.dont_care; map_select = h.map_select }

  gc-data-right : (x : ℕ) → RightGc (with_data x g.registers)
  unfolding with_data keeps
  gc-data-right x = record {
    address = h.address;
    set_reset = fits SetReset g.registers.set_reset 15 (omega arith) h.set_reset;
    enable = fits EnableSetReset g.registers.enable_set_reset 15 (omega arith) h.enable;
    compare = fits ColorCompare g.registers.color_compare 15 (omega arith) h.compare;
    dont_care = fits ColorDontCare g.registers.color_dont_care 15 (omega arith) h.dont_care;
    map_select = fits ReadMapSelect g.registers.read_map_select 3 (omega arith) h.map_select;
  }
    where
      fits : (p : GraphicsRegister) (old n : ℕ) → keeps p x ≤ n → old ≤ n → written g.registers.register_selected x p old ≤ n
      fits p old n = pick-le (eqb (register_number g.registers.register_selected) (register_number p)) (keeps p x) old n

  graphics-right : (c : GraphicsCall) → RightGc (gc_next g c).registers
  unfolding gc_next
  graphics-right gc_reset = fresh-gc-right
  graphics-right gc_chain = h
  graphics-right gc_chain4 = h
  graphics-right gc_memory_map = h
  graphics-right gc_odd_even = h
  graphics-right gc_shift_mode = h
  graphics-right gc_read_address = h
  graphics-right gc_read_data = h
  graphics-right (gc_write_address x) = gc-address-right x
  graphics-right (gc_write_data x) = gc-data-right x
  graphics-right (gc_map_address x page) = h

-- what holds of both that an answer may leave holds of what it leaves
answered-keeps : {S : Type 0} (P : S → Type 0) (n : ℕ) (v : Value) (new old : S) → P new → P old → P (answered n v new old).next
answered-keeps P zero v new old h k = h
answered-keeps P (suc n) v new old h k = k

-- a step that is handed records which refusal 6 lets pass leaves such records
pub records-stay : (s : State) (c : Call) → RightRecords s → RightRecords (step s c).next
unfolding step sequencer_step graphics_step cpu_step
records-stay s (vram c) h = record { gc = h.gc; seq = h.seq }
records-stay s (sequencer c) h = record { gc = h.gc; seq = answered-keeps RightSeq (seq_number_of s.seq c) _ _ _ (sequencer-right s.seq h.seq c) h.seq }
records-stay s (direct c) h = record { gc = h.gc; seq = h.seq }
records-stay s (graphics c) h =
    record { gc = answered-keeps (λ (g : GraphicsController). RightGc g.registers) (gc_number_of s.gc.registers c) _ _ _ (graphics-right s.gc h.gc c) h.gc; seq = h.seq }
records-stay s (cpu c) h =
    record { gc = answered-keeps (λ (d : Device). RightGc d.gc.registers) (cpu_plan s.gc.registers s.seq (shape s.memory) c).ask.number _ _ _ h.gc h.gc; seq = h.seq }

-- the starts are such
pub starts-right : (m : Memory) → RightRecords (at_start m)
starts-right m = record { gc = fresh-gc-right; seq = fresh-seq-right }

-- ---- right records are not refused 6

-- whether checks look for other refusals alone
not_six : List Check → Bool
not_six [] = true
not_six (c ∷ cs) = not (eqb 6 c.number) && not_six cs

-- checks of which none fails with 6: none looks for it, or the first does and is met
data Passed : List Check → Type 1 where
  without : {cs : List Check} → not_six cs ≡ true → Passed cs
  met : {c : Check} {cs : List Check} → c.right → not_six cs ≡ true → Passed (c ∷ cs)

no-six-given : (cs : List Check) → not_six cs ≡ true → Given cs 6 → ⊥
unfolding not_six
no-six-given [] o (done e) = omega arith
no-six-given (c ∷ cs) o (here q e) = eqb-false 6 c.number (not-true _ (both (not (eqb 6 c.number)) (not_six cs) o).0) e
no-six-given (c ∷ cs) o (later p g) = no-six-given cs (both (not (eqb 6 c.number)) (not_six cs) o).1 g

passed-not-6 : {cs : List Check} → Passed cs → Given cs 6 → ⊥
passed-not-6 (without {cs} o) g = no-six-given cs o g
passed-not-6 (met r o) (here q e) = q r
passed-not-6 (met {c} {cs} r o) (later p g) = no-six-given cs o g

vram-passed : (m : Memory) (c : VramCall) → Passed (vram_checks m c)
unfolding not_six vram_checks
vram-passed m (read_u8 p o) = without refl
vram-passed m (peek_u8 p o) = without refl
vram-passed m (read_glyph o) = without refl
vram-passed m (read_linear j) = without refl
vram-passed m (serialize_linear o) = without refl
vram-passed m (write_u8 p o x) = without refl
vram-passed m (plane_set p o x) = without refl
vram-passed m (plane_and p o x) = without refl
vram-passed m (plane_or p o x) = without refl
vram-passed m (deplane o) = without refl

module _ (s : Sequencer) (h : RightSeq s) where
  sequencer-passed : (c : SequencerCall) → Passed (sequencer_checks s c)
  unfolding not_six sequencer_checks
  sequencer-passed seq_reset = without refl
  sequencer-passed seq_clock = met h refl
  sequencer-passed seq_set_clock_change_pending = met h refl
  sequencer-passed seq_poll_clock_change = met h refl
  sequencer-passed seq_read_address = met h refl
  sequencer-passed seq_read_data = met h refl
  sequencer-passed (seq_write_address x) = met h refl
  sequencer-passed (seq_write_data x) = met h refl

  direct-passed : (m : Memory) (c : DirectCall) → Passed (direct_checks s m c)
  unfolding not_six direct_checks
  direct-passed m (seq_cpu_read_u8 p o a) = met h refl
  direct-passed m (seq_peek_u8 p o a) = met h refl
  direct-passed m (seq_gc_read_u8 p o a) = met h refl
  direct-passed m (seq_read_linear j) = met h refl
  direct-passed m (seq_serialize_linear o) = met h refl
  direct-passed m (seq_plane_set p o a x) = met h refl
  direct-passed m (seq_plane_and p o a x) = met h refl
  direct-passed m (seq_plane_or p o a x) = met h refl

module _ (r : GraphicsRegisters) (h : RightGc r) where
  graphics-passed : (c : GraphicsCall) → Passed (graphics_checks r c)
  unfolding not_six graphics_checks
  graphics-passed gc_reset = without refl
  graphics-passed gc_chain = met h refl
  graphics-passed gc_chain4 = met h refl
  graphics-passed gc_memory_map = met h refl
  graphics-passed gc_odd_even = met h refl
  graphics-passed gc_shift_mode = met h refl
  graphics-passed gc_read_address = met h refl
  graphics-passed gc_read_data = met h refl
  graphics-passed (gc_write_address x) = met h refl
  graphics-passed (gc_write_data x) = met h refl
  graphics-passed (gc_map_address x page) = met h refl

cpu-passed : (r : GraphicsRegisters) (s : Sequencer) (h : RightGc r × RightSeq s) (m : Memory) (c : CpuCall) → Passed (cpu_checks r s m c)
unfolding not_six cpu_checks
cpu-passed r s h m (cpu_read x page) = met h refl
cpu-passed r s h m (cpu_peek x page) = met h refl
cpu-passed r s h m (cpu_write x page v) = met h refl
cpu-passed r s h m (serialize o) = met h refl
cpu-passed r s h m (show_pixels o) = met h refl

checks-passed : (s : State) (c : Call) → RightRecords s → Passed (checks s c)
unfolding checks
checks-passed s (vram c) h = vram-passed s.memory c
checks-passed s (sequencer c) h = sequencer-passed s.seq h.seq c
checks-passed s (direct c) h = direct-passed s.seq h.seq s.memory c
checks-passed s (graphics c) h = graphics-passed s.gc.registers h.gc c
checks-passed s (cpu c) h = cpu-passed s.gc.registers s.seq (h.gc, h.seq) s.memory c

-- a call that is handed right records is not answered 6
pub right-not-6 : (s : State) (c : Call) → RightRecords s → (step s c).answer.number ≢ 6
right-not-6 s c h e = passed-not-6 (checks-passed s c h) ((refused-exactly s c 6).0 e)

-- ---- and so no run from the starts is ever answered 6

run-not-6 : (cs : List Call) (s : State) → RightRecords s → (a : Said) → Memᴰ a (run s cs).answers → a.number ≢ 6
unfolding run
run-not-6 [] s h a i e = Memᴰ.not-nil i
run-not-6 (c ∷ cs) s h a (Memᴰ.head f) e = right-not-6 s c h (ap (λ (b : Said). b.number) (sym f) ∙ e)
run-not-6 (c ∷ cs) s h a (Memᴰ.tail i) e = run-not-6 cs (step s c).next (records-stay s c h) a i e

pub never-6 : (m : Memory) (cs : List Call) (a : Said) → Memᴰ a (run (at_start m) cs).answers → a.number ≢ 6
never-6 m cs = run-not-6 cs (at_start m) (starts-right m)
