-- Bit 14 in the 128K window: a branch of document 01's rule, as it was written, that no address reaches. Without it every answer stays the same.
use Prim.Native.Nat.{ℕ, zero, suc, ◌-◌, ◌%◌, ◌<◌}
use native.Mathlib.Omega.{arith}
use mathlib.Core.Path.{◌≡◌, refl, sym, ap, ◌∙◌}
use mathlib.Core.Bool.{Bool, true, false}
use mathlib.Core.List.{List, [], ◌∷◌, ◌++◌}
use lib.ListN.{take}
use lib.Dec.{ltb}
use borrow.Author.Tests.{leb-true, lt-ltb}
use Rattle.bits.specs.Bit.{bit, bit_of, pick}
use Rattle.machine_types.specs.declared.gc.MemoryMap.{MemoryMap}
use Rattle.machine_types.specs.declared.gc.MemoryMap.TheVariants.{A0000_128k, A0000_64K, B0000_32K, B8000_32K}
use Rattle.machine_types.specs.declared.gc.ReadMode.{ReadMode}
use Rattle.machine_types.specs.declared.gc.ReadMode.TheVariants.{ReadSelectedPlane, ReadComparedPlanes}
use Rattle.machine_types.specs.declared.gc.GraphicsRegisters.{GraphicsRegisters}
use Rattle.machine_types.specs.declared.gc.GraphicsController.{GraphicsController}
use Rattle.machine_types.specs.declared.seq.Sequencer.{Sequencer}
use Rattle.machine_types.specs.declared.shape.Shape.{Shape}
use Rattle.machine.specs.Memory.{Memory, shape, sound}
use Rattle.machine.specs.Answers.{Value, one, two, changes, blank, said, outcome, answered}
use Rattle.machine.specs.Graphics.{fits_gc, chained, memory_map, read_mode, write_mode}
use Rattle.machine.specs.Sequencer.{stored_at}
use Rattle.machine.specs.Address.{in_window, a0, with_bit0, mapped, offset}
use Rattle.machine.specs.DataPath.{peeked_plane}
use Rattle.machine.specs.Deeds.{rest, load, byte_at, changes_at, plan, memory_after, value_of}
use Rattle.machine.specs.Calls.{refuse, check_offset, fits_both, access_number, gc_map_address, gc_number_of, gc_value, gc_next}
use Rattle.machine.specs.Calls.{CpuCall, cpu_read, cpu_peek, cpu_write, CpuPlan, cpu_plan_of, write_counter, read_counter, refused_counter, no_counter, read_reply, write_deed, cpu_plan}
use Rattle.machine.specs.Step.{graphics_step, Device, cpu_refused, cpu_perform, cpu_step, graphics, cpu}
use Rattle.machine.proofs.Laws.{both, refuse-0}
use Rattle.machine.proofs.Computed.{computed}
use Rattle.machine.proofs.Worked.{start, told, gc_to, says, leads, each, painted}

-- ---- the rule, computed

-- document 01's rule for the 128K window as K2 leaves it, at addresses that no case of the twelve tries
pub mappings : List (List ℕ)
unfolding leads says gc_to
mappings =
    -- chain set: bit 16 goes to bit 0 with bit 14 set and clear; an address up to FFFF is outside the window
    leads 2 (0xA4001 ∷ 0xB0000 ∷ 0xBC001 ∷ 0x4000 ∷ 0xFFFF ∷ [])
    -- the page bit is not looked at
    ∷ says (gc_to 6 2) (graphics (gc_map_address 0xA4001 true) ∷ graphics (gc_map_address 0xB0000 true) ∷ [])
    -- chain clear: the address as it stands
    ∷ leads 0 (0xA4001 ∷ 0xB0000 ∷ [])
    -- a read, a peek and a write up to FFFF: 2, though the offset is n or more besides
    ∷ says (gc_to 6 2) (cpu (cpu_read 0x4000 false) ∷ cpu (cpu_peek 0x4000 false) ∷ cpu (cpu_write 0xFFFF false 0xFF) ∷ [])
    ∷ []

pub mapping-rules : mappings
    ≡ (0 ∷ 0x4000 ∷ 1 ∷ 0 ∷ 1 ∷ 0 ∷ 0 ∷ 0xC001 ∷ 1 ∷ 2 ∷ 0 ∷ 0 ∷ 2 ∷ 0 ∷ 0 ∷ [])
    ∷ (0 ∷ 0x4000 ∷ 1 ∷ 0 ∷ 1 ∷ 0 ∷ [])
    ∷ (0 ∷ 0x4001 ∷ 1 ∷ 0 ∷ 0 ∷ 0 ∷ [])
    ∷ (2 ∷ 0 ∷ 2 ∷ 0 ∷ 2 ∷ 0 ∷ 0 ∷ 0 ∷ 0 ∷ [])
    ∷ []
unfolding mappings
mapping-rules = refl

-- ---- the rule as document 01 wrote it

-- every address that the 128K window takes is above FFFF
pub bit-14-never : (x : ℕ) → in_window A0000_128k x ≡ true → 0xFFFF < x
unfolding in_window
bit-14-never x e = let from_First = leb-true 0xA0000 x (both _ _ e).0 in omega (arith, from_First)

-- the rule as document 01 wrote it, with both cases: 128K, chain set: clear bit 0, put bit 16 there if the address is above FFFF, else bit 14
abbrev as_written : MemoryMap → Bool → ℕ → Bool → ℕ
as_written A0000_128k chain x page = pick chain (with_bit0 (pick (ltb 0xFFFF x) (bit 16 x) (bit 14 x)) x) x
as_written A0000_64K chain x page = pick chain (with_bit0 (bit_of page) x) (x - 0xA0000)
as_written B0000_32K chain x page = 0
as_written B8000_32K chain x page = x - 0xB8000

-- in the window the rule as written and `mapped` give the same number
pub mapping-stays : (w : MemoryMap) (chain : Bool) (x : ℕ) (page : Bool) → in_window w x ≡ true → as_written w chain x page ≡ mapped w chain x page
unfolding mapped
mapping-stays A0000_128k chain x page e = rw (lt-ltb 0xFFFF x (bit-14-never x e))
mapping-stays A0000_64K chain x page e = refl
mapping-stays B0000_32K chain x page e = refl
mapping-stays B8000_32K chain x page e = refl

-- the rule as written, then `mapped`, at an address of the 128K map, chain set
abbrev both_rules : ℕ → List ℕ
both_rules x = as_written A0000_128k true x false ∷ mapped A0000_128k true x false ∷ []

-- no theorem on answers tells what stands in a branch that nothing reaches: that it is bit 14, up to FFFF, is computed; then two addresses of the window
pub as_written_lem : each both_rules (0x4000 ∷ 0x8000 ∷ 0xFFFF ∷ 0x10000 ∷ 0xA4001 ∷ 0xB0000 ∷ [])
    ≡ 0x4001 ∷ 0x4000 ∷ 0x8000 ∷ 0x8000 ∷ 0xFFFF ∷ 0xFFFE ∷ 0x10001 ∷ 0x10001 ∷ 0xA4000 ∷ 0xA4000 ∷ 0xB0001 ∷ 0xB0001 ∷ []
unfolding bit mapped each
as_written_lem = refl

-- ---- accesses by any rule that leads from an address to an offset

-- the calls that ask for an offset
pub data Access : Type 0 where
  reads peeks : Access
  -- byte
  writes : ℕ → Access

-- such a call at an address and a page
abbrev pub access_at : Access → ℕ → Bool → CpuCall
access_at reads x page = cpu_read x page
access_at peeks x page = cpu_peek x page
access_at (writes v) x page = cpu_write x page v

-- its plan, the number and the offset left open
abbrev plan_at : GraphicsRegisters → Sequencer → ℕ → Access → ℕ → ℕ → CpuPlan
plan_at r s x reads n o = cpu_plan_of (plan n (load (stored_at s o)) (read_reply (read_mode r) r s x o)) (read_counter (read_mode r)) refused_counter
plan_at r s x peeks n o = cpu_plan_of (plan n rest (byte_at (peeked_plane s o) (stored_at s o))) no_counter no_counter
plan_at r s x (writes v) n o = cpu_plan_of (plan n (write_deed (write_mode r) r s x o v) (changes_at (stored_at s o))) (write_counter (write_mode r)) refused_counter

module _ (rule : GraphicsRegisters → ℕ → Bool → ℕ) (r : GraphicsRegisters) (s : Sequencer) (h : Shape) (x : ℕ) (page : Bool) where
  abbrev number_by : ℕ
  number_by = refuse (fits_both r s) 6 (refuse (sound h) 1 (refuse (in_window (memory_map r) x) 2 (check_offset h (rule r x page))))

  abbrev plan_by : Access → CpuPlan
  plan_by k = plan_at r s x k number_by (rule r x page)

-- by the machine's own rule it is the machine's plan
pub by-offset : (r : GraphicsRegisters) (s : Sequencer) (h : Shape) (x : ℕ) (page : Bool) (k : Access) → plan_by offset r s h x page k ≡ cpu_plan r s h (access_at k x page)
unfolding cpu_plan access_number
by-offset r s h x page reads = refl
by-offset r s h x page peeks = refl
by-offset r s h x page (writes v) = refl

-- ---- by the rule as written: numbers, and offsets where they are 0

-- then keep 16 bits
abbrev offset_as_written : GraphicsRegisters → ℕ → Bool → ℕ
offset_as_written r x page = as_written (memory_map r) (chained r) x page % 65536

module _ (r : GraphicsRegisters) (x : ℕ) (page : Bool) where
  in_window_lem : in_window (memory_map r) x ≡ true → offset_as_written r x page ≡ offset r x page
  unfolding offset
  in_window_lem e = ap (λ (o : ℕ). o % 65536) (mapping-stays (memory_map r) (chained r) x page e)

  -- what `map_address` hands out where it is given 0; its number asks for no offset
  pub value_stays : gc_number_of r (gc_map_address x page) ≡ 0 → two (offset_as_written r x page) (bit_of (a0 x)) ≡ gc_value r (gc_map_address x page)
  unfolding gc_number_of gc_value
  value_stays e = ap (λ (o : ℕ). two o (bit_of (a0 x))) (in_window_lem (refuse-0 _ 1 0 (refuse-0 (fits_gc r) 5 _ e).1).0)

  module _ (s : Sequencer) (h : Shape) where
    -- a read, a peek and a write are given the same number, whatever the address: outside the window none asks for an offset
    pub number-stays : number_by offset_as_written r s h x page ≡ access_number r s h x page
    unfolding access_number
    number-stays = go (in_window (memory_map r) x) refl
      where
        go : (w : Bool) → in_window (memory_map r) x ≡ w → number_by offset_as_written r s h x page ≡ number_by offset r s h x page
        go true e = rw (in_window_lem e)
        go false e = rw e

    -- where it is 0, the offset is the same too
    pub offset-stays : access_number r s h x page ≡ 0 → offset_as_written r x page ≡ offset r x page
    unfolding access_number
    offset-stays e = in_window_lem (refuse-0 _ 1 _ (refuse-0 (sound h) 0 _ (refuse-0 (fits_both r s) 5 _ e).1).1).0

    -- so an accepted access has the same plan: what it loads or stores, what it answers from, its counter
    pub plan-stays : (k : Access) → access_number r s h x page ≡ 0 → plan_by offset_as_written r s h x page k ≡ cpu_plan r s h (access_at k x page)
    plan-stays k e = rw (offset-stays e) (by-offset r s h x page k)

-- ---- by the rule as written: every answer, and what is left

-- a refused read's value is 0 in both read modes
blank-read : (d : ReadMode) (r : GraphicsRegisters) (s : Sequencer) (x o : ℕ) (was : Memory) (l : List ℕ) (m : Memory) → blank (value_of (read_reply d r s x o) was l m) ≡ one 0
unfolding value_of read_reply
blank-read ReadSelectedPlane r s x o was l m = refl
blank-read ReadComparedPlanes r s x o was l m = refl

-- what a refused access hands back
abbrev blank_of : Access → Value
blank_of reads = one 0
blank_of peeks = one 0
blank_of (writes v) = changes 0 0 0 0

module _ (g : GraphicsController) (s : Sequencer) (m : Memory) (x : ℕ) (page : Bool) where
  -- what a refused access leaves, whatever the offset: here 0
  abbrev left_of : Access → ℕ → Device
  left_of k n = cpu_refused (plan_at g.registers s x k (suc n) 0) g m

  -- a refused access shows no offset
  refused : (k : Access) (n o : ℕ) → cpu_perform (plan_at g.registers s x k (suc n) o) g m ≡ outcome (said (suc n) (blank_of k)) (left_of k n)
  unfolding memory_after value_of
  refused reads n o = ap (λ (v : Value). outcome (said (suc n) v) (left_of reads n)) (blank-read (read_mode g.registers) _ s x o m _ m)
  refused peeks n o = refl
  refused (writes v) n o = refl

  refused-by : (rule : GraphicsRegisters → ℕ → Bool → ℕ) (k : Access) (n : ℕ) → number_by rule g.registers s (shape m) x page ≡ suc n
      → cpu_perform (plan_by rule g.registers s (shape m) x page k) g m ≡ outcome (said (suc n) (blank_of k)) (left_of k n)
  refused-by rule k n e = rw e (refused k n _)

  -- every read, peek and write answers the same and leaves the same
  pub accesses-stay : (k : Access) → cpu_perform (plan_by offset_as_written g.registers s (shape m) x page k) g m ≡ cpu_step g s m (access_at k x page)
  unfolding cpu_step access_number
  accesses-stay k = go (access_number g.registers s (shape m) x page) refl
    where
      go : (n : ℕ) → access_number g.registers s (shape m) x page ≡ n
          → cpu_perform (plan_by offset_as_written g.registers s (shape m) x page k) g m ≡ cpu_perform (cpu_plan g.registers s (shape m) (access_at k x page)) g m
      go zero e = ap (λ (a : CpuPlan). cpu_perform a g m) (plan-stays g.registers x page s (shape m) k e)
      go (suc n) e =
          refused-by offset_as_written k n (number-stays g.registers x page s (shape m) ∙ e)
          ∙ sym (refused-by offset k n e)
          ∙ ap (λ (a : CpuPlan). cpu_perform a g m) (by-offset g.registers s (shape m) x page k)

-- two values of `map_address` that agree where they are shown
mapped-behind : (n o q a : ℕ) (g : GraphicsController) → (n ≡ 0 → two o a ≡ two q a) → answered n (two o a) g g ≡ answered n (two q a) g g
mapped-behind zero o q a g same = ap (λ (v : Value). outcome (said 0 v) g) (same refl)
mapped-behind (suc n) o q a g same = refl

-- `map_address` answers the same, and leaves the record
pub map-address-stays : (g : GraphicsController) (x : ℕ) (page : Bool)
    → answered (gc_number_of g.registers (gc_map_address x page)) (two (offset_as_written g.registers x page) (bit_of (a0 x))) g g ≡ graphics_step g (gc_map_address x page)
unfolding graphics_step gc_value gc_next
map-address-stays g x page = mapped-behind (gc_number_of g.registers (gc_map_address x page)) _ _ _ g (value_stays g.registers x page)

-- ---- each kind of access, computed

-- `painted` in the 128K window, chain set: 11 and 1 stand in plane 0. What an access there says by a rule, then those two bytes and latch 0
says_by : (GraphicsRegisters → ℕ → Bool → ℕ) → Access → ℕ → List ℕ
unfolding start computed painted gc_to told
says_by rule k x =
    let s = (computed start (painted ++ gc_to 6 2)).final in
    let o = cpu_perform (plan_by rule s.gc.registers s.seq (shape s.memory) x false k) s.gc s.memory in
    told o.answer ++ (take 2 o.next.memory.p0 ++ take 1 o.next.gc.latches)

-- each kind of access at A0001, which leads to 0, at B0000, which leads to 1, and at 4000, where the two rules differ
kinds_by : (GraphicsRegisters → ℕ → Bool → ℕ) → List ℕ
unfolding says_by each
kinds_by rule = each (says_by rule reads) addresses ++ (each (says_by rule peeks) addresses ++ each (says_by rule (writes 0xFF)) addresses)
  where
    addresses : List ℕ
    addresses = 0xA0001 ∷ 0xB0000 ∷ 0x4000 ∷ []

pub ruled : List (List ℕ)
unfolding kinds_by offset
ruled = kinds_by offset ∷ kinds_by offset_as_written ∷ kinds_by (λ r x page. 1) ∷ []

-- three answers of a read, of a peek, of a write
pub ruled_said : List ℕ
ruled_said =
    0 ∷ 0x11 ∷ 0x11 ∷ 1 ∷ 0x11 ∷ 0 ∷ 1 ∷ 0x11 ∷ 1 ∷ 1 ∷ 2 ∷ 0 ∷ 0x11 ∷ 1 ∷ 0
    ∷ 0 ∷ 0x11 ∷ 0x11 ∷ 1 ∷ 0 ∷ 0 ∷ 1 ∷ 0x11 ∷ 1 ∷ 0 ∷ 2 ∷ 0 ∷ 0x11 ∷ 1 ∷ 0
    ∷ 0 ∷ 6 ∷ 6 ∷ 6 ∷ 6 ∷ 0xFF ∷ 1 ∷ 0 ∷ 0 ∷ 7 ∷ 7 ∷ 7 ∷ 7 ∷ 0x11 ∷ 0xFF ∷ 0 ∷ 2 ∷ 0 ∷ 0 ∷ 0 ∷ 0 ∷ 0x11 ∷ 1 ∷ 0 ∷ []

-- by the machine's rule and by the rule as written the same; a rule that leads everywhere to 1 is told by each kind of access, but not at 4000
pub rules-told : ruled
    ≡ ruled_said
    ∷ ruled_said
    ∷ (0 ∷ 1 ∷ 0x11 ∷ 1 ∷ 1 ∷ 0 ∷ 1 ∷ 0x11 ∷ 1 ∷ 1 ∷ 2 ∷ 0 ∷ 0x11 ∷ 1 ∷ 0
    ∷ 0 ∷ 1 ∷ 0x11 ∷ 1 ∷ 0 ∷ 0 ∷ 1 ∷ 0x11 ∷ 1 ∷ 0 ∷ 2 ∷ 0 ∷ 0x11 ∷ 1 ∷ 0
    ∷ 0 ∷ 7 ∷ 7 ∷ 7 ∷ 7 ∷ 0x11 ∷ 0xFF ∷ 0 ∷ 0 ∷ 7 ∷ 7 ∷ 7 ∷ 7 ∷ 0x11 ∷ 0xFF ∷ 0 ∷ 2 ∷ 0 ∷ 0 ∷ 0 ∷ 0 ∷ 0x11 ∷ 1 ∷ 0 ∷ [])
    ∷ []
unfolding ruled ruled_said
rules-told = refl
