-- `counters-sum`: from a reset the six counters add up, modulo 2^32, to the processor's accepted reads and writes since.
-- `seven-counters-sum`: the seven add up to all its reads and writes since, apart from those answered 6 or 1.
use Prim.Native.Nat.{ℕ, zero, suc, ◌+◌, ◌%◌, ◌^◌}
use native.Mathlib.Omega.{arith}
use mathlib.Core.Path.{◌≡◌, refl, ap, ◌∙◌}
use mathlib.Core.Bool.{Bool, true, false}
use mathlib.Core.List.{List, [], ◌∷◌}
use lib.Dec.{eqb, ltb, eqb-suc-zero}
use Rattle.bits.specs.Bit.{pick}
use Rattle.machine_types.specs.declared.gc.GraphicsControllerStats.{GraphicsControllerStats}
use Rattle.machine_types.specs.declared.gc.GraphicsController.{GraphicsController}
use Rattle.machine_types.specs.declared.gc.GraphicsRegisters.{GraphicsRegisters}
use Rattle.machine_types.specs.declared.gc.WriteMode.{WriteMode}
use Rattle.machine_types.specs.declared.gc.WriteMode.TheVariants.{Mode0, Mode1, Mode2, Mode3}
use Rattle.machine_types.specs.declared.gc.ReadMode.{ReadMode}
use Rattle.machine_types.specs.declared.gc.ReadMode.TheVariants.{ReadSelectedPlane, ReadComparedPlanes}
use Rattle.machine_types.specs.declared.seq.Sequencer.{Sequencer}
use Rattle.machine_types.specs.declared.shape.Shape.{Shape}
use Rattle.machine_types.specs.Start.{fresh_gc}
use Rattle.machine.specs.Memory.{size, shape, sound}
use Rattle.machine.specs.Answers.{Value, answered}
use Rattle.machine.specs.Graphics.{read_mode, write_mode, memory_map}
use Rattle.machine.specs.Address.{in_window, offset}
use Rattle.machine.specs.Calls.{GraphicsCall, gc_reset, gc_chain, gc_chain4, gc_memory_map, gc_odd_even, gc_shift_mode, gc_read_address, gc_read_data, gc_write_address}
use Rattle.machine.specs.Calls.{gc_write_data, gc_map_address, gc_number_of, gc_value, gc_next, refuse, fits_both, access_number, show_number, pixels_number}
use Rattle.machine.specs.Calls.{CpuCall, cpu_read, cpu_peek, cpu_write, serialize, show_pixels, write_counter, read_counter}
use Rattle.machine.specs.Calls.{refused_counter, no_counter, is_counted, refusal_counter, counted, cpu_plan}
use Rattle.machine.specs.Step.{graphics_step, cpu_step, Device, State, Call, vram, sequencer, direct, graphics, cpu, step, run}
use Rattle.machine.specs.Claims.{turns_away, total, seven_total, accesses, since_reset, counts_where, tally_where, in_six, in_seven, tally, seven_tally}
use Rattle.machine.proofs.Laws.{answered-number, none-raised}
use Rattle.machine.proofs.Computed.{computed}
use Rattle.machine.proofs.Worked.{gc_to}
use Rattle.machine.proofs.AccessCounts.{odd, mixed}

-- ---- any sum of counters that each access moves as it counts

-- a sum of counters after so many accesses more
abbrev More : (GraphicsControllerStats → ℕ) → ℕ → GraphicsControllerStats → GraphicsControllerStats → Type 0
More sum k new old = sum new % 2 ^ 32 ≡ (sum old + k) % 2 ^ 32

-- each access moves the sum by one where its number counts, and not at all elsewhere; a peek and a show never do
abbrev Counts : (GraphicsControllerStats → ℕ) → (ℕ → Bool) → Type 0
Counts sum f = (s : State) (c : CpuCall) → More sum (pick (f (step s (cpu c)).answer.number) (accesses c) 0) (step s (cpu c)).next.gc.stats s.gc.stats

module _ (sum : GraphicsControllerStats → ℕ) (f : ℕ → Bool) (begun : sum fresh_gc.stats ≡ 0) (moves : Counts sum f) where
  -- the invariant: the counters show n
  abbrev Shows : ℕ → State → Type 0
  Shows n s = sum s.gc.stats % 2 ^ 32 ≡ n % 2 ^ 32

  module _ (n : ℕ) (s : State) (h : Shows n s) where
    -- a call on the controller that leaves the counters alone, refused or not
    kept : (k : ℕ) (v : Value) (new : GraphicsController) → new.stats ≡ s.gc.stats → sum (answered k v new s.gc).next.stats % 2 ^ 32 ≡ n % 2 ^ 32
    kept zero v new e = ap (λ (c : GraphicsControllerStats). sum c % 2 ^ 32) e ∙ h
    kept (suc k) v new e = h

    graphics-shows : (c : GraphicsCall) → sum (graphics_step s.gc c).next.stats % 2 ^ 32 ≡ since_reset n c % 2 ^ 32
    unfolding graphics_step gc_number_of gc_next
    graphics-shows gc_reset = ap (λ (x : ℕ). x % 2 ^ 32) begun
    graphics-shows gc_chain = kept (gc_number_of s.gc.registers gc_chain) (gc_value s.gc.registers gc_chain) (gc_next s.gc gc_chain) refl
    graphics-shows gc_chain4 = kept (gc_number_of s.gc.registers gc_chain4) (gc_value s.gc.registers gc_chain4) (gc_next s.gc gc_chain4) refl
    graphics-shows gc_memory_map = kept (gc_number_of s.gc.registers gc_memory_map) (gc_value s.gc.registers gc_memory_map) (gc_next s.gc gc_memory_map) refl
    graphics-shows gc_odd_even = kept (gc_number_of s.gc.registers gc_odd_even) (gc_value s.gc.registers gc_odd_even) (gc_next s.gc gc_odd_even) refl
    graphics-shows gc_shift_mode = kept (gc_number_of s.gc.registers gc_shift_mode) (gc_value s.gc.registers gc_shift_mode) (gc_next s.gc gc_shift_mode) refl
    graphics-shows gc_read_address = kept (gc_number_of s.gc.registers gc_read_address) (gc_value s.gc.registers gc_read_address) (gc_next s.gc gc_read_address) refl
    graphics-shows gc_read_data = kept (gc_number_of s.gc.registers gc_read_data) (gc_value s.gc.registers gc_read_data) (gc_next s.gc gc_read_data) refl
    graphics-shows (gc_write_address x) = kept (gc_number_of s.gc.registers (gc_write_address x)) (gc_value s.gc.registers (gc_write_address x)) (gc_next s.gc (gc_write_address x)) refl
    graphics-shows (gc_write_data x) = kept (gc_number_of s.gc.registers (gc_write_data x)) (gc_value s.gc.registers (gc_write_data x)) (gc_next s.gc (gc_write_data x)) refl
    graphics-shows (gc_map_address x page) = kept (gc_number_of s.gc.registers (gc_map_address x page)) (gc_value s.gc.registers (gc_map_address x page)) (gc_next s.gc (gc_map_address x page)) refl

    cpu-shows : (c : CpuCall) → sum (step s (cpu c)).next.gc.stats % 2 ^ 32 ≡ counts_where f n s (cpu c) % 2 ^ 32
    unfolding counts_where
    cpu-shows c = go (f (step s (cpu c)).answer.number) (moves s c)
      where
        go : (t : Bool) → More sum (pick t (accesses c) 0) (step s (cpu c)).next.gc.stats s.gc.stats → sum (step s (cpu c)).next.gc.stats % 2 ^ 32 ≡ pick t (n + accesses c) n % 2 ^ 32
        go true e = e ∙ omega (arith, h)
        go false e = e ∙ omega (arith, h)

    step-shows : (c : Call) → Shows (counts_where f n s c) (step s c).next
    unfolding step counts_where
    step-shows (vram c) = h
    step-shows (sequencer c) = h
    step-shows (direct c) = h
    step-shows (graphics c) = graphics-shows c
    step-shows (cpu c) = cpu-shows c

  run-shows : (cs : List Call) (n : ℕ) (s : State) → Shows n s → Shows (tally_where f n s cs) (run s cs).final
  unfolding tally_where run
  run-shows [] n s h = h
  run-shows (c ∷ cs) n s h = run-shows cs (counts_where f n s c) (step s c).next (step-shows n s h c)

  since-reset : (s : State) (cs : List Call)
      → sum (run (step s (graphics gc_reset)).next cs).final.gc.stats % 2 ^ 32 ≡ tally_where f 0 (step s (graphics gc_reset)).next cs % 2 ^ 32
  since-reset s cs = run-shows cs 0 (step s (graphics gc_reset)).next shown
    where
      shown : Shows 0 (step s (graphics gc_reset)).next
      shown = unfold step graphics_step gc_number_of gc_next in ap (λ (x : ℕ). x % 2 ^ 32) begun

-- ---- what a call does to the six and to the seventh

-- the six's sum goes up by i, the seventh by j
record Moved (i j : ℕ) (new old : GraphicsControllerStats) : Type 0 where
  six : More total i new old
  seventh : new.refused_accesses % 2 ^ 32 ≡ (old.refused_accesses + j) % 2 ^ 32

module _ (c : GraphicsControllerStats) where
  write-moved : (d : WriteMode) → Moved 1 0 (counted (write_counter d) c) c
  unfolding counted
  write-moved Mode0 = record { six = omega arith; seventh = omega arith }
  write-moved Mode1 = record { six = omega arith; seventh = omega arith }
  write-moved Mode2 = record { six = omega arith; seventh = omega arith }
  write-moved Mode3 = record { six = omega arith; seventh = omega arith }

  read-moved : (d : ReadMode) → Moved 1 0 (counted (read_counter d) c) c
  unfolding counted
  read-moved ReadSelectedPlane = record { six = omega arith; seventh = omega arith }
  read-moved ReadComparedPlanes = record { six = omega arith; seventh = omega arith }

  unmoved : Moved 0 0 (counted no_counter c) c
  unfolding counted
  unmoved = record { six = omega arith; seventh = omega arith }

  turned : (t : Bool) → Moved 0 (pick t 1 0) (counted (pick t refused_counter no_counter) c) c
  unfolding counted
  turned true = record { six = omega arith; seventh = omega arith }
  turned false = unmoved

  module _ (r : GraphicsRegisters) (s : Sequencer) (h : Shape) where
    -- an accepted access is counted once; a peek and a show are not
    accepted-moved : (a : CpuCall) → Moved (accesses a) 0 (counted (cpu_plan r s h a).counter c) c
    unfolding cpu_plan
    accepted-moved (cpu_read x page) = read-moved (read_mode r)
    accepted-moved (cpu_peek x page) = unmoved
    accepted-moved (cpu_write x page v) = write-moved (write_mode r)
    accepted-moved (serialize o) = unmoved
    accepted-moved (show_pixels o) = unmoved

    -- a refused one raises the seventh alone, where it is turned away
    refused-moved : (n : ℕ) (a : CpuCall) → Moved 0 (pick (turns_away a n) 1 0) (counted (refusal_counter n (cpu_plan r s h a).turned_away) c) c
    unfolding cpu_plan
    refused-moved n (cpu_read x page) = turned (is_counted n)
    refused-moved n (cpu_peek x page) = rw (none-raised n) unmoved
    refused-moved n (cpu_write x page v) = turned (is_counted n)
    refused-moved n (serialize o) = rw (none-raised n) unmoved
    refused-moved n (show_pixels o) = rw (none-raised n) unmoved

answered-moved : (n i j : ℕ) (v : Value) (new old : Device) (c : GraphicsControllerStats) → Moved i 0 new.gc.stats c → Moved 0 j old.gc.stats c
    → Moved (pick (eqb n 0) i 0) (pick (eqb n 0) 0 j) (answered n v new old).next.gc.stats c
answered-moved zero i j v new old c a b = a
answered-moved (suc n) i j v new old c a b = rw (eqb-suc-zero n) b

module _ (s : State) (c : CpuCall) where
  -- the number that the call's plan has
  abbrev number_of : ℕ
  number_of = (cpu_plan s.gc.registers s.seq (shape s.memory) c).ask.number

  cpu-moved : Moved (pick (eqb number_of 0) (accesses c) 0) (pick (eqb number_of 0) 0 (pick (turns_away c number_of) 1 0)) (step s (cpu c)).next.gc.stats s.gc.stats
  unfolding step cpu_step
  cpu-moved =
      answered-moved number_of (accesses c) _ _ _ _ s.gc.stats (accepted-moved s.gc.stats s.gc.registers s.seq (shape s.memory) c)
      (refused-moved s.gc.stats s.gc.registers s.seq (shape s.memory) number_of c)

  number_is : number_of ≡ (step s (cpu c)).answer.number
  unfolding step cpu_step
  number_is = answered-number number_of _ _ _

-- the six: an accepted access, and no other
six-counts : Counts total in_six
six-counts s c = rw (← number_is s c) (cpu-moved s c).six

-- an access is answered 6, 1, 2, 3 or 0
module _ (P : ℕ → Type 0) (p6 : P 6) (p1 : P 1) (p2 : P 2) (p3 : P 3) (p0 : P 0) where
  by_number : (r : GraphicsRegisters) (s : Sequencer) (h : Shape) (x : ℕ) (page : Bool) → P (access_number r s h x page)
  unfolding access_number
  by_number r s h x page = go (fits_both r s) (sound h) (in_window (memory_map r) x) (ltb (offset r x page) (size h))
    where
      go : (fits shaped within below : Bool) → P (refuse fits 6 (refuse shaped 1 (refuse within 2 (refuse below 3 0))))
      go false b c d = p6
      go true false c d = p1
      go true true false d = p2
      go true true true false = p3
      go true true true true = p0

-- accepted or turned away, or answered 6 or 1
abbrev Once : CpuCall → ℕ → Type 0
Once c n = pick (eqb n 0) (accesses c) 0 + pick (eqb n 0) 0 (pick (turns_away c n) 1 0) ≡ pick (in_seven n) (accesses c) 0

-- of a call that is no access
never-counted : (n : ℕ) → pick (eqb n 0) 0 0 + pick (eqb n 0) 0 0 ≡ pick (in_seven n) 0 0
never-counted n = go (eqb n 0) (in_seven n)
  where
    go : (t u : Bool) → pick t 0 0 + pick t 0 0 ≡ pick u 0 0
    go true true = refl
    go true false = refl
    go false true = refl
    go false false = refl

counted-once : (r : GraphicsRegisters) (s : Sequencer) (h : Shape) (c : CpuCall) → Once c (cpu_plan r s h c).ask.number
unfolding cpu_plan
counted-once r s h (cpu_read x page) = by_number (Once (cpu_read x page)) refl refl refl refl refl r s h x page
counted-once r s h (cpu_peek x page) = never-counted (access_number r s h x page)
counted-once r s h (cpu_write x page v) = by_number (Once (cpu_write x page v)) refl refl refl refl refl r s h x page
counted-once r s h (serialize o) = never-counted (show_number r s h o)
counted-once r s h (show_pixels o) = never-counted (pixels_number r s h o)

-- the seven: every access, apart from those answered 6 or 1
seven-counts : Counts seven_total in_seven
seven-counts s c =
    let m = cpu-moved s c in
    rw (← number_is s c, ← counted-once s.gc.registers s.seq (shape s.memory) c) omega (arith, m.six, m.seventh)

-- ---- the theorems

pub counters-sum : (s : State) (cs : List Call)
    → total (run (step s (graphics gc_reset)).next cs).final.gc.stats % 2 ^ 32 ≡ tally 0 (step s (graphics gc_reset)).next cs % 2 ^ 32
counters-sum = since-reset total in_six refl six-counts

pub seven-counters-sum : (s : State) (cs : List Call)
    → seven_total (run (step s (graphics gc_reset)).next cs).final.gc.stats % 2 ^ 32 ≡ seven_tally 0 (step s (graphics gc_reset)).next cs % 2 ^ 32
seven-counters-sum = since-reset seven_total in_seven refl seven-counts

-- ---- both on the run of AccessCounts: they ask nothing of state and calls

mixed-six : total (run (step odd (graphics gc_reset)).next mixed).final.gc.stats % 2 ^ 32 ≡ 3
unfolding odd mixed gc_to computed tally_where counts_where
mixed-six = counters-sum odd mixed

mixed-seven : seven_total (run (step odd (graphics gc_reset)).next mixed).final.gc.stats % 2 ^ 32 ≡ 5
unfolding odd mixed gc_to computed tally_where counts_where
mixed-seven = seven-counters-sum odd mixed
