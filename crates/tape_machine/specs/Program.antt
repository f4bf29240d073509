-- The program `tape`: what it starts from, and what is left of its run where it ends.
use Rattle.std.specs.Prelude.{ℕ, List, replicate}
use Rattle.machine_types.specs.Start.{fresh_gc, fresh_seq}
use Rattle.machine.specs.Memory.{mem}
use Rattle.machine.specs.Step.{State, state}
use Rattle.tape_machine.specs.declared.ran.Ran.{Ran}
use Rattle.tape_machine.specs.Run.{run_of}

-- "n = 4,096, memory zero, both register sets at start"
unfoldable pub tape_start : State
tape_start = state fresh_gc fresh_seq (mem (replicate 4096 0) (replicate 4096 0) (replicate 4096 0) (replicate 4096 0) (replicate 32768 0))

-- what outlives the program's memory: what came back, and the slice that the lines stand in
pub record Printed : Type 0 where
  pub ran : Ran
  pub out : List ℕ

-- .. put together
abbrev pub printed : Ran → List ℕ → Printed
printed r o = record { ran = r; out = o }

-- a tape run from that start
unfoldable pub printed_of : List ℕ → List ℕ → Printed
printed_of tape out = let r = run_of tape tape_start out in printed r.ran r.out
