-- Document 01's tape: the definition of a run on its 31 bytes, from the program's start, gives its eleven lines. By computation.
use Prim.Native.Nat.{ℕ}
use mathlib.Core.Path.{◌≡◌, refl}
use mathlib.Core.List.{List, [], ◌∷◌}
use lib.ListN.{replicate}
use Rattle.machine_types.specs.declared.answer.Refusal.TheVariants.{Room}
use Rattle.std.specs.Prelude.{Some, Err}
use Rattle.tape_records.specs.declared.records.Command.TheVariants.{Reset}
use Rattle.tape_records.specs.declared.records.Fault.TheVariants.{Range}
use Rattle.tape_records.specs.Records.{whole, broken}
use Rattle.tape_machine.specs.Run.{tape_run, ran_to}
use Rattle.tape_machine.specs.Program.{tape_start}
use Rattle.tape_machine.proofs.Computed.{computed_records, computed_run, computed_lines}

-- its 31 bytes
pub document_tape : List ℕ
document_tape =
    0x03 ∷ 0x04 ∷ 0x04 ∷ 0x04 ∷ 0x03 ∷ 0x02 ∷ 0x04 ∷ 0x05 ∷ 0x01 ∷ 0x06 ∷ 0x02 ∷ 0x05
    ∷ 0x01 ∷ 0x08 ∷ 0x02 ∷ 0xFF ∷ 0x01 ∷ 0x06 ∷ 0x80 ∷ 0x80 ∷ 0x28 ∷ 0x00 ∷ 0xA5 ∷ 0x01 ∷ 0x08 ∷ 0x00 ∷ 0x05 ∷ 0x80 ∷ 0x80 ∷ 0x28 ∷ 0x00 ∷ []

-- the eleven lines, a character a number, 10 at the end of each
pub document_lines : List ℕ
document_lines =
    49 ∷ 32 ∷ 51 ∷ 32 ∷ 48 ∷ 32 ∷ 48 ∷ 10
    ∷ 50 ∷ 32 ∷ 52 ∷ 32 ∷ 48 ∷ 32 ∷ 48 ∷ 10
    ∷ 51 ∷ 32 ∷ 51 ∷ 32 ∷ 48 ∷ 32 ∷ 48 ∷ 10
    ∷ 52 ∷ 32 ∷ 52 ∷ 32 ∷ 48 ∷ 32 ∷ 48 ∷ 10
    ∷ 53 ∷ 32 ∷ 49 ∷ 32 ∷ 48 ∷ 32 ∷ 48 ∷ 10
    ∷ 54 ∷ 32 ∷ 50 ∷ 32 ∷ 48 ∷ 32 ∷ 48 ∷ 10
    ∷ 55 ∷ 32 ∷ 49 ∷ 32 ∷ 48 ∷ 32 ∷ 48 ∷ 10
    ∷ 56 ∷ 32 ∷ 50 ∷ 32 ∷ 48 ∷ 32 ∷ 48 ∷ 10
    ∷ 57 ∷ 32 ∷ 54 ∷ 32 ∷ 48 ∷ 32 ∷ 48 ∷ 10
    ∷ 49 ∷ 48 ∷ 32 ∷ 56 ∷ 32 ∷ 48 ∷ 32 ∷ 53 ∷ 48 ∷ 53 ∷ 48 ∷ 48 ∷ 53 ∷ 48 ∷ 53 ∷ 10
    ∷ 49 ∷ 49 ∷ 32 ∷ 53 ∷ 32 ∷ 48 ∷ 32 ∷ 49 ∷ 54 ∷ 53 ∷ 10 ∷ []

pub document-01 : computed_lines tape_start document_tape ≡ document_lines
unfolding computed_lines tape_start document_tape document_lines
document-01 = refl

-- a broken record stops a tape that goes on: a reset, an operation of 9, and what could be another reset
pub stopped : computed_records (0 ∷ 9 ∷ 0 ∷ []) ≡ whole Reset 1 ∷ broken (Some 9) Range ∷ []
unfolding computed_records
stopped = refl

-- a reset, where there is room for the longest line: its line at the start of `out`, the other bytes as they were
pub roomed : ((computed_run (0 ∷ []) tape_start (replicate 84 7)).out ≡ 49 ∷ 32 ∷ 48 ∷ 32 ∷ 48 ∷ 32 ∷ 48 ∷ 10 ∷ replicate 76 7) × ((computed_run (0 ∷ []) tape_start (replicate 84 7)).ran.written ≡ 8)
unfolding computed_run tape_start
roomed = (refl, refl)

-- .. and with a byte less: nothing is done
pub no_room : computed_run (0 ∷ []) tape_start (replicate 83 7) ≡ tape_run (ran_to (Err Room) 0 tape_start) tape_start.memory (replicate 83 7)
unfolding computed_run
no_room = refl
