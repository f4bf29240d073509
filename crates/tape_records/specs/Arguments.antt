-- What a record's arguments answer as they are read: an argument and the place behind it, and at last the command.
use Rattle.std.specs.Prelude.{ℕ, ◌-◌, ◌≤◌, ◌≡◌, drop, Some, Result, Ok, Err}
use Rattle.tape_records.specs.declared.records.Command.{Command}
use Rattle.tape_records.specs.declared.records.Fault.{Fault}
use Rattle.tape_records.specs.declared.arguments.Arguments.{Arguments}
use Rattle.tape_records.specs.Records.{Argument, good, Record, whole, broken, argument_of}

-- an answer as an argument: its number, and how far the reader went
abbrev pub took : {A : Type 0} → (A → ℕ) → ℕ → ℕ → Result A Fault → Argument
took number before after (Ok x) = good (number x) (after - before)
took number before after (Err f) = Err f

-- an argument of at most `most` was read where the reader stood, and it goes on behind it
pub record Reads {A : Type 0} (number : A → ℕ) (most : ℕ) (old new : Arguments) (result : Result A Fault) : Type 0 where
  pub same : new.tape ≡ old.tape
  pub so : argument_of most (drop old.taken old.tape.now) ≡ took number old.taken new.taken result
  pub forward : old.taken ≤ new.taken

-- an answer as a record: its command, and how far the reader went
abbrev pub made : ℕ → ℕ → Result Command Fault → Record
made operation taken (Ok x) = whole x taken
made operation taken (Err f) = broken (Some operation) f
