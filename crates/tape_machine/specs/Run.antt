-- A whole run: the records of a tape, the lines that they say, and the state that they leave, over the machine's `step`.
use Rattle.std.specs.Prelude.{ℕ, zero, suc, ◌+◌, ◌-◌, ◌*◌, List, [], ◌∷◌, ◌++◌, leb, length, Some, Result, Ok, Err}
use Rattle.std.proofs.lemmas.List.Edits.{sets}
use Rattle.bits.specs.Bit.{pick}
use Rattle.machine_types.specs.declared.answer.Refusal.{Refusal}
use Rattle.machine_types.specs.declared.answer.Refusal.TheVariants.{Damaged, Range, Room}
use Rattle.machine_types.specs.declared.gc.GraphicsController.{GraphicsController}
use Rattle.machine_types.specs.declared.seq.Sequencer.{Sequencer}
use Rattle.machine.specs.Memory.{Memory}
use Rattle.machine.specs.Answers.{refusal_number, one, Said, said}
use Rattle.machine.specs.Step.{State}
use Rattle.tape_records.specs.declared.records.Command.{Command}
use Rattle.tape_records.specs.declared.records.Command.TheVariants.{Reset, GcAddress, GcData, SeqAddress, SeqData, Read, Write, Peek, Show}
use Rattle.tape_records.specs.declared.records.Fault.{Fault}
use Rattle.tape_records.specs.declared.records.Fault.TheVariants.{Open, Damage, Range as OutOfRange}
use Rattle.tape_machine.specs.declared.ran.Ran.{Ran}
use Rattle.tape_records.specs.Records.{Record, record_of}
use Rattle.tape_machine.specs.Performs.{performed}
use Rattle.tape_machine.specs.Lines.{line_of}

-- ---- the records of a tape

-- a record, and after a whole one what follows it; a broken one ends the tape
unfoldable pub up_to_stop : Record → (ℕ → List Record) → List Record
up_to_stop (Ok r) rest = Ok r ∷ rest (r.taken - 1)
up_to_stop (Err r) rest = Err r ∷ []

-- the records of bytes of which the first `skip` belong to the record before
unfoldable pub records_after : ℕ → List ℕ → List Record
records_after skip [] = []
records_after (suc skip) (b ∷ s) = records_after skip s
records_after zero (b ∷ s) = up_to_stop (record_of (b ∷ s)) (λ n. records_after n s)

-- the records of a whole tape: none of its bytes belongs to a record before
unfoldable pub records_of : List ℕ → List Record
records_of tape = records_after 0 tape

-- ---- one record

-- "Operations: 0 reset both; 1, 2 GC address, data; 3, 4 sequencer address, data; 5 read; 6 write; 7 peek; 8 show"
abbrev pub operation_number : Command → ℕ
operation_number Reset = 0
operation_number (GcAddress x) = 1
operation_number (GcData x) = 2
operation_number (SeqAddress x) = 3
operation_number (SeqData x) = 4
operation_number (Read address page) = 5
operation_number (Write address page x) = 6
operation_number (Peek address page) = 7
operation_number (Show offset) = 8

-- 7: the input ends inside a record, or a number is damaged; 8: an operation or an argument is out of range
abbrev pub fault_said : Fault → Said
fault_said Open = said (refusal_number Damaged) (one 0)
fault_said Damage = said (refusal_number Damaged) (one 0)
fault_said OutOfRange = said (refusal_number Range) (one 0)

-- the line of a record that is number k and finds the machine at s
unfoldable pub record_line : ℕ → State → Record → List ℕ
record_line k s (Ok r) = line_of k (Some (operation_number r.command)) (performed s r.command).answer
record_line k s (Err r) = line_of k r.operation (fault_said r.fault)

-- a 7 or 8 undoes no record before it
unfoldable pub left : State → Record → State
left s (Ok r) = (performed s r.command).next
left s (Err r) = s

-- ---- the whole run

-- "Each line": of each record in turn, numbered from k on, each finding the machine as the one before left it
unfoldable pub lines_of : ℕ → State → List Record → List ℕ
lines_of k s [] = []
lines_of k s (r ∷ rs) = record_line k s r ++ lines_of (k + 1) (left s r) rs

-- the state that the records leave
unfoldable pub ending : State → List Record → State
ending s [] = s
ending s (r ∷ rs) = ending (left s r) rs

-- a whole run of a tape: what came back, and what stands behind the lent slices
pub record TapeRun : Type 0 where
  pub ran : Ran
  pub memory : Memory
  pub out : List ℕ

-- .. put together
abbrev pub tape_run : Ran → Memory → List ℕ → TapeRun
tape_run r m o = record { ran = r; memory = m; out = o }

-- a run that had room
abbrev pub ended_of : ℕ → GraphicsController → Sequencer → Ran
ended_of n g s = record { answer = Ok tt; written = n; gc = g; seq = s }

-- .. and any run: its answer, the bytes written, the records of the state that it leaves
abbrev pub ran_to : Result Unit Refusal → ℕ → State → Ran
ran_to a n s = record { answer = a; written = n; gc = s.gc; seq = s.seq }

-- the lines stand at the start of `out`, whose other bytes stay
unfoldable pub played_of : List ℕ → State → List ℕ → TapeRun
played_of tape s out =
    let lines = lines_of 1 s (records_of tape) in
    let end = ending s (records_of tape) in
    tape_run (ran_to (Ok tt) (length lines) end) end.memory (sets out 0 lines)

-- the longest line: four numbers of at most 20 digits, and what parts them
abbrev pub longest : ℕ
longest = 84

-- `out` has to hold the longest line for each byte of the tape, else nothing is done
unfoldable pub run_of : List ℕ → State → List ℕ → TapeRun
run_of tape s out = pick (leb (longest * length tape) (length out)) (played_of tape s out) (tape_run (ran_to (Err Room) 0 s) s.memory out)
