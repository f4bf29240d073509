-- A tape's run that computes: `unfolding computed_run` opens every definition of the tape and of the machine at once. What worked examples are stated over.
use Prim.Native.Nat.{ℕ, ◌*◌}
use mathlib.Core.List.{List}
use lib.ListN.{length, take, replicate}
use Rattle.machine_types.specs.declared.gc.ShiftMode.TheVariants.{Standard}
use Rattle.machine.specs.Answers.{one, shown, said}
use Rattle.machine.specs.Step.{State}
use Rattle.machine.proofs.Computed.{computed}
use Rattle.tape_numbers.specs.Numbers.{on_top, last_group, groups, number_of}
use Rattle.std.specs.Prelude.{Some}
use Rattle.tape_records.specs.Records.{Record, arguments, greatest_of, judged, argument_of, command_of, goes_on, third_of, second_of, first_of, started, record_of}
use Rattle.tape_machine.specs.Performs.{performed}
use Rattle.tape_machine.specs.Text.{digits_of, decimal_of, field_of, hex_of}
use Rattle.tape_machine.specs.Lines.{name_of, value_text, line_of}
use Rattle.tape_machine.specs.Run.{longest, up_to_stop, records_after, records_of, record_line, left, lines_of, ending, TapeRun, played_of, run_of}

-- the records of a tape
unfoldable pub computed_records : List ℕ → List Record
unfolding on_top last_group groups number_of arguments greatest_of judged argument_of command_of goes_on third_of second_of first_of started record_of up_to_stop records_after records_of
computed_records tape = records_of tape

-- a whole run
unfoldable pub computed_run : List ℕ → State → List ℕ → TapeRun
unfolding computed computed_records performed digits_of decimal_of field_of hex_of name_of value_text line_of record_line left lines_of ending played_of run_of
computed_run tape s out = run_of tape s out

-- a run whose lines have just the room that is asked for
unfoldable pub roomy_run : List ℕ → State → TapeRun
unfolding computed_run
roomy_run tape s = computed_run tape s (replicate (longest * length tape) 0)

-- .. and its lines
unfoldable pub computed_lines : State → List ℕ → List ℕ
unfolding roomy_run
computed_lines s tape = let r = roomy_run tape s in take r.ran.written r.out

-- ---- what is expected of a record's line

-- its number, operation, answer, and a byte or 0
unfoldable pub line : ℕ → ℕ → ℕ → ℕ → List ℕ
unfolding computed_run
line k operation number x = line_of k (Some operation) (said number (one x))

-- .. of an accepted show, its pixels given; the shift mode is not told
unfoldable pub digits_line : ℕ → List ℕ → List ℕ
unfolding computed_run
digits_line k l = line_of k (Some 8) (said 0 (shown Standard l))

-- .. whose eight pixels are alike
unfoldable pub show_line : ℕ → ℕ → List ℕ
unfolding digits_line
show_line k x = digits_line k (replicate 8 x)
