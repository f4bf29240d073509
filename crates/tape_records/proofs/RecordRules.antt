-- Each operation's record, its arguments in their order; and records that are broken, one of each kind that document 01 names under 7 and 8. By computation.
use Prim.Native.Nat.{ℕ}
use mathlib.Core.Path.{◌≡◌, refl}
use mathlib.Core.Bool.{true, false}
use mathlib.Core.List.{List, [], ◌∷◌}
use Rattle.std.specs.Prelude.{Some, None}
use Rattle.tape_numbers.specs.Numbers.{on_top, last_group, groups, number_of}
use Rattle.tape_records.specs.declared.records.Command.TheVariants.{Reset, GcAddress, GcData, SeqAddress, SeqData, Read, Write, Peek, Show}
use Rattle.tape_records.specs.declared.records.Fault.TheVariants.{Open, Damage, Range}
use Rattle.tape_records.specs.Records.{Record, whole, broken as broken_record, arguments, greatest_of, judged, argument_of, command_of, goes_on, third_of, second_of, first_of, started, record_of}

-- the record at the start of a tape, with every definition open
unfoldable pub computed_record : List ℕ → Record
unfolding on_top last_group groups number_of arguments greatest_of judged argument_of command_of goes_on third_of second_of first_of started record_of
computed_record tape = record_of tape

-- "0 reset both; 1, 2 GC address, data; 3, 4 sequencer address, data; 5 read (address, page); 6 write (address, page, byte); 7 peek (address, page); 8 show (offset)"
pub each-operation :
    (computed_record (0 ∷ 1 ∷ []) ≡ whole Reset 1)
    × (computed_record (1 ∷ 3 ∷ 0 ∷ []) ≡ whole (GcAddress 3) 2)
    × (computed_record (2 ∷ 4 ∷ 0 ∷ []) ≡ whole (GcData 4) 2)
    × (computed_record (3 ∷ 5 ∷ 0 ∷ []) ≡ whole (SeqAddress 5) 2)
    × (computed_record (4 ∷ 255 ∷ 1 ∷ 0 ∷ []) ≡ whole (SeqData 255) 3)
    × (computed_record (5 ∷ 2 ∷ 1 ∷ 0 ∷ []) ≡ whole (Read 2 true) 3)
    × (computed_record (5 ∷ 2 ∷ 0 ∷ 0 ∷ []) ≡ whole (Read 2 false) 3)
    × (computed_record (6 ∷ 2 ∷ 1 ∷ 7 ∷ 0 ∷ []) ≡ whole (Write 2 true 7) 4)
    × (computed_record (6 ∷ 2 ∷ 0 ∷ 7 ∷ 0 ∷ []) ≡ whole (Write 2 false 7) 4)
    × (computed_record (7 ∷ 2 ∷ 1 ∷ 0 ∷ []) ≡ whole (Peek 2 true) 3)
    × (computed_record (7 ∷ 2 ∷ 0 ∷ 0 ∷ []) ≡ whole (Peek 2 false) 3)
    × (computed_record (8 ∷ 9 ∷ 0 ∷ []) ≡ whole (Show (record { 0 = 9 })) 2)
unfolding computed_record
each-operation = (refl, refl, refl, refl, refl, refl, refl, refl, refl, refl, refl, refl)

pub broken :
    -- a fifth byte above 15
    (computed_record (128 ∷ 128 ∷ 128 ∷ 128 ∷ 16 ∷ 0 ∷ []) ≡ broken_record None Damage)
    -- a last byte 0 in a longer number
    × (computed_record (1 ∷ 129 ∷ 0 ∷ 0 ∷ []) ≡ broken_record (Some 1) Damage)
    -- the input ends inside a record
    × (computed_record (8 ∷ []) ≡ broken_record (Some 8) Open)
    -- an operation above 8, a byte above 255, a page above 1
    × (computed_record (9 ∷ 0 ∷ []) ≡ broken_record (Some 9) Range)
    × (computed_record (2 ∷ 128 ∷ 2 ∷ 0 ∷ []) ≡ broken_record (Some 2) Range)
    × (computed_record (5 ∷ 128 ∷ 128 ∷ 40 ∷ 2 ∷ 0 ∷ []) ≡ broken_record (Some 5) Range)
    -- 2^32 - 1 is a number
    × (computed_record (8 ∷ 255 ∷ 255 ∷ 255 ∷ 255 ∷ 15 ∷ []) ≡ whole (Show (record { 0 = 4294967295 })) 6)
unfolding computed_record
broken = (refl, refl, refl, refl, refl, refl, refl)
