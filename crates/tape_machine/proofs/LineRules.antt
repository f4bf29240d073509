-- Lines that document 01's example does not reach, computed: an unread operation, the two faults, every hexadecimal digit, shows in every shift mode, one of eight zeros that was
-- answered and some that were refused, a byte, a write that changed every bit, and one that was refused.
use Prim.Native.Nat.{ℕ}
use mathlib.Core.Path.{◌≡◌, refl}
use mathlib.Core.List.{List, [], ◌∷◌}
use Rattle.machine_types.specs.declared.gc.ShiftMode.TheVariants.{Standard, CGACompatible, Chain4, Unused}
use Rattle.std.specs.Prelude.{Some, None, Ok, Err}
use Rattle.machine_types.specs.declared.answer.Refusal.TheVariants.{Offset, Place}
use Rattle.tape_records.specs.declared.records.Fault.TheVariants.{Open, Damage, Range as OutOfRange}
use Rattle.tape_machine.specs.declared.told.Told.TheVariants.{Byte, Pixels, Changes}
use Rattle.tape_machine.specs.Told.{told_said}
use Rattle.tape_machine.specs.Text.{digits_of, decimal_of, field_of, hex_of}
use Rattle.tape_machine.specs.Lines.{name_of, value_text, line_of}
use Rattle.tape_machine.specs.Run.{fault_said}

-- every digit, in two times eight pixels, and eight times 0
lower : List ℕ
lower = 0 ∷ 1 ∷ 2 ∷ 3 ∷ 10 ∷ 11 ∷ 12 ∷ 15 ∷ []

upper : List ℕ
upper = 4 ∷ 5 ∷ 6 ∷ 7 ∷ 8 ∷ 9 ∷ 13 ∷ 14 ∷ []

zeros : List ℕ
zeros = 0 ∷ 0 ∷ 0 ∷ 0 ∷ 0 ∷ 0 ∷ 0 ∷ 0 ∷ []

-- what the definitions give, with each open
unfoldable pub lines : List (List ℕ)
unfolding digits_of decimal_of field_of hex_of name_of value_text line_of lower upper zeros
lines =
    line_of 1 None (fault_said Open)
    ∷ line_of 20 (Some 9) (fault_said OutOfRange)
    ∷ line_of 3 (Some 5) (fault_said Damage)
    ∷ line_of 4 (Some 8) (told_said (Pixels Standard (Ok lower)))
    ∷ line_of 7 (Some 8) (told_said (Pixels Chain4 (Ok upper)))
    ∷ line_of 5 (Some 8) (told_said (Pixels CGACompatible (Err Place)))
    ∷ line_of 6 (Some 5) (told_said (Byte (Ok 255)))
    ∷ line_of 8 (Some 6) (told_said (Changes (Ok (record { p0 = 8; p1 = 8; p2 = 8; p3 = 8 }))))
    ∷ line_of 9 (Some 6) (told_said (Changes (Err Offset)))
    -- eight zeros, answered in each mode and refused
    ∷ line_of 1 (Some 8) (told_said (Pixels Standard (Ok zeros)))
    ∷ line_of 2 (Some 8) (told_said (Pixels CGACompatible (Ok zeros)))
    ∷ line_of 3 (Some 8) (told_said (Pixels Chain4 (Ok zeros)))
    ∷ line_of 4 (Some 8) (told_said (Pixels Unused (Ok zeros)))
    ∷ line_of 5 (Some 8) (told_said (Pixels Standard (Err Place)))
    ∷ line_of 6 (Some 8) (told_said (Pixels Chain4 (Err Place)))
    ∷ []

-- what the document says, a character a number
pub lines_said : List (List ℕ)
lines_said =
    (49 ∷ 32 ∷ 45 ∷ 32 ∷ 55 ∷ 32 ∷ 48 ∷ 10 ∷ [])
    ∷ (50 ∷ 48 ∷ 32 ∷ 57 ∷ 32 ∷ 56 ∷ 32 ∷ 48 ∷ 10 ∷ [])
    ∷ (51 ∷ 32 ∷ 53 ∷ 32 ∷ 55 ∷ 32 ∷ 48 ∷ 10 ∷ [])
    ∷ (52 ∷ 32 ∷ 56 ∷ 32 ∷ 48 ∷ 32 ∷ 48 ∷ 49 ∷ 50 ∷ 51 ∷ 65 ∷ 66 ∷ 67 ∷ 70 ∷ 10 ∷ [])
    ∷ (55 ∷ 32 ∷ 56 ∷ 32 ∷ 48 ∷ 32 ∷ 52 ∷ 53 ∷ 54 ∷ 55 ∷ 56 ∷ 57 ∷ 68 ∷ 69 ∷ 10 ∷ [])
    ∷ (53 ∷ 32 ∷ 56 ∷ 32 ∷ 53 ∷ 32 ∷ 48 ∷ 10 ∷ [])
    ∷ (54 ∷ 32 ∷ 53 ∷ 32 ∷ 48 ∷ 32 ∷ 50 ∷ 53 ∷ 53 ∷ 10 ∷ [])
    ∷ (56 ∷ 32 ∷ 54 ∷ 32 ∷ 48 ∷ 32 ∷ 48 ∷ 10 ∷ [])
    ∷ (57 ∷ 32 ∷ 54 ∷ 32 ∷ 51 ∷ 32 ∷ 48 ∷ 10 ∷ [])
    ∷ (49 ∷ 32 ∷ 56 ∷ 32 ∷ 48 ∷ 32 ∷ 48 ∷ 48 ∷ 48 ∷ 48 ∷ 48 ∷ 48 ∷ 48 ∷ 48 ∷ 10 ∷ [])
    ∷ (50 ∷ 32 ∷ 56 ∷ 32 ∷ 48 ∷ 32 ∷ 48 ∷ 48 ∷ 48 ∷ 48 ∷ 48 ∷ 48 ∷ 48 ∷ 48 ∷ 10 ∷ [])
    ∷ (51 ∷ 32 ∷ 56 ∷ 32 ∷ 48 ∷ 32 ∷ 48 ∷ 48 ∷ 48 ∷ 48 ∷ 48 ∷ 48 ∷ 48 ∷ 48 ∷ 10 ∷ [])
    ∷ (52 ∷ 32 ∷ 56 ∷ 32 ∷ 48 ∷ 32 ∷ 48 ∷ 48 ∷ 48 ∷ 48 ∷ 48 ∷ 48 ∷ 48 ∷ 48 ∷ 10 ∷ [])
    ∷ (53 ∷ 32 ∷ 56 ∷ 32 ∷ 53 ∷ 32 ∷ 48 ∷ 10 ∷ [])
    ∷ (54 ∷ 32 ∷ 56 ∷ 32 ∷ 53 ∷ 32 ∷ 48 ∷ 10 ∷ [])
    ∷ []

pub line-rules : lines ≡ lines_said
unfolding lines lines_said
line-rules = refl
