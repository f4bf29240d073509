-- A record's line: "record number, operation (`-` if unread), answer number, value (decimal byte; eight hexadecimal digits for an accepted show; else 0)".
use Rattle.std.specs.Prelude.{ℕ, List, [], ◌∷◌, ◌++◌, eqb, take, Option, Some, None}
use Rattle.bits.specs.Bit.{pick}
use Rattle.machine.specs.Answers.{Value, one, two, pixel, part, changes, shown, Said}
use Rattle.tape_machine.specs.Text.{decimal_of, field_of, hexes_of}

-- "operation (`-` if unread)": its number, and a blank behind it
unfoldable pub name_of : Option ℕ → List ℕ
name_of None = 45 ∷ 32 ∷ []
name_of (Some n) = field_of n

-- by the answer's number: a refused show has eight pixels too, all 0, as an accepted one may have (K3), and its line has 0;
-- a write's line has 0, though its answer has four numbers (K6: "The tape's lines don't change"); no record's call hands back two numbers, a pixel by itself or a part
unfoldable pub value_text : ℕ → Value → List ℕ
value_text n (one x) = decimal_of x
value_text n (two x y) = decimal_of x
value_text n (pixel x) = decimal_of x
value_text n (part l) = decimal_of 0
value_text n (changes a b c d) = decimal_of 0
value_text n (shown d l) = pick (eqb n 0) (hexes_of (take 8 l)) (decimal_of 0)

-- blanks between, one newline at the end
unfoldable pub line_of : ℕ → Option ℕ → Said → List ℕ
line_of number operation a = field_of number ++ (name_of operation ++ (field_of a.number ++ (value_text a.number a.value ++ (10 ∷ []))))
