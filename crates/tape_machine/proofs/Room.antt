-- A line has at most 84 bytes, and a tape no more records than bytes: what tape_reader's `run` judges is enough for its `play`.
use Prim.Native.Nat.{ℕ, zero, suc, ◌+◌, ◌-◌, ◌*◌, ◌/◌, ◌%◌, ◌≤◌}
use native.Mathlib.Omega.{arith}
use mathlib.Core.Bool.{Bool, true, false}
use mathlib.Core.List.{List, [], ◌∷◌, ◌++◌}
use lib.Dec.{eqb, ltb}
use lib.ListN.{length, take, length-append, length-map, length-take}
use Rattle.bits.specs.Bit.{pick}
use Rattle.machine.specs.Answers.{Value, one, two, pixel, part, changes, shown, Said}
use Rattle.machine.specs.Step.{State}
use Rattle.std.specs.Prelude.{Option, Some, None, Ok, Err}
use Rattle.tape_records.specs.Records.{Record, record_of}
use Rattle.tape_machine.specs.Text.{digits_of, decimal_of, field_of, hex_of, hexes_of}
use Rattle.tape_machine.specs.Lines.{name_of, value_text, line_of}
use Rattle.tape_machine.specs.Run.{longest, up_to_stop, records_after, records_of, record_line, left, lines_of}

picked : (t : Bool) (l : List ℕ) (k : ℕ) → length l ≤ k → length (pick t [] l) ≤ k
picked true l k h = omega arith
picked false l k h = h

digits-length : (k n : ℕ) → length (digits_of k n) ≤ k
unfolding digits_of
digits-length zero n = omega arith
digits-length (suc k) n =
    omega (arith, picked (ltb n 10) (digits_of k (n / 10)) k (digits-length k (n / 10)), length-append (pick (ltb n 10) [] (digits_of k (n / 10))) ((48 + n % 10) ∷ []))

decimal-length : (n : ℕ) → length (decimal_of n) ≤ 20
unfolding decimal_of
decimal-length n = digits-length 20 n

field-length : (n : ℕ) → length (field_of n) ≤ 21
unfolding field_of
field-length n = omega (arith, decimal-length n, length-append (decimal_of n) (32 ∷ []))

name-length : (o : Option ℕ) → length (name_of o) ≤ 21
unfolding name_of
name-length None = omega arith
name-length (Some n) = field-length n

shown-length : (t : Bool) (l : List ℕ) → length (pick t (hexes_of (take 8 l)) (decimal_of 0)) ≤ 20
shown-length true l = omega (arith, length-map (take 8 l) hex_of, length-take 8 l)
shown-length false l = decimal-length 0

value-length : (n : ℕ) (v : Value) → length (value_text n v) ≤ 20
unfolding value_text
value-length n (one x) = decimal-length x
value-length n (two x y) = decimal-length x
value-length n (pixel x) = decimal-length x
value-length n (part l) = decimal-length 0
value-length n (changes a b c d) = decimal-length 0
value-length n (shown d l) = shown-length (eqb n 0) l

line-length : (k : ℕ) (o : Option ℕ) (a : Said) → length (line_of k o a) ≤ longest
unfolding line_of
line-length k o a =
    omega (
      arith,
      field-length k,
      name-length o,
      field-length a.number,
      value-length a.number a.value,
      length-append (field_of k) (name_of o ++ (field_of a.number ++ (value_text a.number a.value ++ (10 ∷ [])))),
      length-append (name_of o) (field_of a.number ++ (value_text a.number a.value ++ (10 ∷ []))),
      length-append (field_of a.number) (value_text a.number a.value ++ (10 ∷ [])),
      length-append (value_text a.number a.value) (10 ∷ []),
    )

record-line-length : (k : ℕ) (s : State) (r : Record) → length (record_line k s r) ≤ longest
unfolding record_line
record-line-length k s (Ok r) = line-length k _ _
record-line-length k s (Err r) = line-length k r.operation _

lines-length : (k : ℕ) (s : State) (rs : List Record) → length (lines_of k s rs) ≤ longest * length rs
unfolding lines_of
lines-length k s [] = omega arith
lines-length k s (r ∷ rs) =
    omega (arith, record-line-length k s r, lines-length (k + 1) (left s r) rs, length-append (record_line k s r) (lines_of (k + 1) (left s r) rs))

more-length : (r : Record) (rest : ℕ → List Record) (m : ℕ) → ((n : ℕ) → length (rest n) ≤ m) → length (up_to_stop r rest) ≤ suc m
unfolding up_to_stop
more-length (Ok r) rest m h = omega (arith, h (r.taken - 1))
more-length (Err r) rest m h = omega arith

records-length : (n : ℕ) (s : List ℕ) → length (records_after n s) ≤ length s
unfolding records_after
records-length n [] = omega arith
records-length zero (b ∷ s) = more-length (record_of (b ∷ s)) (λ n. records_after n s) (length s) (λ n. records-length n s)
records-length (suc n) (b ∷ s) = omega (arith, records-length n s)

pub few_records : (tape : List ℕ) → length (records_of tape) ≤ length tape
unfolding records_of
few_records tape = records-length 0 tape

pub enough-room : (s : State) (tape : List ℕ) (room : ℕ) → longest * length tape ≤ room → length (lines_of 1 s (records_of tape)) ≤ room
unfolding records_of
enough-room s tape room h = omega (arith, lines-length 1 s (records_of tape), records-length 0 tape)
