-- What a record is: "the operation and then its arguments are judged left to right, each for damage and then for range before the next is read".
use Rattle.std.specs.Prelude.{ℕ, ◌+◌, ◌-◌, List, [], ◌∷◌, eqb, leb, drop, get_or, Option, Some, None, Result, Ok, Err}
use Rattle.bits.specs.Bit.{is_one, pick}
use Rattle.tape_numbers.specs.declared.Number.{Number}
use Rattle.tape_numbers.specs.declared.NumberFault.{NumberFault}
use Rattle.tape_numbers.specs.declared.NumberFault.TheVariants.{Ended, Damaged}
use Rattle.tape_numbers.specs.Numbers.{limit32, Reading, number_of}
use Rattle.tape_records.specs.declared.records.Command.{Command}
use Rattle.tape_records.specs.declared.records.Command.TheVariants.{Reset, GcAddress, GcData, SeqAddress, SeqData, Read, Write, Peek, Show}
use Rattle.tape_records.specs.declared.records.Fault.{Fault}
use Rattle.tape_records.specs.declared.records.Fault.TheVariants.{Open, Damage, Range}
use Rattle.tape_records.specs.declared.records.Whole.{Whole}
use Rattle.tape_records.specs.declared.records.Broken.{Broken}

-- an argument that was read, or what is wrong with it
abbrev pub Argument : Type 0
Argument = Result Number Fault

-- .. in range, as its value and the bytes that it took
abbrev pub good : ℕ → ℕ → Argument
good v n = Ok (record { value = v; taken = n })

-- a record that asks for something, or what is wrong with it
abbrev pub Record : Type 0
Record = Result Whole Broken

-- .. whole, and the bytes that it took
abbrev pub whole : Command → ℕ → Record
whole x n = Ok (record { command = x; taken = n })

-- .. broken, and its operation, where that was read
abbrev pub broken : Option ℕ → Fault → Record
broken o f = Err (record { operation = o; fault = f })

-- what a fault of a number makes of its record
abbrev pub fault_of : NumberFault → Fault
fault_of Ended = Open
fault_of Damaged = Damage

-- the greatest values: out of range are a byte above 255 and a page above 1; an address or an offset is any number
abbrev pub greatest_byte : ℕ
greatest_byte = 255

-- .. of a page
abbrev pub greatest_page : ℕ
greatest_page = 1

-- .. of an address or an offset: "at most 2^32 - 1"
abbrev pub greatest_number : ℕ
greatest_number = limit32 - 1

-- the arguments of operations 0 to 8, by their greatest values
unfoldable pub arguments : List (List ℕ)
arguments =
    -- reset both
    []
    -- GC address, data; sequencer address, data
    ∷ (greatest_byte ∷ []) ∷ (greatest_byte ∷ []) ∷ (greatest_byte ∷ []) ∷ (greatest_byte ∷ [])
    -- read, write, peek
    ∷ (greatest_number ∷ greatest_page ∷ []) ∷ (greatest_number ∷ greatest_page ∷ greatest_byte ∷ []) ∷ (greatest_number ∷ greatest_page ∷ [])
    -- show
    ∷ (greatest_number ∷ []) ∷ []

-- the greatest value of an operation's argument at a place, 0 where it has none
unfoldable pub greatest_of : ℕ → ℕ → ℕ
greatest_of operation place = get_or (get_or arguments operation []) place 0

-- a number that was read, judged for damage and then for range
unfoldable pub judged : ℕ → Reading → Argument
judged most (Ok x) = pick (leb x.value most) (Ok x) (Err Range)
judged most (Err f) = Err (fault_of f)

-- an argument; where there is none nothing is read, and it counts as 0
unfoldable pub argument_of : ℕ → List ℕ → Argument
argument_of most s = pick (eqb most 0) (good 0 0) (judged most (number_of limit32 s))

-- what the operations ask for, in the order of their numbers
unfoldable pub command_of : ℕ → ℕ → ℕ → ℕ → Command
command_of operation a b c = get_or
    (Reset ∷ GcAddress a ∷ GcData a ∷ SeqAddress a ∷ SeqData a ∷ Read a (is_one b) ∷ Write a (is_one b) c ∷ Peek a (is_one b) ∷ Show (record { 0 = a }) ∷ [])
    operation Reset

-- a good argument goes on to the next, a bad one ends the record
unfoldable pub goes_on : ℕ → Argument → (ℕ → ℕ → Record) → Record
goes_on operation (Ok x) then = then x.value x.taken
goes_on operation (Err f) then = broken (Some operation) f

-- the rest of a record from a count of its bytes on: the third argument and the whole record
unfoldable pub third_of : List ℕ → ℕ → ℕ → ℕ → ℕ → Record
third_of s operation a b at = goes_on operation (argument_of (greatest_of operation 2) (drop at s)) λ c n. whole (command_of operation a b c) (at + n)

-- .. the second argument and what follows
unfoldable pub second_of : List ℕ → ℕ → ℕ → ℕ → Record
second_of s operation a at = goes_on operation (argument_of (greatest_of operation 1) (drop at s)) λ b n. third_of s operation a b (at + n)

-- .. the first argument and what follows; out of range is an operation above 8
unfoldable pub first_of : List ℕ → ℕ → ℕ → Record
first_of s operation at = pick (leb operation 8)
    (goes_on operation (argument_of (greatest_of operation 0) (drop at s)) λ a n. second_of s operation a (at + n))
    (broken (Some operation) Range)

-- a record whose operation's own number came to this
unfoldable pub started : List ℕ → Reading → Record
started s (Ok x) = first_of s x.value x.taken
started s (Err f) = broken None (fault_of f)

-- the record at the start of a list
unfoldable pub record_of : List ℕ → Record
record_of s = started s (number_of limit32 s)
