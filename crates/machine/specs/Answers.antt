-- What a call answers, in the document's numbers: 0 or a refusal, a value, and what is left.
use Rattle.std.specs.Prelude.{ℕ, zero, suc, Bool, List, [], ◌∷◌, Result, Ok, Err}
use Rattle.bits.specs.Bit.{bit_of}
use Rattle.machine_types.specs.declared.answer.Refusal.{Refusal}
use Rattle.machine_types.specs.declared.answer.Refusal.TheVariants.{Memory, Window, Offset, Plane, Place, State, Damaged, Range, Shift, Room}
use Rattle.machine_types.specs.declared.answer.Changed.{Changed}
use Rattle.machine_types.specs.declared.answer.Part.{Part}
use Rattle.machine_types.specs.declared.place.PlaneOffset.{PlaneOffset}
use Rattle.machine_types.specs.declared.gc.MemoryMap.{MemoryMap}
use Rattle.machine_types.specs.declared.gc.MemoryMap.TheVariants.{A0000_128k, A0000_64K, B0000_32K, B8000_32K}
use Rattle.machine_types.specs.declared.gc.OddEvenModeComplement.{OddEvenModeComplement}
use Rattle.machine_types.specs.declared.gc.OddEvenModeComplement.TheVariants.{Sequential, OddEven}
use Rattle.machine_types.specs.declared.gc.ShiftMode.{ShiftMode}
use Rattle.machine_types.specs.declared.gc.ShiftMode.TheVariants.{Standard, CGACompatible, Chain4, Unused}

-- ---- numbers and values

-- the table of refusals
abbrev pub refusal_number : Refusal → ℕ
refusal_number Memory = 1
refusal_number Window = 2
refusal_number Offset = 3
refusal_number Plane = 4
refusal_number Place = 5
refusal_number State = 6
refusal_number Damaged = 7
refusal_number Range = 8
refusal_number Shift = 9
refusal_number Room = 10

-- what an answer carries, by kind
pub data Value : Type 0 where
  -- a byte, a clock, a mark, an enum's place in its order; 0 where a call hands nothing back
  one : ℕ → Value
  -- `map_address`: the offset and a0
  two : ℕ → ℕ → Value
  -- a pixel's byte
  pixel : ℕ → Value
  -- an older show: a part of the picture
  part : List ℕ → Value
  -- K6, a store: how many bits of each plane's byte changed, plane 0 first
  changes : ℕ → ℕ → ℕ → ℕ → Value
  -- K3, a show: the shift mode that it was made in, and its eight pixels
  shown : ShiftMode → List ℕ → Value

-- eight pixels, all 0
abbrev pub no_pixels : List ℕ
no_pixels = 0 ∷ 0 ∷ 0 ∷ 0 ∷ 0 ∷ 0 ∷ 0 ∷ 0 ∷ []

-- the four numbers of a store, by plane
abbrev pub changes_of : (ℕ → ℕ) → Value
changes_of f = changes (f 0) (f 1) (f 2) (f 3)

-- a refusal carries value 0 (`map_address`: both numbers 0; an older show: an empty part; a store: four times 0; a show: eight times 0)
abbrev pub blank : Value → Value
blank (one x) = one 0
blank (two x y) = two 0 0
blank (pixel x) = pixel 0
blank (part l) = part []
blank (changes a b c d) = changes 0 0 0 0
blank (shown d l) = shown d no_pixels

-- the pixels that a show hands back; no other value has any
abbrev pub pixels_of : Value → List ℕ
pixels_of (one x) = []
pixels_of (two x y) = []
pixels_of (pixel x) = []
pixels_of (part l) = l
pixels_of (changes a b c d) = []
pixels_of (shown d l) = l

-- an answer: 0 or a refusal's number, and its value
pub record Said : Type 0 where
  pub number : ℕ
  pub value : Value

-- the answer of a number and a value
abbrev pub said : ℕ → Value → Said
said n v = record { number = n; value = v }

-- what a call answers, and what it leaves of what it was handed and may move
pub record Outcome (S : Type 0) : Type 0 where
  pub answer : Said
  pub next : S

-- the outcome of an answer and what is left
abbrev pub outcome : {S : Type 0} → Said → S → Outcome S
outcome a s = record { answer = a; next = s }

-- number 0 has its value and what follows; a refusal leaves state and memory as handed in (of the processor's calls with one count: `cpu_refused`)
abbrev pub answered : {S : Type 0} → ℕ → Value → S → S → Outcome S
answered zero v new old = outcome (said 0 v) new
answered (suc n) v new old = outcome (said (suc n) (blank v)) old

-- ---- the code's answers in those numbers

-- the enums that are handed out, by their place in their order
abbrev pub map_number : MemoryMap → ℕ
map_number A0000_128k = 0
map_number A0000_64K = 1
map_number B0000_32K = 2
map_number B8000_32K = 3

-- `odd_even`: the place in `OddEvenModeComplement`
abbrev pub odd_even_number : OddEvenModeComplement → ℕ
odd_even_number Sequential = 0
odd_even_number OddEven = 1

-- `shift_mode`: the place in `ShiftMode`
abbrev pub shift_number : ShiftMode → ℕ
shift_number Standard = 0
shift_number CGACompatible = 1
shift_number Chain4 = 2
shift_number Unused = 3

-- an answer by the value of what it hands back; a refusal has its number, and the blank of the call's kind
abbrev pub said_by : {T : Type 0} → (T → Value) → Value → Result T Refusal → Said
said_by value nothing (Ok x) = said 0 (value x)
said_by value nothing (Err r) = said (refusal_number r) nothing

-- a byte that was read; 0 where refused
abbrev pub byte_said : Result ℕ Refusal → Said
byte_said = said_by one (one 0)

-- `read_linear` hands out a pixel
abbrev pub pixel_said : Result ℕ Refusal → Said
pixel_said = said_by pixel (pixel 0)

-- the code's four numbers
abbrev pub changed_value : Changed → Value
changed_value x = changes x.p0 x.p1 x.p2 x.p3

-- a store: its four numbers; all 0 where refused
abbrev pub store_said : Result Changed Refusal → Said
store_said = said_by changed_value (changes 0 0 0 0)

-- a register write and `deplane` hand nothing back
abbrev pub done_said : Result Unit Refusal → Said
done_said = said_by (λ x. one 0) (one 0)

-- a mark or a field that is set or clear: 1 or 0
abbrev pub flag_said : Result Bool Refusal → Said
flag_said = said_by (λ b. one (bit_of b)) (one 0)

-- `clock`: the character clock as a number
abbrev pub clock_said : Result ℕ Refusal → Said
clock_said = said_by one (one 0)

-- `memory_map`: the map's place in its order
abbrev pub map_said : Result MemoryMap Refusal → Said
map_said = said_by (λ m. one (map_number m)) (one 0)

-- `odd_even`: the mode's place in its order
abbrev pub odd_even_said : Result OddEvenModeComplement Refusal → Said
odd_even_said = said_by (λ m. one (odd_even_number m)) (one 0)

-- `shift_mode`: the mode's place in its order
abbrev pub shift_said : Result ShiftMode Refusal → Said
shift_said = said_by (λ m. one (shift_number m)) (one 0)

-- `map_address`: offset and a0; both numbers 0 where refused
abbrev pub mapped_said : Result (PlaneOffset × Bool) Refusal → Said
mapped_said = said_by (λ m. two m.0.0 (bit_of m.1)) (two 0 0)

-- an older show's number and the part handed back
abbrev pub part_said : ℕ → List ℕ → Said
part_said n l = said n (part l)

-- .. of the code's answer and its part
abbrev pub older_said : Part → Said
older_said p = part_said (done_said p.answer).number p.pixels.now

-- a show of a shift mode: its eight pixels; all 0 where refused
abbrev pub shown_said : ShiftMode → Result (List ℕ) Refusal → Said
shown_said d = said_by (shown d) (shown d no_pixels)
