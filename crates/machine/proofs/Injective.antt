-- Each answer is told by its number and value: what is said of two answers is the same only where they are. By a way back for each kind of answer.
use Prim.Native.Nat.{ℕ}
use mathlib.Core.Path.{◌≡◌, refl, sym, ap, ◌∙◌}
use mathlib.Core.Bool.{Bool, true, false}
use mathlib.Core.List.{List, [], ◌∷◌}
use lib.Dec.{eqb}
use lib.ListN.{get_or}
use Rattle.bits.specs.Bit.{bit_of, is_one, pick}
use Rattle.machine_types.specs.declared.answer.Refusal.{Refusal}
use Rattle.machine_types.specs.declared.answer.Refusal.TheVariants.{Memory, Window, Offset, Plane, Place, State, Damaged, Range, Shift, Room}
use Rattle.machine_types.specs.declared.answer.Changed.{Changed}
use Rattle.machine_types.specs.declared.answer.Part.{Part}
use Rattle.machine_types.specs.declared.place.PlaneOffset.{PlaneOffset}
use Rattle.machine_types.specs.declared.gc.MemoryMap.{MemoryMap}
use Rattle.machine_types.specs.declared.gc.MemoryMap.TheVariants.{A0000_128k, A0000_64K, B0000_32K, B8000_32K}
use Rattle.machine_types.specs.declared.gc.OddEvenModeComplement.{OddEvenModeComplement}
use Rattle.machine_types.specs.declared.gc.OddEvenModeComplement.TheVariants.{Sequential, OddEven}
use Rattle.machine_types.specs.declared.gc.ShiftMode.{ShiftMode}
use Rattle.machine_types.specs.declared.gc.ShiftMode.TheVariants.{Standard, CGACompatible, Chain4, Unused}
use Rattle.std.specs.Prelude.{Result, Ok, Err}
use Rattle.machine.specs.Answers.{Value, one, two, pixel, part, changes, shown, pixels_of, no_pixels, Said, said, Outcome, outcome, said_by}
use Rattle.machine.specs.Answers.{changed_value, byte_said, pixel_said, store_said, done_said, flag_said, clock_said, map_number, map_said, odd_even_number, odd_even_said}
use Rattle.machine.specs.Answers.{shift_number, shift_said, mapped_said, older_said, shown_said}

-- two outcomes that are the machine's are one: the same is said, and the same is left
module _ {S : Type 0} {a b : Said} {s t : S} {o : Outcome S} (p : outcome a s ≡ o) (q : outcome b t ≡ o) where
  pub answer-of : a ≡ b
  answer-of = ap (λ (o : Outcome S). o.answer) (p ∙ sym q)

  pub next_of : s ≡ t
  next_of = ap (λ (o : Outcome S). o.next) (p ∙ sym q)

  -- of two shows: their pixels
  pub pixels-of : pixels_of a.value ≡ pixels_of b.value
  pixels-of = ap (λ (s : Said). pixels_of s.value) answer-of

-- what has a way back tells its arguments apart
injective : {A B : Type 0} (f : A → B) (back : B → A) → ((a : A) → back (f a) ≡ a) → (a b : A) → f a ≡ f b → a ≡ b
injective f back e a b h = sym (e a) ∙ ap back h ∙ e b

-- ---- ways back

-- a value's numbers
first : Value → ℕ
first (one x) = x
first (two x y) = x
first (pixel x) = x
first (part l) = 0
first (changes a b c d) = a
first (shown d l) = 0

second : Value → ℕ
second (one x) = 0
second (two x y) = y
second (pixel x) = 0
second (part l) = 0
second (changes a b c d) = b
second (shown d l) = 0

-- the four numbers of a store
changed_back : Value → Changed
changed_back (one x) = record { p0 = x; p1 = 0; p2 = 0; p3 = 0 }
changed_back (two x y) = record { p0 = x; p1 = y; p2 = 0; p3 = 0 }
changed_back (pixel x) = record { p0 = x; p1 = 0; p2 = 0; p3 = 0 }
changed_back (part l) = record { p0 = 0; p1 = 0; p2 = 0; p3 = 0 }
changed_back (changes a b c d) = record { p0 = a; p1 = b; p2 = c; p3 = d }
changed_back (shown d l) = record { p0 = 0; p1 = 0; p2 = 0; p3 = 0 }

-- refusal 1, 2, ..
refusal_of : ℕ → Refusal
refusal_of n = get_or (Memory ∷ Memory ∷ Window ∷ Offset ∷ Plane ∷ Place ∷ State ∷ Damaged ∷ Range ∷ Shift ∷ Room ∷ []) n Memory

-- 0 leads back to what was handed back, any other number to its refusal
answer_of : {T : Type 0} → (Value → T) → Said → Result T Refusal
answer_of back a = pick (eqb a.number 0) (Ok (back a.value)) (Err (refusal_of a.number))

module _ {T : Type 0} (value : T → Value) (nothing : Value) (back : Value → T) (there : (x : T) → back (value x) ≡ x) where
  way : (a : Result T Refusal) → answer_of back (said_by value nothing a) ≡ a
  unfolding answer_of refusal_of
  way (Ok x) = ap Ok (there x)
  way (Err Memory) = refl
  way (Err Window) = refl
  way (Err Offset) = refl
  way (Err Plane) = refl
  way (Err Place) = refl
  way (Err State) = refl
  way (Err Damaged) = refl
  way (Err Range) = refl
  way (Err Shift) = refl
  way (Err Room) = refl

  -- what can be read back out of its value is told apart
  told-apart : (a b : Result T Refusal) → said_by value nothing a ≡ said_by value nothing b → a ≡ b
  told-apart = injective (said_by value nothing) (answer_of back) way

-- ---- the answers

number_back : (x : ℕ) → first (one x) ≡ x
unfolding first
number_back x = refl

pub byte-injective : (a b : Result ℕ Refusal) → byte_said a ≡ byte_said b → a ≡ b
byte-injective = told-apart one (one 0) first number_back

pub pixel-injective : (a b : Result ℕ Refusal) → pixel_said a ≡ pixel_said b → a ≡ b
pixel-injective = told-apart pixel (pixel 0) first λ x. unfold first in refl

pub store-injective : (a b : Result Changed Refusal) → store_said a ≡ store_said b → a ≡ b
store-injective = told-apart changed_value (changes 0 0 0 0) changed_back λ x. unfold changed_back in refl

pub done-injective : (a b : Result Unit Refusal) → done_said a ≡ done_said b → a ≡ b
done-injective = told-apart (λ x. one 0) (one 0) (λ v. tt) λ x. refl

-- its number tells the answer of a call that hands nothing back
done-said : (a : Result Unit Refusal) → done_said a ≡ said (done_said a).number (one 0)
done-said (Ok x) = refl
done-said (Err r) = refl

pub done-by-number : (a b : Result Unit Refusal) → (done_said a).number ≡ (done_said b).number → a ≡ b
done-by-number a b e = done-injective a b (done-said a ∙ ap (λ (n : ℕ). said n (one 0)) e ∙ sym (done-said b))

-- two shows in one shift mode
pub shown-injective : (d : ShiftMode) (a b : Result (List ℕ) Refusal) → shown_said d a ≡ shown_said d b → a ≡ b
shown-injective d = told-apart (shown d) (shown d no_pixels) pixels_of λ l. refl

-- two older shows: their answers, and the pixels of their parts
pub older-injective : (a b : Part) → older_said a ≡ older_said b → (a.answer ≡ b.answer) × (a.pixels.now ≡ b.pixels.now)
older-injective a b e = (done-by-number a.answer b.answer (ap (λ (s : Said). s.number) e), ap (λ (s : Said). pixels_of s.value) e)

flag_back : (b : Bool) → is_one (first (one (bit_of b))) ≡ b
unfolding first
flag_back true = refl
flag_back false = refl

pub flag-injective : (a b : Result Bool Refusal) → flag_said a ≡ flag_said b → a ≡ b
flag-injective = told-apart (λ b. one (bit_of b)) (one 0) (λ v. is_one (first v)) flag_back

pub clock-injective : (a b : Result ℕ Refusal) → clock_said a ≡ clock_said b → a ≡ b
clock-injective = told-apart one (one 0) first number_back

map_of : ℕ → MemoryMap
map_of n = get_or (A0000_128k ∷ A0000_64K ∷ B0000_32K ∷ B8000_32K ∷ []) n A0000_128k

map_back : (m : MemoryMap) → map_of (first (one (map_number m))) ≡ m
unfolding first map_of
map_back A0000_128k = refl
map_back A0000_64K = refl
map_back B0000_32K = refl
map_back B8000_32K = refl

pub map_injective : (a b : Result MemoryMap Refusal) → map_said a ≡ map_said b → a ≡ b
map_injective = told-apart (λ m. one (map_number m)) (one 0) (λ v. map_of (first v)) map_back

odd_even_of : ℕ → OddEvenModeComplement
odd_even_of n = get_or (Sequential ∷ OddEven ∷ []) n Sequential

odd_even_back : (m : OddEvenModeComplement) → odd_even_of (first (one (odd_even_number m))) ≡ m
unfolding first odd_even_of
odd_even_back Sequential = refl
odd_even_back OddEven = refl

pub odd-even-injective : (a b : Result OddEvenModeComplement Refusal) → odd_even_said a ≡ odd_even_said b → a ≡ b
odd-even-injective = told-apart (λ m. one (odd_even_number m)) (one 0) (λ v. odd_even_of (first v)) odd_even_back

shift_of : ℕ → ShiftMode
shift_of n = get_or (Standard ∷ CGACompatible ∷ Chain4 ∷ Unused ∷ []) n Standard

shift_back : (m : ShiftMode) → shift_of (first (one (shift_number m))) ≡ m
unfolding first shift_of
shift_back Standard = refl
shift_back CGACompatible = refl
shift_back Chain4 = refl
shift_back Unused = refl

pub shift-injective : (a b : Result ShiftMode Refusal) → shift_said a ≡ shift_said b → a ≡ b
shift-injective = told-apart (λ m. one (shift_number m)) (one 0) (λ v. shift_of (first v)) shift_back

mapped_of : Value → PlaneOffset × Bool
mapped_of v = (record { 0 = first v }, is_one (second v))

mapped_back : (m : PlaneOffset × Bool) → mapped_of (two m.0.0 (bit_of m.1)) ≡ m
unfolding first second mapped_of
mapped_back (o, true) = refl
mapped_back (o, false) = refl

pub mapped-injective : (a b : Result (PlaneOffset × Bool) Refusal) → mapped_said a ≡ mapped_said b → a ≡ b
mapped-injective = told-apart (λ m. two m.0.0 (bit_of m.1)) (two 0 0) mapped_of mapped_back
