-- What a call may ask of latches and memory, and what they make of it: the only definitions that see a latch, a plane's byte or a pixel.
use Rattle.std.specs.Prelude.{ℕ, ◌+◌, ◌*◌, ◌-◌, ◌/◌, ◌%◌, Bool, true, ◌||◌, List, [], ◌∷◌, eqb, get_or, set, take, drop}
use Rattle.std.proofs.lemmas.List.Edits.{sets}
use Rattle.bits.specs.Bit.{bit, field, of_bits, sum_of, byte_of, is_one, bit_of, pick, every}
use Rattle.machine_types.specs.declared.gc.ShiftMode.{ShiftMode}
use Rattle.machine_types.specs.declared.gc.ShiftMode.TheVariants.{Standard, CGACompatible, Chain4, Unused}
use Rattle.machine.specs.Memory.{Memory, mem, plane, planes}
use Rattle.machine.specs.Answers.{Value, one, pixel, part, changes_of, shown, Outcome, answered}

-- what a call may do to latches and memory
pub data Deed : Type 0 where
  -- nothing moves
  rest : Deed
  -- the latches take the planes' bytes at an offset
  load : ℕ → Deed
  -- at an offset, each plane that the test names takes a new byte, told bit by bit: by plane, bit number, latch bit and old bit
  store : ℕ → (ℕ → Bool) → (ℕ → ℕ → ℕ → ℕ → ℕ) → Deed
  -- an offset's eight pixels are remade
  remake : ℕ → Deed

-- what a call may answer from
pub data Reply : Type 0 where
  -- a value known without the memory
  known : Value → Reply
  -- a plane's byte at an offset
  byte_at : ℕ → ℕ → Reply
  -- the latches compared: Color Don't Care, Color Compare
  compare : ℕ → ℕ → Reply
  -- the pixel at a place
  pixel_at : ℕ → Reply
  -- the eight pixels from a place on
  pixels_at : ℕ → Reply
  -- K6: how many bits of each plane's byte at an offset the deed changed
  changes_at : ℕ → Reply
  -- K3: the eight pixels of an offset by a shift mode
  shown_at : ShiftMode → ℕ → Reply

-- a call's plan: 0 or its refusal, its deed, its reply. No plan is made from a latch, a plane's byte or a pixel
pub record Plan : Type 0 where
  pub number : ℕ
  pub deed : Deed
  pub reply : Reply

-- the plan of a number, a deed and a reply
abbrev pub plan : ℕ → Deed → Reply → Plan
plan n d r = record { number = n; deed = d; reply = r }

-- ---- bytes, latches and pixels

-- a plane's byte at an offset
abbrev pub byte : Memory → ℕ → ℕ → ℕ
byte m p o = get_or (plane m p) o 0

-- latch p of the four
abbrev pub latch : List ℕ → ℕ → ℕ
latch l p = get_or l p 0

-- an accepted read loads all four latches at the offset
unfoldable pub loaded : Memory → ℕ → List ℕ
loaded m o = byte m 0 o ∷ byte m 1 o ∷ byte m 2 o ∷ byte m 3 o ∷ []

-- pixel i has plane p's bit 7 - i as bit p, and its bits 4 to 7 are 0
unfoldable pub pixel_of : Memory → ℕ → ℕ → ℕ
pixel_of m o i = of_bits 4 (λ p. bit (7 - i) (byte m p o))

-- eight pixels, i from 0 to 7
abbrev pub eight : (ℕ → ℕ) → List ℕ
eight f = f 0 ∷ f 1 ∷ f 2 ∷ f 3 ∷ f 4 ∷ f 5 ∷ f 6 ∷ f 7 ∷ []

-- an offset's eight pixels stand from place 8 times the offset on; no other pixel moves
unfoldable pub remade : ℕ → Memory → Memory
remade o m = mem m.p0 m.p1 m.p2 m.p3 (sets m.picture (8 * o) (eight (pixel_of m o)))

-- the byte that a store puts into plane p at an offset
unfoldable pub stored_byte : ℕ → (ℕ → ℕ → ℕ → ℕ → ℕ) → List ℕ → Memory → ℕ → ℕ
stored_byte o f l m p = byte_of (λ i. f p i (bit i (latch l p)) (bit i (byte m p o)))

-- the bytes of a store, the picture as it was
unfoldable pub laid : ℕ → (ℕ → Bool) → (ℕ → ℕ) → Memory → Memory
laid o w b m = planes (λ p. pick (w p) (set (plane m p) o (b p)) (plane m p)) m.picture

-- whether a test names any of the four planes
abbrev pub any : (ℕ → Bool) → Bool
any w = w 0 || (w 1 || (w 2 || w 3))

-- each store remakes its offset's eight pixels: once, after all its planes, and not at all where it stores none
unfoldable pub stored : ℕ → (ℕ → Bool) → (ℕ → ℕ) → Memory → Memory
stored o w b m = pick (any w) (remade o (laid o w b m)) m

-- whether plane p lets bit i pass: its Don't Care bit is 0, or latch bit i equals its Color Compare bit
unfoldable pub agrees : ℕ → ℕ → List ℕ → ℕ → ℕ → Bool
agrees care colour l i p = pick (is_one (bit p care)) (eqb (bit i (latch l p)) (bit p colour)) true

-- bit i is 1 exactly when, for each plane whose Don't Care bit is 1, latch bit i equals its Color Compare bit
unfoldable pub compared : ℕ → ℕ → List ℕ → ℕ
compared care colour l = byte_of (λ i. bit_of (every 4 (agrees care colour l i)))

-- ---- K6: how much changed

-- whether bit i of two bytes differs: 1 where it does
abbrev pub changed_bit : ℕ → ℕ → ℕ → ℕ
changed_bit old new i = pick (eqb (bit i old) (bit i new)) 0 1

-- "how many of its eight bits changed, counted from the old and new byte"
unfoldable pub changed_bits : ℕ → ℕ → ℕ
changed_bits old new = sum_of 8 (changed_bit old new)

-- a plane's number: of its byte at an offset, before and after. 0 where the byte stays, as of a plane that the mask stopped or that was not visited
unfoldable pub changed_at : Memory → Memory → ℕ → ℕ → ℕ
changed_at was m o p = changed_bits (byte was p o) (byte m p o)

-- ---- K3: the eight pixels of a show, by the shift mode

-- `Chain4`, pixel j: of the byte of plane j / 2, the high four bits where j is even, the low four where it is odd
unfoldable pub nibble : ℕ → ℕ → ℕ
nibble j x = field (4 - 4 * (j % 2)) 4 x

-- `CGACompatible`, pixel j: two bits of a byte, leftmost first; four pixels a byte
unfoldable pub pair : ℕ → ℕ → ℕ
pair j x = field (6 - 2 * (j % 4)) 2 x

-- "pixels 2i and 2i + 1 are the high and low four bits of plane i at the offset"
unfoldable pub chain4_pixel : Memory → ℕ → ℕ → ℕ
chain4_pixel m o j = nibble j (byte m (j / 2) o)

-- "four two-bit pixels, leftmost first, from plane 0 at the offset, then four from plane 1 at the next offset"
unfoldable pub cga_pixel : Memory → ℕ → ℕ → ℕ
cga_pixel m o j = pair j (byte m (j / 4) (o + j / 4))

-- "the standard ones from the picture", as it stands; the other two from planes, at the offset as it stands
unfoldable pub shown_in : ShiftMode → Memory → ℕ → List ℕ
shown_in Standard m o = take 8 (drop (8 * o) m.picture)
shown_in CGACompatible m o = eight (cga_pixel m o)
shown_in Chain4 m o = eight (chain4_pixel m o)
shown_in Unused m o = take 8 (drop (8 * o) m.picture)

-- ---- a deed done, a reply given

-- an accepted read loads the latches; nothing else moves them
unfoldable pub latches_after : Deed → List ℕ → Memory → List ℕ
latches_after rest l m = l
latches_after (load o) l m = loaded m o
latches_after (store o w f) l m = l
latches_after (remake o) l m = l

-- a store and a remaking move memory; nothing else does
unfoldable pub memory_after : Deed → List ℕ → Memory → Memory
memory_after rest l m = m
memory_after (load o) l m = m
memory_after (store o w f) l m = stored o w (stored_byte o f l m) m
memory_after (remake o) l m = remade o m

-- from the memory before the deed, and from latches and memory after it. An older show hands back the caller's own eight pixels
unfoldable pub value_of : Reply → Memory → List ℕ → Memory → Value
value_of (known v) was l m = v
value_of (byte_at p o) was l m = one (byte m p o)
value_of (compare care colour) was l m = one (compared care colour l)
value_of (pixel_at j) was l m = pixel (get_or m.picture j 0)
value_of (pixels_at j) was l m = part (take 8 (drop j m.picture))
value_of (changes_at o) was l m = changes_of (changed_at was m o)
value_of (shown_at d o) was l m = shown d (shown_in d m o)

-- a plan carried out on memory alone, with no latches at hand
unfoldable pub perform : Plan → Memory → Outcome Memory
perform a m = answered a.number (value_of a.reply m [] (memory_after a.deed [] m)) (memory_after a.deed [] m) m
