-- Texts written one after the other, and the digits of a number.
use Prim.Native.Nat.{ℕ, zero, suc, ◌+◌, ◌/◌, ◌%◌, ◌^◌, ◌≤◌, ◌<◌}
use native.Mathlib.Nat.{add-zero, add-suc, suc-add, add_assoc, div-lt_iff_lt-mul, pow-suc}
use native.Mathlib.Omega.{arith}
use mathlib.Core.Path.{◌≡◌, ap, sym, ◌∙◌}
use mathlib.Core.List.{List, [], ◌∷◌, ◌++◌}
use lib.Dec.{ltb, lit<}
use lib.ListN.{length, get_or, take, length-append, length-map, length-take}
use lib.Seq.{sets, length-sets}
use borrow.Author.Tests.{lt-ltb, le-ltb, ne_eqb}
use Rattle.std.specs.Prelude.{Result, Ok, Err}
use Rattle.std.specs.Result.{result_unwrap_or}
use Rattle.bits.specs.Bit.{pick}
use Rattle.bits.proofs.Decide.{agree1}
use Rattle.tape_machine.specs.Text.{digits_of, decimal_of, hex_digits, hex_of, hexes_of}
use Rattle.machine_types.specs.declared.answer.Refusal.{Refusal}
use Rattle.machine_types.specs.declared.answer.Changed.{Changed}
use Rattle.machine_types.specs.declared.gc.ShiftMode.{ShiftMode}
use Rattle.machine.specs.Answers.{Said, refusal_number, byte_said}
use Rattle.answers.specs.declared.narrow.Answer.{Answer}
use Rattle.answers.specs.Answers.{answer_said}
use Rattle.machine.proofs.Laws.{refusal-some}
use Rattle.tape_machine.specs.declared.told.Told.{Told}
use Rattle.tape_machine.specs.declared.told.Told.TheVariants.{Byte, Pixels, Changes}
use Rattle.tape_machine.specs.Told.{told_said}
use Rattle.tape_machine.specs.Lines.{value_text}
use Rattle.tape_reader.specs.declared.text.Text.{Text}
use Rattle.tape_reader.specs.Writes.{HasRoom, Writes}

-- ---- one text after another

pub sets-append : (l : List ℕ) (i : ℕ) (a b : List ℕ) → sets l i (a ++ b) ≡ sets (sets l i a) (i + length a) b
sets-append l i [] b = rw (add-zero i)
sets-append l i (x ∷ a) b = rw (add-suc i (length a), ← suc-add i (length a)) (sets-append _ (suc i) a b)

pub writes_then : {a b : List ℕ} {x y z : Text} → Writes a x y → Writes b y z → Writes (a ++ b) x z
writes_then {a} {b} {x} f g = record {
  same = f.same ∙ g.same;
  put = record {
    wrote = g.put.wrote ∙ rw (f.put.wrote, f.put.ends) (sym (sets-append x.out.now x.at a b));
    ends = g.put.ends ∙ rw (f.put.ends, length-append a b) (add_assoc x.at (length a) (length b));
  };
}

-- room for the first of two, and for what comes after
pub first_room : {a : List ℕ} (b : List ℕ) {x : Text} → HasRoom (a ++ b) x → HasRoom a x
first_room {a} b h = record { room = omega (arith, h.room, length-append a b) }

pub more_room : (a : List ℕ) {b : List ℕ} {x y : Text} → HasRoom (a ++ b) x → Writes a x y → HasRoom b y
more_room a {b} {x} h f = record { room = rw (f.put.wrote, f.put.ends, length-sets x.out.now x.at a) (omega (arith, h.room, length-append a b)) }

pub writes_length : {a : List ℕ} {x y : Text} → Writes a x y → length y.out.now ≡ length x.out.now
writes_length {a} {x} f = rw f.put.wrote (length-sets x.out.now x.at a)

-- ---- decimal

-- one digit more than there are changes nothing
enough : (k n : ℕ) → n < 10 ^ suc k → digits_of (suc (suc k)) n ≡ digits_of (suc k) n
unfolding digits_of
enough zero n h = let k : n < 10 = h in rw (lt-ltb n 10 k)
enough (suc k) n h =
    let d : n / 10 < 10 ^ suc k = (div-lt_iff_lt-mul (lit< tt)).1 (rw pow-suc at h) in
    ap (λ (l : List ℕ). pick (ltb n 10) [] l ++ ((48 + n % 10) ∷ [])) (enough k (n / 10) d)

-- the equations of decimal digits: of one, and of more
pub decimal_small : (n : ℕ) → n < 10 → decimal_of n ≡ (48 + n % 10) ∷ []
unfolding decimal_of digits_of
decimal_small n h = rw (lt-ltb n 10 h)

pub decimal_one : (n : ℕ) → n < 10 → decimal_of n ≡ (48 + n) ∷ []
decimal_one n h =
    let e : n % 10 ≡ n = omega (arith, h) in
    decimal_small n h ∙ ap (λ (d : ℕ). (48 + d) ∷ []) e

pub decimal_more : (n : ℕ) → 10 ≤ n → n < 2 ^ 64 → decimal_of n ≡ decimal_of (n / 10) ++ ((48 + n % 10) ∷ [])
unfolding decimal_of digits_of
decimal_more n h f =
    let d : n / 10 < 10 ^ 19 = omega arith in
    rw (le-ltb n 10 h) (ap (λ (l : List ℕ). l ++ ((48 + n % 10) ∷ [])) (sym (enough 18 (n / 10) d)))

-- ---- a pixel's digit

pub digit_so : (m : ℕ) → m < 16 → get_or hex_digits m 0 ≡ get_or hex_digits m 48
digit_so = agree1 16 (λ m. get_or hex_digits m 0) (λ m. get_or hex_digits m 48) tt

-- room for each of eight digits
pub next_room : (l : List ℕ) (i d : ℕ) {x y : Text} → length l ≡ 8 → i < 8 → HasRoom (hexes_of (take 8 l)) x → Writes (hexes_of (take i l)) x y → HasRoom (d ∷ []) y
next_room l i d {x} e h room f = record {
  room = rw (f.put.wrote, f.put.ends, length-sets x.out.now x.at (hexes_of (take i l)))
      (omega (arith, room.room, length-map (take 8 l) hex_of, length-map (take i l) hex_of, length-take 8 l, length-take i l));
}

-- ---- what a record's answer tells

abbrev pub told_text : Told → List ℕ
told_text t = value_text (told_said t).number (told_said t).value

pub byte_text : {t : Told} {r : Result ℕ Refusal} → t ≡ Byte r → told_text t ≡ decimal_of (result_unwrap_or r 0)
unfolding value_text
byte_text {r = Ok x} e = rw e
byte_text {r = Err f} e = rw e

-- the same, by the numbers that a byte is told in
pub answer_text : {t : Told} {r : Result ℕ Refusal} {a : Answer} → t ≡ Byte r → answer_said a ≡ byte_said r → told_text t ≡ decimal_of a.value
unfolding value_text
answer_text {r = Ok x} e f = byte_text e ∙ ap (λ (s : Said). value_text s.number s.value) (sym f)
answer_text {r = Err g} e f = byte_text e ∙ ap (λ (s : Said). value_text s.number s.value) (sym f)

pub pixels_text : {t : Told} {d : ShiftMode} {r : Result (List ℕ) Refusal} {l : List ℕ} → t ≡ Pixels d r → r ≡ Ok l → told_text t ≡ hexes_of (take 8 l)
unfolding value_text
pixels_text e f = rw (e, f)

pub refused_text : {t : Told} {d : ShiftMode} {r : Result (List ℕ) Refusal} {f : Refusal} → t ≡ Pixels d r → r ≡ Err f → told_text t ≡ decimal_of 0
unfolding value_text
refused_text {f = f} e g = rw (e, g, ne_eqb (refusal_number f) 0 (λ q. omega (arith, refusal-some f)))

pub changes_text : {t : Told} {r : Result Changed Refusal} → t ≡ Changes r → told_text t ≡ decimal_of 0
unfolding value_text
changes_text {r = Ok x} e = rw e
changes_text {r = Err f} e = rw e
