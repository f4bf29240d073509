-- What is said tells the answer: two answers in numbers that say the same are one.
use Prim.Native.Nat.{ℕ}
use mathlib.Core.Path.{◌≡◌, ap, ap₂, ◌∙◌}
use Rattle.machine.specs.Answers.{Value, one, two, pixel, part, changes, shown, Said}
use Rattle.answers.specs.declared.narrow.Answer.{Answer}
use Rattle.answers.specs.declared.wide.Clock.{Clock}
use Rattle.answers.specs.declared.wide.Mapped.{Mapped}
use Rattle.answers.specs.Answers.{answer_said, pixel_answer_said}
use Rattle.answers.specs.Wide.{clock_answer_said, mapped_answer_said}

-- the numbers of a value
abbrev pub first_of : Value → ℕ
first_of (one x) = x
first_of (two x y) = x
first_of (pixel x) = x
first_of (part l) = 0
first_of (changes a b c d) = a
first_of (shown d l) = 0

abbrev pub second_of : Value → ℕ
second_of (one x) = 0
second_of (two x y) = y
second_of (pixel x) = 0
second_of (part l) = 0
second_of (changes a b c d) = b
second_of (shown d l) = 0

module _ {s t : Said} (e : s ≡ t) where
  pub number_of : s.number ≡ t.number
  number_of = ap (λ (s : Said). s.number) e

  pub first-of : first_of s.value ≡ first_of t.value
  first-of = ap (λ (s : Said). first_of s.value) e

  pub second-of : second_of s.value ≡ second_of t.value
  second-of = ap (λ (s : Said). second_of s.value) e

pub answer-is : (r r' : Answer) → answer_said r ≡ answer_said r' → r ≡ r'
answer-is r r' e = ap₂ (λ (n x : ℕ). record { number = n; value = x }) (number_of e) (first-of e)

pub pixel-is : (r r' : Answer) → pixel_answer_said r ≡ pixel_answer_said r' → r ≡ r'
pixel-is r r' e = ap₂ (λ (n x : ℕ). record { number = n; value = x }) (number_of e) (first-of e)

pub clock-is : (r r' : Clock) → clock_answer_said r ≡ clock_answer_said r' → r ≡ r'
clock-is r r' e = ap₂ (λ (n x : ℕ). record { clock = x; number = n }) (number_of e) (first-of e)

pub mapped-is : (r r' : Mapped) → mapped_answer_said r ≡ mapped_answer_said r' → r ≡ r'
mapped-is r r' e =
    ap₂ (λ (n x : ℕ). record { offset = x; number = n; a0 = r.a0 }) (number_of e) (first-of e)
    ∙ ap (λ (b : ℕ). record { offset = r'.offset; number = r'.number; a0 = b }) (second-of e)
