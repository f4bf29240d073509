-- What the answers of wider values say, and the answers of a show and of a store by value.
use Rattle.std.specs.Prelude.{ℕ, ◌≡◌, List, [], ◌∷◌, eqb, length, Result, Ok, Err}
use Rattle.bits.specs.Bit.{pick}
use Rattle.machine_types.specs.declared.answer.Refusal.{Refusal}
use Rattle.machine.specs.Answers.{Value, one, two, pixel, part, changes, shown, no_pixels, pixels_of, Said, said, Outcome, refusal_number}
use Rattle.answers.specs.declared.wide.Clock.{Clock}
use Rattle.answers.specs.declared.wide.Mapped.{Mapped}
use Rattle.answers.specs.declared.wide.Shown.{Shown}
use Rattle.answers.specs.declared.wide.Stored.{Stored}

-- the character clock
abbrev pub clock_answer_said : Clock → Said
clock_answer_said a = said a.number (one a.clock)

-- the offset and a0
abbrev pub mapped_answer_said : Mapped → Said
mapped_answer_said a = said a.number (two a.offset a.a0)

-- a part of eight pixels as it is; eight zeros where there are not eight, as in the empty part of a refusal
abbrev pub eight_of : List ℕ → List ℕ
eight_of l = pick (eqb (length l) 8) l no_pixels

-- an older show's answer by value
abbrev pub shown_of : Said → Shown
shown_of s = record { number = s.number; pixels = eight_of (pixels_of s.value) }

-- K3, a show's answer by value: its pixels are eight, refused or not
abbrev pub pixels_shown : Said → Shown
pixels_shown s = record { number = s.number; pixels = pixels_of s.value }

-- .. from what the call hands back
abbrev pub in_numbers : Result (List ℕ) Refusal → Shown
in_numbers (Ok l) = record { number = 0; pixels = l }
in_numbers (Err r) = record { number = refusal_number r; pixels = no_pixels }

-- the four numbers of a store, plane 0 first; no other value has any
abbrev pub four_of : Value → List ℕ
four_of (one x) = 0 ∷ 0 ∷ 0 ∷ 0 ∷ []
four_of (two x y) = 0 ∷ 0 ∷ 0 ∷ 0 ∷ []
four_of (pixel x) = 0 ∷ 0 ∷ 0 ∷ 0 ∷ []
four_of (part l) = 0 ∷ 0 ∷ 0 ∷ 0 ∷ []
four_of (changes a b c d) = a ∷ b ∷ c ∷ d ∷ []
four_of (shown d l) = 0 ∷ 0 ∷ 0 ∷ 0 ∷ []

-- a store's answer by value
abbrev pub stored_of : Said → Stored
stored_of s = record { changed = four_of s.value; number = s.number }

-- a store's answer by value and what it leaves are an outcome's
abbrev pub StoredAs : {S : Type 0} → Stored → S → Outcome S → Type 0
StoredAs r s o = (r ≡ stored_of o.answer) × (s ≡ o.next)
