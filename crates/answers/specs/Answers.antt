-- What the answers in numbers say.
use Rattle.std.specs.Prelude.{ℕ}
use Rattle.machine.specs.Answers.{one, pixel, Said, said}
use Rattle.answers.specs.declared.narrow.Answer.{Answer}

-- an answer's number and value
abbrev pub answer_said : Answer → Said
answer_said a = said a.number (one a.value)

-- the answer of a number and a value
abbrev pub answer_of : ℕ → ℕ → Answer
answer_of n x = record { number = n; value = x }

-- of `read_linear`: a pixel
abbrev pub pixel_answer_said : Answer → Said
pixel_answer_said a = said a.number (pixel a.value)
