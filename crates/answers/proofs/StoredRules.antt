-- What a store tells in numbers, computed: plane 0's number first, four zeros where refused, and the answer's number beside them. No other kind of value has four.
use Prim.Native.Nat.{ℕ}
use mathlib.Core.Path.{◌≡◌, refl}
use mathlib.Core.List.{List, [], ◌∷◌}
use Rattle.machine_types.specs.declared.answer.Refusal.TheVariants.{Memory, Window, Offset, Plane, State}
use Rattle.machine_types.specs.declared.answer.Changed.{Changed}
use Rattle.machine_types.specs.declared.answer.Refusal.{Refusal}
use Rattle.std.specs.Prelude.{Result, Ok, Err}
use Rattle.machine.specs.Answers.{one, two, pixel, part, said, store_said}
use Rattle.answers.specs.declared.wide.Stored.{Stored}
use Rattle.answers.specs.Wide.{stored_of}

-- the four numbers, and the answer's
told : Stored → List ℕ
told r = r.number ∷ r.changed

stores : Result Changed Refusal → List ℕ
unfolding told
stores a = told (stored_of (store_said a))

pub stored_rows : List (List ℕ)
unfolding told stores
stored_rows =
    stores (Ok (record { p0 = 1; p1 = 2; p2 = 3; p3 = 8 }))
    ∷ stores (Err Memory)
    ∷ stores (Err Window)
    ∷ stores (Err Offset)
    ∷ stores (Err Plane)
    ∷ stores (Err State)
    ∷ told (stored_of (said 0 (one 7)))
    ∷ told (stored_of (said 0 (two 7 1)))
    ∷ told (stored_of (said 0 (pixel 7)))
    ∷ told (stored_of (said 0 (part (7 ∷ 7 ∷ 7 ∷ 7 ∷ []))))
    ∷ []

-- an answer's number, and four zeros
abbrev zeros : ℕ → List ℕ
zeros n = n ∷ 0 ∷ 0 ∷ 0 ∷ 0 ∷ []

pub stored-rules : stored_rows
    ≡ (0 ∷ 1 ∷ 2 ∷ 3 ∷ 8 ∷ [])
    ∷ zeros 1
    ∷ zeros 2
    ∷ zeros 3
    ∷ zeros 4
    ∷ zeros 6
    ∷ zeros 0
    ∷ zeros 0
    ∷ zeros 0
    ∷ zeros 0
    ∷ []
unfolding stored_rows
stored-rules = refl
