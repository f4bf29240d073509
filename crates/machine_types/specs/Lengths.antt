-- The lengths of five slices as one record.
use Rattle.std.specs.Prelude.{ℕ}
use Rattle.machine_types.specs.declared.shape.Shape.{Shape}

abbrev pub shape_of : ℕ → ℕ → ℕ → ℕ → ℕ → Shape
shape_of a b c d e = record { p0 = a; p1 = b; p2 = c; p3 = d; picture = e }
