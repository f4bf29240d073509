-- The four numbers of a store that changed none.
use Rattle.machine_types.specs.declared.answer.Changed.{Changed}

-- no plane changed
abbrev pub none_changed : Changed
none_changed = record { p0 = 0; p1 = 0; p2 = 0; p3 = 0 }
