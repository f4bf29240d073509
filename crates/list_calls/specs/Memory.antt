-- What of a list's memory is lent to a call.
use Rattle.std.specs.Prelude.{take}
use Rattle.machine.specs.Memory.{Memory as Lists, mem}
use Rattle.list_calls.specs.declared.memory.Memory.{Memory}

-- the first bytes of each slice, as many as are lent, where there are as many
abbrev pub lent_of : Memory → Lists
lent_of m = mem (take m.lent.p0 m.p0) (take m.lent.p1 m.p1) (take m.lent.p2 m.p2) (take m.lent.p3 m.p3) (take m.lent.picture m.picture)
