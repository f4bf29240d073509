-- What a show looks at, where the offset itself is past the planes: no mode has it.
use Prim.Native.Nat.{ℕ, ◌+◌, ◌≤◌}
use native.Mathlib.Omega.{arith}
use mathlib.Core.Path.{◌≡◌}
use mathlib.Core.Bool.{false}
use lib.Dec.{ltb}
use borrow.Author.Tests.{le-ltb}
use Rattle.machine_types.specs.declared.gc.ShiftMode.{ShiftMode}
use Rattle.machine_types.specs.declared.gc.ShiftMode.TheVariants.{Standard, CGACompatible, Chain4, Unused}
use Rattle.machine.specs.Calls.{last_shown}

pub last-past : (d : ShiftMode) (o n : ℕ) → n ≤ o → ltb (last_shown d o) n ≡ false
last-past Standard o n h = le-ltb o n h
last-past CGACompatible o n h = le-ltb (o + 1) n (omega arith)
last-past Chain4 o n h = le-ltb o n h
last-past Unused o n h = le-ltb o n h
