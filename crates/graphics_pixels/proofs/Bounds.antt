-- What `shown` is asked, that the last offset which its mode looks at has a byte, is what its calls ask, in whichever arm.
use Rattle.std.proofs.Common.{ℕ, ◌+◌, ◌*◌, ◌<◌, ◌≤◌, arith, length}
use Rattle.machine_types.specs.declared.gc.ShiftMode.{ShiftMode}
use Rattle.machine_types.specs.declared.gc.ShiftMode.TheVariants.{Standard, CGACompatible, Chain4, Unused}
use Rattle.machine.specs.Memory.{Memory, Shaped}
use Rattle.machine.specs.Calls.{last_shown}

-- the offset is at most the last that is looked at
own-below : (d : ShiftMode) (o n : ℕ) → last_shown d o < n → o < n
own-below Standard o n h = h
own-below CGACompatible o n h = omega arith
own-below Chain4 o n h = h
own-below Unused o n h = h

pub picture_fits : (d : ShiftMode) (o : ℕ) (m : Memory) → Shaped m → last_shown d o < length m.p0 → (o ≤ 65535) × (8 * o + 8 ≤ length m.picture)
picture_fits d o m h below =
    let own = own-below d o _ below in
    (omega (arith, own, h.most), omega (arith, own, h.eightfold))

pub planes_fit : (d : ShiftMode) (o : ℕ) (m : Memory) → Shaped m → last_shown d o < length m.p0 → Shaped m × (o < length m.p0)
planes_fit d o m h below = (h, own-below d o _ below)
