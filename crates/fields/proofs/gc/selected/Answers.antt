-- `selected` gives the register of a number from 0 to 8, and from 9 on the earlier one: from the arm that was taken.
use Prim.Native.Nat.{ℕ, ◌≤◌}
use native.Mathlib.Omega.{arith}
use mathlib.Core.Path.{◌≡◌, sym}
use lib.ListN.{get_or-eq_default}
use Rattle.machine.specs.Graphics.{registers, selects}
use Rattle.fields.proofs.gc.selected.Goals as goal

-- the number is none of those of the first five arms
five : (n : ℕ) → ((((Unit {0} × (n ≡ 0 → ⊥)) × (n ≡ 1 → ⊥)) × (n ≡ 2 → ⊥)) × (n ≡ 3 → ⊥)) × (n ≡ 4 → ⊥) → 5 ≤ n
five n h = omega (arith, h.1, h.0.1, h.0.0.1, h.0.0.0.1, h.0.0.0.0.1)

pub returns-in-0 : goal.returns-in-0
unfolding selects
returns-in-0 c =
    rw c.in-0.is

pub returns-in-1 : goal.returns-in-1
unfolding selects
returns-in-1 c =
    rw c.in-1.is

pub returns-in-2 : goal.returns-in-2
unfolding selects
returns-in-2 c =
    rw c.in-2.is

pub returns-in-3 : goal.returns-in-3
unfolding selects
returns-in-3 c =
    rw c.in-3.is

pub returns-in-4 : goal.returns-in-4
unfolding selects
returns-in-4 c =
    rw c.in-4.is

pub returns-in-5 : goal.returns-in-5
unfolding selects
returns-in-5 c =
    rw c.in-5.is

pub returns-in-6 : goal.returns-in-6
unfolding selects
returns-in-6 c =
    rw c.in-6.is

pub returns-in-7 : goal.returns-in-7
unfolding selects
returns-in-7 c =
    rw c.in-7.is

pub returns-in-8 : goal.returns-in-8
unfolding selects
returns-in-8 c =
    rw c.in-8.is

pub returns-in_default : goal.returns-in_default
unfolding selects
returns-in_default c =
    let h = c.in_default.in_default-own.rest in
    let n = c.args.number in
    let l : 5 ≤ n = five n h.0.0.0.0 in
    let k : 9 ≤ n = omega (arith, h.1, h.0.1, h.0.0.1, h.0.0.0.1) in
    sym (get_or-eq_default registers c.args.earlier k)
