-- An address mapped with no memory at hand.
use Rattle.std.proofs.Common.{ℕ, ◌≡◌, Bool, true, Result, arith, lt-ltb}
use lib.Dec.{ltb}
use Rattle.bits.specs.Bit.{bit_of}
use Rattle.machine_types.specs.declared.answer.Refusal.{Refusal}
use Rattle.machine_types.specs.declared.place.PlaneOffset.{PlaneOffset}
use Rattle.machine_types.specs.declared.gc.GraphicsController.{GraphicsController}
use Rattle.machine.specs.Answers.{two, outcome, answered, mapped_said}
use Rattle.machine.specs.Graphics.{fits_gc, memory_map, chained}
use Rattle.machine.specs.Address.{in_window, a0, offset}
use Rattle.machine.specs.Calls.{refuse, gc_number_of, gc_value, gc_next, gc_map_address}
use Rattle.machine.specs.Step.{graphics_step}
use Rattle.refusals_access.specs.Miscellaneous.{map_of, offset_of}
use Rattle.refusals_access.proofs.Windows.{left}

-- the answer of `judge_window` to `map_address`: every offset of 16 bits is within 65,536
pub mapped_anywhere : (g : GraphicsController) (x : ℕ) (page : Bool) (d : Result (PlaneOffset × Bool) Refusal) → fits_gc g.registers ≡ true → let b = g.registers.miscellaneous in
    outcome (mapped_said d) x ≡ answered (refuse (in_window (map_of b) x) 2 (refuse (ltb (offset_of b x page) 65536) 3 0)) (two (offset_of b x page) (bit_of (a0 x))) x x
    → outcome (mapped_said d) g ≡ graphics_step g (gc_map_address x page)
unfolding graphics_step gc_number_of gc_value gc_next offset memory_map chained
mapped_anywhere g x page d fits e =
    let r = g.registers in
    let o = offset_of r.miscellaneous x page in
    let within : ltb o 65536 ≡ true = lt-ltb o 65536 (omega arith) in
    left (refuse (fits_gc r) 6 (refuse (in_window (memory_map r) x) 2 0)) (two (offset r x page) (bit_of (a0 x))) (mapped_said d) x g (rw fits (simp within at e))
