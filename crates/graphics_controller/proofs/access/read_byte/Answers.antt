-- `read_byte` answers as the machine from the latches: by the read mode.
use native.Mathlib.Omega.{arith}
use mathlib.Core.Path.{ap}
use Rattle.machine.specs.Deeds.{latch}
use Rattle.graphics_controller.specs.Reads.{read_byte}
use Rattle.graphics_controller.proofs.Accesses.{select-small}
use Rattle.graphics_controller.proofs.access.read_byte.Goals as goal

pub bounds-latches-plane : goal.bounds-latches-plane
bounds-latches-plane c =
    let h = select-small c.args.registers c.args.seq c.args.address c.args.offset c.requires in
    omega (arith, c.selected_plane-plane.ensures)

pub returns-in-ReadSelectedPlane : goal.returns-in-ReadSelectedPlane
unfolding read_byte
returns-in-ReadSelectedPlane c =
    rw c.in-ReadSelectedPlane.is (ap (latch c.args.latches) c.selected_plane-plane.ensures)

pub returns-in-ReadComparedPlanes : goal.returns-in-ReadComparedPlanes
unfolding read_byte
returns-in-ReadComparedPlanes c =
    rw c.in-ReadComparedPlanes.is c.pixel_op_compare.ensures
