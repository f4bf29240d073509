-- `pixel_op_compare` is the machine's comparison: four planes' bytes joined, by `all-agreed`.
use Rattle.graphics_paths.proofs.Colour.{all-agreed}
use Rattle.graphics_paths.proofs.compare.pixel_op_compare.Goals as goal

pub returns : goal.returns
returns c =
    rw (c.plane_comp-agree0.ensures, c.plane_comp-agree1.ensures, c.plane_comp-agree2.ensures, c.plane_comp-agree3.ensures)
    (all-agreed c.args.color_dont_care c.args.color_compare c.args.latches)
