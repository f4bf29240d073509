-- `shaped` answers whether the shape is sound: what it tests is 0 exactly then, by `unlike-zero`.
use Rattle.refusals_memory.proofs.Shapes.{unlike-zero}
use Rattle.refusals_memory.proofs.shaped.Goals as goal

pub returns : goal.returns
returns c = unlike-zero _ c.wrapping_sub_usize-size.result c.wrapping_sub_usize-size.type_inv c.wrapping_sub_usize-size.ensures.value
