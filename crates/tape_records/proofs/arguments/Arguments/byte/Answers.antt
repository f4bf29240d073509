-- `byte` is an argument that fits a byte.
use Rattle.std.proofs.Common.{arith}
use Rattle.tape_records.proofs.Judging.{small}
use Rattle.tape_records.proofs.arguments.Arguments.byte.Goals as goal

pub overflow_cast-result : goal.overflow_cast-result
overflow_cast-result c = omega (arith, small _ c.in_ok-next.ensures)
