-- `rotate_count` takes out Data Rotate's bits 0-2.
use native.Mathlib.Omega.{arith}
use mathlib.Core.Path.{sym}
use Rattle.machine.specs.Graphics.{rotate_count}
use Rattle.fields.proofs.Fields.{field-masked}
use Rattle.fields.proofs.gc.rotate_count.Goals as goal

pub returns : goal.returns
unfolding rotate_count
returns c = sym (field-masked 0 3 c.args.registers.data_rotate c.args.registers.data_rotate (omega arith))
