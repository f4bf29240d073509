-- `chain_odd_even` takes out Miscellaneous' bit 1.
use mathlib.Core.Path.{refl, sym, ap}
use Rattle.bits.specs.Bit.{bit, field, is_one}
use Rattle.machine.specs.Graphics.{chained}
use Rattle.fields.proofs.Fields.{field-masked}
use Rattle.fields.proofs.gc.chain_odd_even.Goals as goal

pub returns : goal.returns
unfolding chained bit field
returns c = ap is_one (sym (field-masked 1 1 c.args.registers.miscellaneous _ refl))
