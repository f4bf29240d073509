-- `chain_four` takes out Memory Mode's bit 3.
use mathlib.Core.Path.{refl, sym, ap}
use Rattle.bits.specs.Bit.{bit, field, is_one}
use Rattle.machine.specs.Sequencer.{chain_four}
use Rattle.fields.proofs.Fields.{field-masked}
use Rattle.fields.proofs.seq.chain_four.Goals as goal

pub returns : goal.returns
unfolding chain_four bit field
returns c = ap is_one (sym (field-masked 3 1 c.args.seq.memory_mode _ refl))
