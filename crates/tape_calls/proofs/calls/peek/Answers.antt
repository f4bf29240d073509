-- `peek` is the machine's step: from what `cpu_peek_u8` ensures.
use mathlib.Core.Path.{refl}
use Rattle.machine.specs.Calls.{cpu_peek}
use Rattle.tape_calls.proofs.Performing.{cpu-so}
use Rattle.tape_calls.proofs.calls.peek.Goals as goal

pub returns : goal.returns
returns c = cpu-so _ _ _ (cpu_peek c.args.address c.args.page) c.cpu_peek_u8-byte.ensures c.from.ensures refl refl
