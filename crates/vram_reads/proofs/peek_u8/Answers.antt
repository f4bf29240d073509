-- `peek_u8` answers as the machine, whose plan for it is that of `read_u8`.
use Rattle.machine.specs.Step.{vram_step}
use Rattle.machine.specs.Calls.{vram_plan}
use Rattle.vram_reads.proofs.peek_u8.Goals as goal

pub returns : goal.returns
unfolding vram_step vram_plan
returns c = c.read_u8.ensures
