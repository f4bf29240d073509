-- `write_u8` does as the machine, whose plan for it is that of `plane_set`.
use Rattle.machine.specs.Step.{vram_step}
use Rattle.machine.specs.Calls.{vram_plan}
use Rattle.vram.proofs.write_u8.Goals as goal

pub returns-clause-does : goal.returns-clause-does
unfolding vram_step vram_plan
returns-clause-does c =
    c.plane_set.ensures.does
