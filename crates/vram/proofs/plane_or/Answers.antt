-- `plane_or` is `plane_store` of its kind.
use Rattle.machine.specs.Step.{vram_step}
use Rattle.machine.specs.Calls.{vram_plan}
use Rattle.vram.proofs.plane_or.Goals as goal

pub returns-clause-does : goal.returns-clause-does
unfolding vram_step vram_plan
returns-clause-does c =
    c.plane_store.ensures.does
