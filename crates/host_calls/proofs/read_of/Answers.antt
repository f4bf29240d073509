-- An accepted read: the latches and one counter move.
use mathlib.Core.Path.{◌≡◌, ap, ap₂, sym, ◌∙◌}
use Rattle.machine_types.specs.declared.gc.GraphicsController.{GraphicsController}
use Rattle.machine_types.specs.declared.seq.Sequencer.{Sequencer}
use Rattle.machine.specs.Memory.{seen}
use Rattle.machine.specs.Answers.{Said, one, outcome}
use Rattle.machine.specs.Calls.{cpu_read, read_counter}
use Rattle.machine.specs.Graphics.{read_mode}
use Rattle.machine.specs.Step.{device, cpu_step}
use Rattle.answers.specs.Answers.{answer_said}
use Rattle.host_records.specs.Records.{known_both, controller_of, sequencer_of, is_set, counter_of, counter_told}
use Rattle.host_records.proofs.Told.{number-said}
use Rattle.host_calls.proofs.Laws.{meant_of, cpu-read}
use Rattle.host_calls.proofs.read_of.Goals as goal

pub returns : goal.returns
returns c =
    let a = c.args in
    let m = seen a.memory.now in
    let both = meant_of (known_both a.gc a.seq) _ _ _ c.meant.ensures c.in-Ok.is in
    let i = ap (λ (q : GraphicsController × Sequencer). q.0) both.1 in
    let j = ap (λ (q : GraphicsController × Sequencer). q.1) both.1 in
    let read = c.cpu_read_u8-read.result in
    let step : outcome (answer_said c.into.result) (device read.next m) ≡ cpu_step (controller_of a.gc) (sequencer_of a.seq) m (cpu_read a.address (is_set a.page)) =
    rw (c.into.ensures, ← i, ← j, ← c.is_set.ensures) c.cpu_read_u8-read.ensures in
    let number = sym (ap (λ (s : Said). s.number) c.into.ensures ∙ number-said one (one 0) read.answer) in
    let own = c.into-own.ensures ∙ ap read_counter (c.read_mode.ensures ∙ ap (λ (q : GraphicsController). read_mode q.registers) i) in
    let counts : counter_told c.of.result ≡ counter_of c.into.result.number (read_counter (read_mode (controller_of a.gc).registers)) = c.of.ensures ∙ ap₂ counter_of number own in
    (cpu-read a.gc a.seq m (one 0) a.address _ both.0 _ m _ _ counts step, counts)
