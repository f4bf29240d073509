-- An accepted write: one counter moves, and the memory.
use mathlib.Core.Path.{◌≡◌, ap, ap₂, sym, ◌∙◌}
use Rattle.machine_types.specs.declared.gc.GraphicsController.{GraphicsController}
use Rattle.machine_types.specs.declared.seq.Sequencer.{Sequencer}
use Rattle.machine.specs.Memory.{lent}
use Rattle.machine.specs.Answers.{changes, changed_value, outcome, store_said}
use Rattle.machine.specs.Calls.{cpu_write, write_counter}
use Rattle.machine.specs.Graphics.{write_mode}
use Rattle.machine.specs.Step.{device, cpu_step}
use Rattle.answers.specs.declared.wide.Stored.{Stored}
use Rattle.host_records.specs.Records.{known_both, controller_of, sequencer_of, is_set, counter_of}
use Rattle.host_records.proofs.Told.{number-said}
use Rattle.host_calls.proofs.Laws.{meant_of, cpu-wrote}
use Rattle.host_calls.proofs.write_of.Goals as goal

pub returns-clause-counts : goal.returns-clause-counts
returns-clause-counts c =
    let both = meant_of (known_both c.args.gc c.args.seq) _ _ _ c.meant.ensures c.in-Ok.is in
    let i = ap (λ (q : GraphicsController × Sequencer). q.0) both.1 in
    let number = sym (ap (λ (s : Stored). s.number) c.into.ensures ∙ number-said changed_value (changes 0 0 0 0) c.cpu_write_u8-written.result.answer) in
    let own = c.into-own.ensures ∙ ap write_counter (c.write_mode.ensures ∙ ap (λ (q : GraphicsController). write_mode q.registers) i) in
    c.of.ensures ∙ ap₂ counter_of number own

pub returns-clause-does : goal.returns-clause-does
returns-clause-does c =
    let a = c.args in
    let both = meant_of (known_both a.gc a.seq) _ _ _ c.meant.ensures c.in-Ok.is in
    let i = ap (λ (q : GraphicsController × Sequencer). q.0) both.1 in
    let j = ap (λ (q : GraphicsController × Sequencer). q.1) both.1 in
    let written = c.cpu_write_u8-written.result in
    let m' = lent c.cpu_write_u8-written.new.memory in
    let step : outcome (store_said written.answer) (device written.next m') ≡ cpu_step (controller_of a.gc) (sequencer_of a.seq) (lent a.memory.now) (cpu_write a.address (is_set a.page) a.byte) =
    rw (← i, ← j, ← c.is_set.ensures) c.cpu_write_u8-written.ensures.does in
    cpu-wrote a.gc a.seq (lent a.memory.now) (changes 0 0 0 0) a.address _ both.0 _ m' _ a.byte _ _ c.into.ensures (returns-clause-counts c) step
