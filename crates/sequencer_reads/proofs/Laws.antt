-- What the code's proofs cite: what a part of the picture asks, where the judge accepts.
use Rattle.std.proofs.Common.{◌≡◌, ℕ, ◌+◌, ◌*◌, ◌≤◌, sym, arith, ◌∙◌}
use Rattle.machine_types.specs.declared.seq.Sequencer.{Sequencer}
use Rattle.machine_types.specs.declared.shape.Shape.{Shape}
use Rattle.machine.specs.Sequencer.{fits_seq}
use Rattle.machine.specs.Calls.{refuse, shown_number}
use Rattle.machine.proofs.Laws.{refuse-0, shown-accepted}

pub part_asked : (s : Sequencer) (h : Shape) (o n : ℕ) → n ≡ refuse (fits_seq s) 6 (shown_number h o) → n ≡ 0 → (o ≤ 65535) × (8 * o + 8 ≤ h.picture)
part_asked s h o n e z =
    let a = shown-accepted h o (refuse-0 (fits_seq s) 5 (shown_number h o) (sym e ∙ z)).1 in
    (omega arith, omega arith)
