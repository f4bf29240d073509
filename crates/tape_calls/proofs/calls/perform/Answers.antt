-- `perform` does what its command stands for: from the arm that was taken and what its call ensures.
use Rattle.machine.specs.Calls.{cpu_read, cpu_write}
use Rattle.tape_machine.specs.Performs.{performed}
use Rattle.tape_calls.proofs.Performing.{seen-lent, graphics-so, sequencer-so, reset-so, cpu-so}
use Rattle.tape_calls.proofs.calls.perform.Goals as goal

pub returns-in-Reset-clause-does : goal.returns-in-Reset-clause-does
returns-in-Reset-clause-does c = rw c.in-Reset.is (reset-so _ _ _ c.reset-in-Reset.ensures c.reset.ensures c.from.ensures)

pub returns-in-GcAddress-clause-does : goal.returns-in-GcAddress-clause-does
unfolding performed
returns-in-GcAddress-clause-does c =
    let done = c.graphics_done.ensures in
    rw c.in-GcAddress.is (graphics-so _ _ _ _ c.write_address.ensures done.told done.gc done.seq)

pub returns-in-GcData-clause-does : goal.returns-in-GcData-clause-does
unfolding performed
returns-in-GcData-clause-does c =
    let done = c.graphics_done-in-GcData.ensures in
    rw c.in-GcData.is (graphics-so _ _ _ _ c.write_data.ensures done.told done.gc done.seq)

pub returns-in-SeqAddress-clause-does : goal.returns-in-SeqAddress-clause-does
unfolding performed
returns-in-SeqAddress-clause-does c =
    let done = c.sequencer_done.ensures in
    rw c.in-SeqAddress.is (sequencer-so _ _ _ _ c.write_address-in-SeqAddress.ensures done.told done.gc done.seq)

pub returns-in-SeqData-clause-does : goal.returns-in-SeqData-clause-does
unfolding performed
returns-in-SeqData-clause-does c =
    let done = c.sequencer_done-in-SeqData.ensures in
    rw c.in-SeqData.is (sequencer-so _ _ _ _ c.write_data-in-SeqData.ensures done.told done.gc done.seq)

pub returns-in-Read-clause-does : goal.returns-in-Read-clause-does
unfolding performed
returns-in-Read-clause-does c =
    let done = c.graphics_done-in-Read.ensures in
    let went = rw (seen-lent c.as_read.ensures) at c.cpu_read_u8.ensures in
    rw c.in-Read.is (cpu-so _ _ _ (cpu_read c.in-Read.address c.in-Read.page) went done.told done.gc done.seq)

pub returns-in-Write-clause-does : goal.returns-in-Write-clause-does
unfolding performed
returns-in-Write-clause-does c =
    let done = c.graphics_done-in-Write.ensures in
    rw c.in-Write.is (cpu-so _ _ _ (cpu_write c.in-Write.address c.in-Write.page c.in-Write.byte) c.cpu_write_u8.ensures.does done.told done.gc done.seq)

pub returns-in-Peek-clause-does : goal.returns-in-Peek-clause-does
unfolding performed
returns-in-Peek-clause-does c = rw c.in-Peek.is (rw (seen-lent c.as_read-in-Peek.ensures) at c.peek.ensures)

pub returns-in-Show-clause-does : goal.returns-in-Show-clause-does
unfolding performed
returns-in-Show-clause-does c = rw c.in-Show.is (rw (seen-lent c.as_read-in-Show.ensures) at c.show.ensures)
