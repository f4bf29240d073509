-- `fits_gc` is refusal 6's test: the registers of four bits together, and the map select, by `fits_together`.
use borrow.Author.Tests.{le-leb, lt-leb}
use Rattle.refusals_records.proofs.Held.{fits_together}
use Rattle.refusals_records.proofs.fits_gc.Goals as goal

pub returns-then-four_bits_fit : goal.returns-then-four_bits_fit
returns-then-four_bits_fit c = rw (← fits_together c.args.registers, le-leb _ 15 c.if-four_bits_fit.true)

pub returns-else-four_bits_fit : goal.returns-else-four_bits_fit
returns-else-four_bits_fit c = rw (← fits_together c.args.registers, lt-leb _ 15 c.if-four_bits_fit.false)
