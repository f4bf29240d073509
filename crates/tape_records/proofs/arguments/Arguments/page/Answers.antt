-- `page` is an argument of 1 or 0.
use Rattle.tape_records.proofs.Judging.{page_so}
use Rattle.tape_records.proofs.arguments.Arguments.page.Goals as goal

pub returns : goal.returns
returns c = page_so _ c.in_ok-next.ensures
