-- `run` judges the room, and plays: from `enough-room` and `play`.
use Prim.Native.Nat.{◌*◌, ◌<◌, ◌≤◌}
use borrow.Author.Tests.{le-leb, lt-leb}
use lib.ListN.{length}
use native.Mathlib.Omega.{arith}
use Rattle.machine.specs.Memory.{lent}
use Rattle.machine.specs.Step.{state}
use Rattle.tape_machine.specs.Run.{longest, run_of}
use Rattle.tape_machine.proofs.Room.{enough-room}
use Rattle.tape_reader.proofs.whole.run.Goals as goal

pub returns-then-out-tape-clause-does : goal.returns-then-out-tape-clause-does
unfolding run_of
returns-then-out-tape-clause-does c =
    let h : length c.args.out.now < longest * length c.args.tape.now = omega (arith, c.if-out-tape.true) in
    rw (lt-leb _ _ h)

pub play-requires : goal.play-requires
play-requires c = enough-room (state c.args.gc c.args.seq (lent c.args.memory.now)) c.args.tape.now (length c.args.out.now) (omega (arith, c.if-out-tape.false))

pub returns-clause-does : goal.returns-clause-does
unfolding run_of
returns-clause-does c =
    let h : longest * length c.args.tape.now ≤ length c.args.out.now = omega (arith, c.if-out-tape.false) in
    rw (le-leb _ _ h) c.play.ensures.does
