-- `play_tape` lends an array and writes a part of it: the array keeps its length, and the lines have room.
use Rattle.std.proofs.Common.{ℕ, refl, replicate}
use Rattle.tape_program.proofs.Lengths.{of_length, written_fits, part_length}
use Rattle.tape_program.proofs.play_tape.Goals as goal

pub slice_bounds-run_from_start-end : goal.slice_bounds-run_from_start-end
slice_bounds-run_from_start-end c = of_length 1376256 refl

pub slice_bounds-lines-end : goal.slice_bounds-lines-end
slice_bounds-lines-end c = written_fits c.args.tape.now (replicate {A = ℕ} 1376256 0) c.run_from_start-ran.new.out c.run_from_start-ran.auto.out c.run_from_start-ran.ensures

pub slice_bounds-emit-end : goal.slice_bounds-emit-end
slice_bounds-emit-end c = part_length c.args.tape.now (replicate {A = ℕ} 1376256 0) c.run_from_start-ran.new.out c.run_from_start-ran.auto.out c.run_from_start-ran.ensures
