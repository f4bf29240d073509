-- `next` hands out the first of the records that are left.
use Rattle.std.proofs.Common.{◌≡◌, ◌<◌, ◌≤◌, [], ◌∷◌, length, rules, arith, ap, refl}
use Rattle.std.proofs.lemmas.Bool.Decides.{nat_tests}
use Rattle.tape_reader.proofs.Tapes.{records_none, taken_fits, records_whole, records_broken}
use Rattle.tape_machine.specs.Run.{records_of}
use Rattle.tape_reader.proofs.records.RecordsIterator.next.Goals.{in-Ok, in-Err}
use Rattle.tape_reader.proofs.records.RecordsIterator.next.Goals as goal

pub returns-then-is_empty-clause-steps : goal.returns-then-is_empty-clause-steps
returns-then-is_empty-clause-steps c =
    let none : length c.args.self.now.rest.now ≡ 0 = grind (arith, nat_tests) in
    (records_none _ none, records_none _ none)

pub slice_bounds-self-count : goal.slice_bounds-self-count
slice_bounds-self-count c =
    let some : 0 < length c.args.self.now.rest.now = grind (arith, nat_tests) in
    taken_fits _ some c.decode-record.ensures c.in-Ok.is

pub slice_bounds-self-start : goal.slice_bounds-self-start
slice_bounds-self-start c =
    let some : 0 < length c.args.self.now.rest.now = grind (arith, nat_tests) in
    let within : c.in-Ok.whole.taken ≤ length c.args.self.now.rest.now = taken_fits _ some c.decode-record.ensures c.in-Ok.is in
    search rules

pub returns-clause-steps : goal.returns-clause-steps
returns-clause-steps c =
    let some : 0 < length c.args.self.now.rest.now = grind (arith, nat_tests) in
    let step : records_of c.args.self.now.rest.now ≡ c.match-record.record ∷ records_of c.match-record.self.now
    = elim c.match-record.branch [
      | in-Ok w ↦ rw (w.record-is, w.self-is) (records_whole _ some c.decode-record.ensures w.in-Ok.is)
      | in-Err w ↦ rw (w.record-is, w.in-Err.is, w.self-is, records_none [] refl) (records_broken _ some c.decode-record.ensures w.in-Err.is)
    ] in
    step

pub returns-clause-goes : goal.returns-clause-goes
returns-clause-goes c =
    let some : 0 < length c.args.self.now.rest.now = grind (arith, nat_tests) in
    let step : records_of c.args.self.now.rest.now ≡ c.match-record.record ∷ records_of c.match-record.self.now
    = elim c.match-record.branch [
      | in-Ok w ↦ rw (w.record-is, w.self-is) (records_whole _ some c.decode-record.ensures w.in-Ok.is)
      | in-Err w ↦ rw (w.record-is, w.in-Err.is, w.self-is, records_none [] refl) (records_broken _ some c.decode-record.ensures w.in-Err.is)
    ] in
    let shorter = ap length step in
    search rules
