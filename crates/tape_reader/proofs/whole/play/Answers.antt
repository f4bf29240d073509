-- `play` writes the lines of the definition and leaves its state: the loop keeps `Loop`.
use Rattle.std.proofs.Common.{refl, ◌<◌, ◌^◌, length, inl, rules, arith}
use Rattle.tape_machine.proofs.Room.{few_records}
use Rattle.tape_reader.proofs.Runs.{loop_first, loop_end, whole_room, whole_loop, broken_room, broken_loop}
use Rattle.tape_reader.proofs.whole.play.Goals as goal

pub loop-earlier-init-derived : goal.loop-earlier-init-derived
loop-earlier-init-derived c =
    let few = few_records c.args.tape.now in
    let long : length c.args.tape.now < 2 ^ 64 = search rules in
    ((tt, tt, inl (rw (c.into_iter-earlier-iterator.ensures.into_iter_gives, c.enumerate-earlier-items.ensures.source, c.enumerate-earlier-items.ensures.count) (omega arith))), tt)

pub line-requires : goal.line-requires
line-requires c = record {
  room = whole_room _ _ _ c.loop-earlier.earlier-iterator c.next.new.self c.loop-earlier.invariant.2 _ _ c.in-Some.ensures.steps c.in-Ok.is c.perform-done.ensures.does c.command_number.ensures;
}

pub loop-earlier-preserved-in-Ok : goal.loop-earlier-preserved-in-Ok
loop-earlier-preserved-in-Ok c = (
  search rules,
  search rules,
  whole_loop _ _ _ _ _ c.loop-earlier.invariant.2 _ _ c.in-Some.ensures.steps c.in-Ok.is c.perform-done.ensures.does c.command_number.ensures c.line.ensures.put,
)

pub line-requires-in-Err : goal.line-requires-in-Err
line-requires-in-Err c = record { room = broken_room _ _ _ c.loop-earlier.earlier-iterator c.next.new.self c.loop-earlier.invariant.2 _ _ c.in-Some.ensures.steps c.in-Err.is c.from.ensures }

pub loop-earlier-preserved : goal.loop-earlier-preserved
loop-earlier-preserved c = (
  c.loop-earlier.invariant.0,
  search rules,
  broken_loop _ _ _ _ _ c.loop-earlier.invariant.2 _ _ c.in-Some.ensures.steps c.in-Err.is c.from.ensures c.line-in-Err.ensures.put,
)

pub loop-earlier-init : goal.loop-earlier-init
loop-earlier-init c =
    let all = c.enumerate-earlier-items.ensures in
    let it = c.into_iter-earlier-iterator.ensures.into_iter_gives in (
      record { p0 = refl; p1 = refl; p2 = refl; p3 = refl; picture = refl },
      refl,
      loop_first c.args.tape.now _ _ c.into_iter-earlier-iterator.result (rw (it, all.count)) (rw (it, all.source)) (search rules) c.requires,
    )

pub returns-clause-does : goal.returns-clause-does
returns-clause-does c =
    let end = loop_end _ _ _ c.loop-earlier.earlier-iterator c.in-None.ensures.steps.0.0 c.loop-earlier.invariant.2 in
    search (rules, end)
