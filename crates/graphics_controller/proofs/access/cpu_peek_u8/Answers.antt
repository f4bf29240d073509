-- `cpu_peek_u8` answers as the machine: refused by the judge's number, else a byte where chain-four leads, and nothing moves.
use Rattle.std.proofs.Common.{◌≡◌, Err, arith, rules}
use Rattle.machine.proofs.Laws.{refusal-some, stored-at-le}
use Rattle.machine.specs.Memory.{seen}
use Rattle.graphics_controller.proofs.Accesses.{located, unlocated, peeked-small, peek-refused, peek-done}
use Rattle.graphics_controller.proofs.access.cpu_peek_u8.Goals as goal

pub returns-in_err-found : goal.returns-in_err-found
returns-in_err-found c =
    let a = c.args in
    let x = c.in_err-found.field-0.0 in
    let e : c.from_residual.result ≡ Err x = search rules in
    rw e (peek-refused a.gc a.seq (seen a.memory.now) a.address a.page _ (refusal-some x) (unlocated _ _ _ _ _ c.shape.ensures c.judge_access.ensures x (search rules)))

pub byte-requires : goal.byte-requires
byte-requires c =
    let l = located _ _ (seen c.args.memory.now) _ _ c.shape.ensures c.judge_access.ensures c.in_ok-found.found c.in_ok-found.field-0-1 (search rules) in
    let o = c.in_ok-found.found.0 in
    (l.shaped, (omega (arith, c.stored_at-at.ensures, stored-at-le c.args.seq o, l.within), omega (arith, c.peeked_plane-plane.ensures, peeked-small c.args.seq o)))

pub returns : goal.returns
returns c =
    let a = c.args in
    let l = located _ _ (seen a.memory.now) _ _ c.shape.ensures c.judge_access.ensures c.in_ok-found.found c.in_ok-found.field-0-1 (search rules) in
    peek-done a.gc a.seq (seen a.memory.now) a.address a.page _ _ _ _ l.accepted l.offset c.peeked_plane-plane.ensures c.stored_at-at.ensures c.byte.ensures
