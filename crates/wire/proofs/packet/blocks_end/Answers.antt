use Rattle.std.proofs.Common.{◌<◌, rules}
use Rattle.std.proofs.lemmas.Result.{err_from_is_err_and}
use Rattle.wire.proofs.Walks.{stops}
use Rattle.wire.proofs.packet.blocks_end.Goals as goal

pub returns-in_err-at : goal.returns-in_err-at
returns-in_err-at c =
    let p = err_from_is_err_and c.from_residual.result c.from_residual.ensures.1 in
    let i = c.loop-i.invariant in
    let below : c.loop-i._i < c.args.n = search rules in
    rw (p.1, p.2) (stops c.args.bytes.now _ _ _ _ below i.0 i.1 c.in_err-at.ensures)
