use Rattle.std.proofs.Common.{◌≤◌, length, arith}
use Rattle.wire.proofs.Walks.{rest_shorter}
use Rattle.wire.proofs.packet.Packet.front.Goals as goal

pub returns-clause-shorter : goal.returns-clause-shorter
returns-clause-shorter c =
    let bs = c.args.bytes.now in
    let long : 20 ≤ length bs = omega arith in
    let b = c.in_ok-end.ensures in
    rest_shorter bs _ _ long b.1 (b.2 long)
