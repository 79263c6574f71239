use Rattle.std.proofs.Common.{ℕ, ◌<◌, get_or, rules}
use Rattle.wire.proofs.Further as further
use Rattle.wire.proofs.Onlys as onlys
use Rattle.wire.proofs.packet.Packet.read.Goals as goal

pub returns-clause-lasting : goal.returns-clause-lasting
returns-clause-lasting c = further.lasting c.args.bytes.now

pub returns-clause-enough : goal.returns-clause-enough
returns-clause-enough c = further.long_lasts c.args.bytes.now

pub returns-clause-exactly : goal.returns-clause-exactly
returns-clause-exactly c =
    let bs = c.args.bytes.now in
    let bytes : (i : ℕ) → get_or bs i 0 < 256 = λ i. (let h = c.type_inv.bytes i in search rules) in
    onlys.exactly bs _ bytes c.front.ensures.answer
