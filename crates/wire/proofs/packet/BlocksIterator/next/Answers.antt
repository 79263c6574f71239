use Rattle.std.proofs.Common.{◌≡◌, suc, ◌+◌, ◌-◌, ◌≤◌, length, arith, rules}
use Rattle.wire.specs.Bytes.{value}
use Rattle.wire.specs.Packets.{blocks_of}
use Rattle.wire.specs.declared.packet.Blocks.{Blocks}
use Rattle.wire.proofs.Walks.{next_within}
use Rattle.wire.proofs.packet.BlocksIterator.next.Goals as goal

-- the next block lies within the bytes
within : (w : Blocks) → (w.left ≡ 0 → ⊥) → (w.at + 2 + value w.at 2 w.packet.bytes.now ≤ 1472) × (w.at + 2 + value w.at 2 w.packet.bytes.now ≤ length w.packet.bytes.now)
within w some = next_within w.packet.bytes.now w.left w.at w.packet.whole w.few w.here some

pub bytes_at-requires : goal.bytes_at-requires
bytes_at-requires c = let b = within c.args.self.now c.if-self-eq0.false in omega arith

pub overflow_add-start : goal.overflow_add-start
overflow_add-start c = let b = within c.args.self.now c.if-self-eq0.false in search rules

pub invariant_of-self-clause-here : goal.invariant_of-self-clause-here
invariant_of-self-clause-here c =
    let w = c.args.self.now in
    let n = blocks_of w.packet.bytes.now in
    let size : c.from.result ≡ value w.at 2 w.packet.bytes.now = search rules in
    let next : n - (w.left - 1) ≡ suc (n - w.left) = omega (arith, w.few, c.if-self-eq0.false) in
    rw (next, ← w.here, ← size) (omega arith)
