use Rattle.std.proofs.Common.{◌≡◌, ◌≤◌, length, None}
use Rattle.wire.specs.Packets.{block_at, first_fault}
use Rattle.wire.proofs.packet.blocks_end.Given as goal

abbrev pub invariant-loop-i : goal.invariant-loop-i
invariant-loop-i l =
    (l.at ≡ block_at l.bytes l._i) × (first_fault l.bytes l._i ≡ None) × (20 ≤ length l.bytes → l.at ≤ length l.bytes)
