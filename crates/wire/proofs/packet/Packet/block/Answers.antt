use Rattle.std.proofs.Common.{◌≡◌, ℕ, List, length, Some, None, Option, sym, refl, ap, ◌∙◌}
use Rattle.std.specs.List.{slice_get}
use Rattle.std.specs.Option.{option_map, ok_or}
use Rattle.std.proofs.lemmas.Iterator.{YieldsList}
use Rattle.std.proofs.lemmas.Iterator.Consumers.{YieldsList-from_shown, nth_from_yields_List}
use Rattle.fault.specs.declared.Fault.TheVariants.{NoSuchBlock}
use Rattle.wire.specs.Packets.{Numbered, carried, blocks_of, messages_from}
use Rattle.wire.specs.Blocks.{numbered, to_come, Step, block_of, found}
use Rattle.wire.specs.declared.packet.Block.{Block}
use Rattle.wire.specs.declared.packet.Blocks.{Blocks}
use Rattle.wire.proofs.Walks.{length-messages}
use Rattle.wire.proofs.packet.Packet.block.Goals as goal

-- a walk gives the messages to come
walk_gives : (w : Blocks) → YieldsList Step numbered w (to_come w)
walk_gives = YieldsList-from_shown Step numbered to_come (λ s t n. ap length n.0) (λ s b t e. e)

answered : (r : Option Block) (ms : List Numbered) (k blocks : ℕ) → option_map numbered r ≡ slice_get ms k → blocks ≡ length ms → found (ok_or r (NoSuchBlock blocks)) ≡ block_of ms k
answered None ms k blocks e n = rw (← e, n) refl
answered (Some b) ms k blocks e n = rw (← e) refl

pub returns : goal.returns
returns c =
    let bs = c.args.self.now.bytes.now in
    let n = blocks_of bs in
    let ms = messages_from bs 0 n in
    let there = rw (c.blocks-2.ensures, c.from.ensures) at (nth_from_yields_List _ _ _ c.nth.ensures.ran (walk_gives c.blocks-2.result)) in
    let many = c.blocks_carried-blocks.ensures ∙ ap carried c.count.ensures ∙ sym (length-messages bs 0 n) in
    ap found c.ok_or.ensures.value ∙ answered c.nth.result ms c.args.k _ there many
