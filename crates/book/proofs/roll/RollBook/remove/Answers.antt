use Rattle.std.proofs.Common.{◌<◌, ◌∙◌}
use Rattle.std.proofs.lemmas.List.Quantifiers.{all_pairs_remove}
use Rattle.book.specs.declared.bid.Bid.{Bid}
use Rattle.book.proofs.Searches.{removed}
use Rattle.book.proofs.roll.RollBook.remove.Goals as goal

pub invariant_of-self-clause-ascend : goal.invariant_of-self-clause-ascend
invariant_of-self-clause-ascend c =
    let s = c.args.self.now in
    let found = rw c.in_ok-at.ensures.ok_part at c.place.ensures in
    rw c.remove.ensures.items (all_pairs_remove (λ (a b : Bid). a.number < b.number) s.bids.items c.in_ok-at.at found.0 s.ascend)

pub returns-clause-after : goal.returns-clause-after
returns-clause-after c =
    let s = c.args.self.now in
    let found = rw c.in_ok-at.ensures.ok_part at c.place.ensures in
    c.remove.ensures.items ∙ removed s.bids.items s.ascend c.args.number c.in_ok-at.at found.0 found.1
