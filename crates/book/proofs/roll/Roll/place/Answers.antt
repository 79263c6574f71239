use Rattle.std.proofs.Common.{rules}
use Rattle.std.specs.Ordering.{nat_cmp}
use Rattle.std.proofs.lemmas.Fn.{always_returns_same}
use Rattle.book.proofs.Searches.{searched}
use Rattle.book.proofs.roll.Roll.place.Goals as goal

pub returns : goal.returns
returns c =
    let s = c.args.self.now in
    let facts = c.binary_search_by.ensures in
    let by_number = facts.position (λ b. nat_cmp b.number c.args.number) (always_returns_same _ _ _ (λ b r f called. search rules)) in
    rw (c.ok.ensures.value, ← c.deref.ensures.value) (searched _ (rw c.deref.ensures.value s.ascend) c.args.number _ facts.bound by_number)
