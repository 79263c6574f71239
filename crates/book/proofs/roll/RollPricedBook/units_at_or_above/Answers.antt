use Rattle.std.proofs.Common.{◌≡◌, ◌^◌, ◌<◌, List, get_or, sum_by, subst, refl, rules, tests, arith}
use Rattle.std.proofs.lemmas.Fn.{fold_over, slice_gives, fronts}
use Rattle.std.proofs.lemmas.Iterator.{YieldsList-from_slice}
use Rattle.std.proofs.lemmas.Iterator.Adapters.{serves_from_total}
use Rattle.std.proofs.lemmas.List.Sums.{sum_by-le}
use Rattle.book.specs.declared.bid.Bid.{Bid}
use Rattle.book.specs.Books.{units_from}
use Rattle.book.proofs.Passes.{units_push}
use Rattle.book.proofs.roll.RollPricedBook.units_at_or_above.Goals as goal

-- no bid has more than 999999 units, and there are 65536 at the most
pub fold-requires-clause-callable : goal.fold-requires-clause-callable
fold-requires-clause-callable c =
    let s = c.args.self.now in
    let bids = s.bids.items in
    let all = sum_by-le (λ (b : Bid). b.units) 999999 bids (λ k d l. (get_or bids k d).fit.1) in
    let fits : sum_by (λ (b : Bid). b.units) bids < 2 ^ 64 = omega (arith, s.few, s.count, all) in
    serves_from_total (YieldsList-from_slice bids cc) (λ (b : Bid). b.units) (λ n x q k. search (rules, tests)) (λ n x h. search rules)

-- after each call the units of the bids so far
pub returns : goal.returns
returns c =
    let p = c.args.price in
    subst (λ (bids : List Bid). c.fold.result ≡ units_from p bids) (cc)
    (fold_over fronts (λ y. y.now) _ (λ bids n. n ≡ units_from p bids) _ (λ bids n x r f' h k. let more = units_push p bids x.now in search (rules, tests))
    _ c.iter.result.rest.now _ _ (slice_gives c.iter.result) refl c.fold.ensures.ran)
