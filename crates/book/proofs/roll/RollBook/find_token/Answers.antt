use Rattle.std.proofs.Common.{◌≡◌, rules, ◌∙◌}
use Rattle.std.specs.Option.{option_map}
use Rattle.std.specs.Str.{bytes_eq}
use Rattle.std.proofs.lemmas.Iterator.{YieldsList-from_slice}
use Rattle.std.proofs.lemmas.Iterator.Search.{find_from_yields_List}
use Rattle.book.specs.declared.bid.Bid.{Bid}
use Rattle.book.proofs.Searches.{first_is_lowest}
use Rattle.book.proofs.roll.RollBook.find_token.Goals as goal

pub returns : goal.returns
returns c =
    let s = c.args.self.now in
    let t = c.args.token.now in
    let found = find_from_yields_List (λ (b : Bid). bytes_eq b.token t) _ _ c.find.result c.find.ensures.ran (YieldsList-from_slice s.bids.items cc) (λ x b q k. search rules) in
    let first : c.map.result ≡ option_map (λ (b : Bid). b.number) (option_map (λ b. b.now) c.find.result) = search rules in
    first ∙ rw found (first_is_lowest t s.bids.items s.ascend)
