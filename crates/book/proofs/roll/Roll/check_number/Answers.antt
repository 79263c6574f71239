use Rattle.std.proofs.Common.{◌≡◌, true, refl}
use Rattle.book.specs.Books.{above_all}
use Rattle.book.proofs.Searches.{above_last_bid}
use Rattle.book.proofs.roll.Roll.check_number.Goals as goal

pub returns-in_default : goal.returns-in_default
returns-in_default c =
    let s = c.args.self.now in
    let end = rw c.deref.ensures.value at c.last.ensures.value in
    let above : above_all c.args.number s.bids.items ≡ true = above_last_bid s.bids.items c.in-Some.last.now (cc end) c.args.number s.ascend c.if-number-last.false in
    rw above refl
