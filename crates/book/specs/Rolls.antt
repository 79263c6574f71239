-- A roll as the book that it is.
use Rattle.std.specs.Prelude.{ℕ, List}
use Rattle.book.specs.declared.bid.Bid.{Bid}
use Rattle.book.specs.declared.roll.Roll.{Roll}
use Rattle.book.specs.contracts.roll.RollBook.TheImpl.{bids-value, capacity-value}

-- its live bids
abbrev pub bids_in : Roll → List Bid
bids_in roll = bids-value.it roll

-- its capacity
abbrev pub capacity_in : Roll → ℕ
capacity_in roll = capacity-value.it roll
