-- Bids by their fields, and a bid or none.
use Rattle.std.specs.Prelude.{ℕ, Bool, cond, ◌&&◌, List, Some, None, Option, nat_le}
use Rattle.book.specs.declared.bid.Bid.{Bid}
use Rattle.book.specs.declared.bid.Found.{Found}

-- the bid that a record answers, or none; what its bid holds where the flag is down is free
abbrev pub bid_of : Found → Option Bid
bid_of r = cond r.found (Some r.bid) None

-- a bid as plain data
pub record Fields : Type 0 where
  pub number : ℕ
  pub token : List ℕ
  pub firm : List ℕ
  pub units : ℕ
  pub limit : ℕ

abbrev pub fields_of : Bid → Fields
fields_of b = record { number = b.number; token = b.token; firm = b.firm; units = b.units; limit = b.limit }

abbrev pub fields_in : Option Bid → Option Fields
fields_in None = None
fields_in (Some b) = Some (fields_of b)

-- units and a limit that a bid may have
abbrev pub in_range : ℕ → ℕ → Bool
in_range units limit = nat_le 1 units && nat_le units 999999 && nat_le 1 limit && nat_le limit 19999999

-- the bid with these fields, or none where there is no such bid
abbrev pub bid_with : ℕ → List ℕ → List ℕ → ℕ → ℕ → Option Fields
bid_with number token firm units limit = cond (in_range units limit)
    (Some (record { number = number; token = token; firm = firm; units = units; limit = limit }))
    None
