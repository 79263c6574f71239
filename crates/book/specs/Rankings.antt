-- Which of two bids is ahead.
use Rattle.std.specs.Prelude.{Bool, ◌&&◌, ◌||◌, ◌==◌, nat_lt}
use Rattle.book.specs.declared.bid.Bid.{Bid}

-- price-time: the higher limit; at equal limits the lower number
abbrev pub price_time : Bid → Bid → Bool
price_time a b = nat_lt b.limit a.limit || (a.limit == b.limit && nat_lt a.number b.number)

-- price-size: the higher limit; at equal limits more units; at equal units the lower number
abbrev pub price_size : Bid → Bid → Bool
price_size a b = nat_lt b.limit a.limit || (a.limit == b.limit &&
    (nat_lt b.units a.units || (a.units == b.units && nat_lt a.number b.number)))
