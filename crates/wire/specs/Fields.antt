-- Which values the fields of a message may have, and what they mean; None is a value that is not allowed.
use Rattle.std.specs.Prelude.{ℕ, ◌/◌, ◌%◌, cond, ◌&&◌, ◌||◌, Some, None, Option, Result, ◌==◌, nat_le}
use Rattle.std.specs.Option.{option_map, ok_or}
use Rattle.wire.specs.declared.message.Side.{Side}
use Rattle.wire.specs.declared.message.Side.TheVariants.{Buy, Sell}
use Rattle.wire.specs.declared.message.State.{State}
use Rattle.wire.specs.declared.message.State.TheVariants.{Halted, Trading}
use Rattle.wire.specs.declared.message.Terms.{Terms}
use Rattle.wire.specs.declared.message.Terms.TheVariants.{Bid, Sale}
use Rattle.wire.specs.declared.message.NotAllowed.{NotAllowed}

-- the value, or the error that says there is none
abbrev pub or_not_allowed : {X : Type 0} → Option X → Result X NotAllowed
or_not_allowed o = ok_or o (record {})

-- B a bid, S a sale
abbrev pub side_of : ℕ → Option Side
side_of b = cond (b == 66) (Some Buy) (cond (b == 83) (Some Sell) None)

-- H, P and Q halted, T trading
abbrev pub state_of : ℕ → Option State
state_of b = cond (b == 72 || (b == 80 || b == 81)) (Some Halted) (cond (b == 84) (Some Trading) None)

-- 1 to 999,999
abbrev pub units_of : ℕ → Option ℕ
units_of n = cond (nat_le 1 n && nat_le n 999999) (Some n) None

-- ten-thousandths of a dollar, a multiple of 100 from 100 to 1,999,999,900, in whole cents
abbrev pub cents_of : ℕ → Option ℕ
cents_of n = cond (nat_le 100 n && (nat_le n 1999999900 && n % 100 == 0)) (Some (n / 100)) None

-- on a sale 7FFFFFFF means no limit
abbrev pub terms_of : Side → ℕ → Option Terms
terms_of Buy n = option_map Bid (cents_of n)
terms_of Sell n = cond (n == 0x7FFFFFFF) (Some (Sale None)) (option_map (λ c. Sale (Some c)) (cents_of n))
