-- What a book means, over its live bids in order of number, its capacity and its top.
use Rattle.std.specs.Prelude.{ℕ, ◌<◌, ◌≤◌, min, max, Bool, not, List, [], ◌∷◌, ◌++◌, map, length, Ok, Err, fold, sum_by, filter, Option, Result, ◌==◌, nat_le, nat_lt}
use Rattle.std.specs.List.{All, AllPairs, list_any, list_all, reduce}
use Rattle.std.specs.Str.{bytes_eq}
use Rattle.fault.specs.declared.Fault.{Fault}
use Rattle.fault.specs.declared.Fault.TheVariants.{AboveTop, BookFull, NotAboveLast, NotFound}
use Rattle.fault.specs.Checks.{checked}
use Rattle.book.specs.declared.bid.Bid.{Bid}

-- numbers ascend strictly from place to place
abbrev pub Ascend : List Bid → Type 0
Ascend bids = AllPairs (λ a b. a.number < b.number) bids

-- what holds of every book at all times
pub record Sound (bids : List Bid) (capacity top : ℕ) : Type 0 where
  pub ascend : Ascend bids
  pub limits : All (λ b. b.limit ≤ top) bids
  pub count : length bids ≤ capacity
  pub highest : top ≤ 19999999

-- whether a live bid has the number n
abbrev pub has_number : ℕ → List Bid → Bool
has_number n bids = list_any (λ b. b.number == n) bids

-- whether n is above every live number
abbrev pub above_all : ℕ → List Bid → Bool
above_all n bids = list_all (λ b. nat_lt b.number n) bids

-- the number of the last live bid, 0 where there is none
abbrev pub last_number : List Bid → ℕ
last_number bids = fold (λ _ b. b.number) 0 bids

-- what adding a bid answers: limit above the top; number not above every live number; count equal to the capacity
abbrev pub add_answer : List Bid → ℕ → ℕ → Bid → Result (Unit {0}) Fault
add_answer bids capacity top bid = checked (
    (nat_lt top bid.limit, AboveTop top) ∷
    (not (above_all bid.number bids), NotAboveLast (last_number bids)) ∷
    ((length bids == capacity), BookFull capacity) ∷ []) tt

-- the live bids after that answer: one more, the last, or as they were
abbrev pub after_add : List Bid → Bid → Result (Unit {0}) Fault → List Bid
after_add bids bid (Ok _) = bids ++ bid ∷ []
after_add bids bid (Err _) = bids

-- what removing a number answers: no live bid has it
abbrev pub remove_answer : List Bid → ℕ → Result (Unit {0}) Fault
remove_answer bids n = checked ((not (has_number n bids), NotFound n) ∷ []) tt

-- the live bids after that answer: those with other numbers, in their order, or as they were
abbrev pub after_remove : List Bid → ℕ → Result (Unit {0}) Fault → List Bid
after_remove bids n (Ok _) = filter (λ b. not (b.number == n)) bids
after_remove bids n (Err _) = bids

-- the least and the greatest of some numbers
abbrev pub least : List ℕ → Option ℕ
least ns = reduce min ns

abbrev pub greatest : List ℕ → Option ℕ
greatest ns = reduce max ns

-- the lowest number of a live bid with the token t
abbrev pub number_with : List ℕ → List Bid → Option ℕ
number_with t bids = least (map (λ b. b.number) (filter (λ b. bytes_eq b.token t) bids))

-- the units of all live bids with a limit at or above p
abbrev pub units_from : ℕ → List Bid → ℕ
units_from p bids = sum_by (λ b. b.units) (filter (λ b. nat_le p b.limit) bids)

-- the highest limit of a live bid at or below p
abbrev pub limit_to : ℕ → List Bid → Option ℕ
limit_to p bids = greatest (map (λ b. b.limit) (filter (λ b. nat_le b.limit p) bids))
