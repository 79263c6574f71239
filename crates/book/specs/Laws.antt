-- What a book's answers mean, as relations to its live bids. Code that knows only the traits may use them of every book.
use Rattle.std.specs.Prelude.{◌≡◌, ℕ, ◌+◌, ◌<◌, ◌≤◌, List, Some, None, sum_by, filter, Option, ◌≢◌, nat_eq}
use Rattle.std.specs.List.{All, Any}
use Rattle.book.specs.declared.bid.Bid.{Bid}
use Rattle.book.specs.Books.{number_with, units_from, limit_to}

-- r is the lowest number of a live bid with the token t, or there is no such bid
abbrev pub Lowest : List ℕ → List Bid → Option ℕ → Type 0
Lowest t bids None = All (λ b. b.token ≢ t) bids
Lowest t bids (Some n) = Any (λ b. (b.token ≡ t) × (b.number ≡ n)) bids × All (λ b. b.token ≡ t → n ≤ b.number) bids

-- r is the highest limit of a live bid at or below p, or there is no such bid
abbrev pub Highest : ℕ → List Bid → Option ℕ → Type 0
Highest p bids None = All (λ b. p < b.limit) bids
Highest p bids (Some l) = (l ≤ p) × Any (λ b. b.limit ≡ l) bids × All (λ b. b.limit ≤ p → b.limit ≤ l) bids

-- the units of the live bids with the limit p
abbrev pub units_at : ℕ → List Bid → ℕ
units_at p bids = sum_by (λ b. b.units) (filter (λ b. nat_eq b.limit p) bids)

pub record Answers (bids : List Bid) : Type 0 where
  pub lowest : (t : List ℕ) → Lowest t bids (number_with t bids)
  pub highest : (p : ℕ) → Highest p bids (limit_to p bids)
  -- one cent down, the units at that cent come in
  pub level : (p : ℕ) → units_from p bids ≡ units_from (p + 1) bids + units_at p bids
  -- above all prices there are none
  pub none : (p : ℕ) → 19999999 < p → units_from p bids ≡ 0
