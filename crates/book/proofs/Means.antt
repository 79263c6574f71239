-- The answers of a book mean what they say.
use Rattle.std.proofs.Common.{◌≡◌, ℕ, ◌+◌, ◌<◌, ◌≤◌, min, max, true, cond, eqb, leb, ltb, List, [], ◌∷◌, Some, None, Option, sum_by, refl, ap, ◌∙◌, ⊎_elim, arith}
use Rattle.std.specs.Str.{bytes_eq}
use Rattle.std.proofs.lemmas.List.Elements.{All-weaker}
use Rattle.std.proofs.lemmas.List.MinMax.{IsStrictWeakOrder-by_number, IsStrictWeakOrder-flip}
use Rattle.std.proofs.lemmas.Slice.Eq.{bytes_eq-Decides}
use Rattle.std.proofs.lemmas.Bool.{cases_lt, cond-false, leb-true, le-leb, lt-leb, ltb-false}
use Rattle.std.proofs.lemmas.Bool.Decides.{nat_tests}
use Rattle.book.specs.declared.bid.Bid.{Bid}
use Rattle.book.specs.Books.{units_from}
use Rattle.book.specs.Laws.{Lowest, Highest, units_at, Answers}
use Rattle.book.proofs.Filters.{sum_kept_more, Best, best_kept}

-- ---- units by the cent
one_cent : (p : ℕ) (b : Bid) → cond (leb p b.limit) b.units 0 ≡ cond (leb (p + 1) b.limit) b.units 0 + cond (eqb b.limit p) b.units 0
one_cent p b = grind (arith, nat_tests)

units_level : (p : ℕ) (bids : List Bid) → units_from p bids ≡ units_from (p + 1) bids + units_at p bids
units_level p [] = refl
units_level p (b ∷ bids) = omega (
  arith,
  one_cent p b,
  units_level p bids,
  sum_kept_more (λ (x : Bid). x.units) (λ x. leb p x.limit) b bids,
  sum_kept_more (λ (x : Bid). x.units) (λ x. leb (p + 1) x.limit) b bids,
  sum_kept_more (λ (x : Bid). x.units) (λ x. eqb x.limit p) b bids,
)

units_none : (p : ℕ) → 19999999 < p → (bids : List Bid) → units_from p bids ≡ 0
units_none p h [] = refl
units_none p h (b ∷ bids) = ap (sum_by (λ (x : Bid). x.units)) (cond-false _ _ _ (lt-leb p b.limit (omega (arith, b.fit.3)))) ∙ units_none p h bids

-- ---- the two questions
lowest_of : (t : List ℕ) (bids : List Bid) (r : Option ℕ) → Best (λ b. b.number) (λ b. bytes_eq b.token t) ◌≤◌ bids r → Lowest t bids r
lowest_of t bids None h = All-weaker (λ b. bytes_eq b.token t ≡ true → ⊥) (λ b. b.token ≡ t → ⊥) (λ b no s. no ((bytes_eq-Decides b.token t).1 s)) bids h
lowest_of t bids (Some n) (found, least) = (
  (found.0, found.1, found.2, found.3, ((bytes_eq-Decides found.1.token t).0 found.4.0, found.4.1)),
  All-weaker (λ b. bytes_eq b.token t ≡ true → n ≤ b.number) (λ b. b.token ≡ t → n ≤ b.number) (λ b w s. w ((bytes_eq-Decides b.token t).1 s)) bids least,
)

highest_of : (p : ℕ) (bids : List Bid) (r : Option ℕ) → Best (λ b. b.limit) (λ b. leb b.limit p) (λ m k. k ≤ m) bids r → Highest p bids r
highest_of p bids None h = All-weaker (λ b. leb b.limit p ≡ true → ⊥) (λ b. p < b.limit)
    (λ b no. ⊎_elim (λ lt. lt) (λ ge. absurd (no (le-leb b.limit p ge))) (cases_lt p b.limit)) bids h
highest_of p bids (Some l) (found, most) = (
  omega (arith, leb-true found.1.limit p found.4.0, found.4.1),
  (found.0, found.1, found.2, found.3, found.4.1),
  All-weaker (λ b. leb b.limit p ≡ true → b.limit ≤ l) (λ b. b.limit ≤ p → b.limit ≤ l) (λ b w s. w (le-leb b.limit p s)) bids most,
)

pub answers : (bids : List Bid) → Answers bids
answers bids = record {
  lowest = λ t. lowest_of t bids _ (best_kept (λ b. b.number) (λ b. bytes_eq b.token t) (λ x y. ltb x y) (IsStrictWeakOrder-by_number (λ x. x)) min (λ a x. grind (arith, nat_tests)) ◌≤◌ (λ k m. ltb-false k m) bids);
  highest = λ p. highest_of p bids _ (best_kept (λ b. b.limit) (λ b. leb b.limit p) (λ x y. ltb y x) (IsStrictWeakOrder-flip ltb (IsStrictWeakOrder-by_number (λ x. x))) max (λ a x. grind (arith, nat_tests)) (λ m k. k ≤ m) (λ k m. ltb-false m k) bids);
  level = λ p. units_level p bids;
  none = λ p h. units_none p h bids;
}
