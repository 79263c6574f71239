-- One step of a pass over the bids, for whoever writes another book: x is read at the place i.
use Rattle.std.proofs.Common.{◌≡◌, ℕ, ◌+◌, ◌<◌, ◌≤◌, max, true, false, cond, ◌&&◌, eqb, leb, Bool, List, [], ◌∷◌, ◌++◌, map, length, get_or, take, drop, Some, filter, fold, sum_by, sym, refl, ap, ◌∙◌, arith}
use Rattle.std.specs.List.{list_all, zip}
use Rattle.std.specs.Str.{bytes_eq}
use Rattle.std.proofs.lemmas.List.{get_or-drop, get_or_default, at_drop_more, length-drop, take_all, take_more}
use Rattle.std.proofs.lemmas.List.Elements.{All-filter, All-map, filter-append}
use Rattle.std.proofs.lemmas.List.Sums.{sum_by-append, fold_more}
use Rattle.std.proofs.lemmas.Bool.{cond-true, cond-false}
use Rattle.book.specs.declared.bid.Bid.{Bid}
use Rattle.book.specs.Books.{Ascend, least, number_with, units_from, limit_to}
use Rattle.book.proofs.Filters.{sum_kept_more, unless0, greatest_kept}
use Rattle.book.proofs.Searches.{fold_least}

-- the highest limit at or below a price, with 0 for none
abbrev pub highest : ℕ → List Bid → ℕ
highest p bids = fold (λ m b. max m (cond (leb b.limit p) b.limit 0)) 0 bids

-- one bid more
pub units_push : (p : ℕ) (bids : List Bid) (b : Bid) → units_from p (bids ++ b ∷ []) ≡ units_from p bids + cond (leb p b.limit) b.units 0
units_push p bids b =
    let units : Bid → ℕ = λ x. x.units in
    let q : Bid → Bool = λ x. leb p x.limit in
    ap (sum_by units) (filter-append q bids (b ∷ [])) ∙ omega (arith, sum_by-append units (filter q bids) (filter q (b ∷ [])), sum_kept_more units q b [])

module _ (xs : List Bid) (i : ℕ) (x : Bid) (l : i < length xs) (is : x ≡ get_or xs i x) where
  pub units_more : (p : ℕ) → units_from p (take (i + 1) xs) ≡ units_from p (take i xs) + cond (leb p x.limit) x.units 0
  units_more p = ap (units_from p) (rw (← is) at (take_more xs i x l)) ∙ units_push p (take i xs) x

  pub highest_more : (p : ℕ) → highest p (take (i + 1) xs) ≡ max (highest p (take i xs)) (cond (leb x.limit p) x.limit 0)
  highest_more p = fold_more (λ m b. max m (cond (leb b.limit p) b.limit 0)) 0 xs i x l ∙ ap (λ (y : Bid). max (highest p (take i xs)) (cond (leb y.limit p) y.limit 0)) (sym is)

  from_here : (t : List ℕ) → number_with t (drop i xs) ≡ number_with t (x ∷ drop (i + 1) xs)
  from_here t = at_drop_more (number_with t) xs i x l ∙ ap (λ (y : Bid). number_with t (y ∷ drop (i + 1) xs)) (sym is)

  pub token_other : (t : List ℕ) → bytes_eq x.token t ≡ false → number_with t (drop (i + 1) xs) ≡ number_with t (drop i xs)
  token_other t e = sym (from_here t ∙ ap (λ (ys : List Bid). least (map (λ b. b.number) ys)) (cond-false _ _ _ e))

  pub token_here : (t : List ℕ) → Ascend xs → bytes_eq x.token t ≡ true → number_with t (drop i xs) ≡ Some x.number
  token_here t up e =
      let rest = drop (i + 1) xs in
      let kept = filter (λ (b : Bid). bytes_eq b.token t) rest in
      let later = All-map (λ n. x.number ≤ n) (λ (b : Bid). b.number) kept (All-filter (λ b. bytes_eq b.token t) (λ b. x.number ≤ b.number) rest (λ k d h.
      let q : i + 1 + k < length xs = omega (arith, length-drop (i + 1) xs) in
      let at = ap (λ (b : Bid). b.number) (get_or-drop (i + 1) xs k d) in
      let me = ap (λ (b : Bid). b.number) (is ∙ get_or_default xs i x d l) in
      omega (arith, up i (i + 1 + k) d (omega arith) q))) in
      from_here t ∙ ap (λ (ys : List Bid). least (map (λ b. b.number) ys)) (cond-true _ _ _ e) ∙ ap Some (fold_least x.number (map (λ (b : Bid). b.number) kept) later)

-- a pass that has come to the end
pub limit_all : (p : ℕ) (bids : List Bid) (i n : ℕ) → length bids ≤ i → n ≡ highest p (take i bids) → limit_to p bids ≡ unless0 n
limit_all p bids i n l e = greatest_kept (λ (b : Bid). b.limit) (λ b. leb b.limit p) bids (λ k d h. (get_or bids k d).fit.2) ∙ ap unless0 (sym (e ∙ ap (highest p) (take_all i bids l)))

-- two lists compared byte by byte, to the end
pub same_bytes : (a b : List ℕ) → length a ≡ length b → list_all (λ p. eqb p.0 p.1) (zip a b) ≡ bytes_eq a b
same_bytes [] [] e = refl
same_bytes [] (y ∷ b) e = absurd (omega arith)
same_bytes (x ∷ a) [] e = absurd (omega arith)
same_bytes (x ∷ a) (y ∷ b) e = ap (λ t. eqb x y && t) (same_bytes a b (omega arith))
