-- Searches among bids whose numbers ascend.
use Rattle.std.proofs.Common.{◌≡◌, ℕ, suc, ◌+◌, ◌-◌, ◌<◌, ◌≤◌, min, Bool, true, false, not, eqb, ltb, List, [], ◌∷◌, map, length, get_or, Some, Ok, Err, filter, fold, Result, MatchOption, sym, refl, ap, ◌∙◌, ⊎_elim, arith}
use Rattle.std.specs.List.{All, HoldsAt, remove, find, slice_get}
use Rattle.std.specs.List.Sorted.{IsSearchInRange, IsBinarySearchResult, IsNonDecreasingBy}
use Rattle.std.specs.Option.{option_map}
use Rattle.std.specs.Ordering.{nat_cmp, ordering_index}
use Rattle.std.specs.Result.{result_ok}
use Rattle.std.specs.Str.{bytes_eq}
use Rattle.std.proofs.lemmas.Cmp.{ranked}
use Rattle.std.proofs.lemmas.List.Elements.{All-filter, All-map, All-tail}
use Rattle.std.proofs.lemmas.List.Folds.{list_any_none}
use Rattle.std.proofs.lemmas.List.Sums.{AllPass-from_list_all, fold_more, list_all-from_AllPass}
use Rattle.std.proofs.lemmas.List.{take_all}
use Rattle.std.proofs.lemmas.Option.{slice_get_within, get_or_from_slice_get}
use Rattle.std.proofs.lemmas.Bool.{cases_Bool, cases_lt, cases_order, lt-ltb, ltb-true, both_ways, eq-eqb, ne_eqb, not_from_true, not_from_false}
use Rattle.std.proofs.lemmas.Bool.Decides.{nat_tests}
use Rattle.book.specs.declared.bid.Bid.{Bid}
use Rattle.book.specs.Books.{Ascend, has_number, above_all, last_number, number_with, after_remove}
use Rattle.book.proofs.Filters.{kept_others}

module _ (bids : List Bid) (up : Ascend bids) (n : ℕ) where
  -- the comparisons with n rise along the bids, as a binary search asks
  comparisons_rise : IsNonDecreasingBy (λ b. ordering_index (nat_cmp b.number n)) bids
  comparisons_rise i j d le l =
      let rise : (get_or bids i d).number ≤ (get_or bids j d).number = grind (arith, up i j d, λ (same : i ≡ j). ap (λ k. (get_or bids k d).number) same) in
      grind (arith, nat_tests)

  -- a binary search for the number n ends at the bid that has it, or there is none
  pub searched : (r : Result ℕ ℕ) → IsSearchInRange r (length bids) → IsBinarySearchResult (λ b. nat_cmp b.number n) bids r → MatchOption (result_ok r) (has_number n bids ≡ false) (λ k. (k < length bids) × HoldsAt (λ b. b.number ≡ n) bids k)
  searched (Ok at) l equal = (l, λ d. ranked _ n _ (sym (equal d)))
  searched (Err at) l parted = list_any_none (λ b. eqb b.number n) bids (λ k d q. ne_eqb _ n (λ e. ⊎_elim
      (λ lt. omega (arith, ranked _ n _ (sym ((parted comparisons_rise).0 k d (omega arith) lt)), e))
      (λ ge. omega (arith, ranked _ n _ (sym ((parted comparisons_rise).1 k d ge q)), e))
      (cases_lt k at)))

  -- where the bid at a place has the number n, no other has it
  pub removed : (at : ℕ) → at < length bids → HoldsAt (λ b. b.number ≡ n) bids at → remove bids at ≡ after_remove bids n (Ok tt)
  removed at l here = sym (kept_others (λ b. not (eqb b.number n)) bids at l
      (λ d. not_from_true _ (eq-eqb _ n (here d)))
      (λ k d m ne. not_from_false _ (ne_eqb _ n (λ e. ⊎_elim ne
      (⊎_elim (λ lt. omega (arith, up k at d lt l, here d, e)) (λ gt. omega (arith, up at k d gt m, here d, e)))
      (cases_order k at)))))

-- the least of numbers of which the first is the least
pub fold_least : (n : ℕ) (ns : List ℕ) → All (λ m. n ≤ m) ns → fold min n ns ≡ n
fold_least n [] h = refl
fold_least n (m ∷ ns) h =
    let e : min n m ≡ n = omega (arith, h 0 m (omega arith)) in
    ap (λ k. fold min k ns) e ∙ fold_least n ns (All-tail (λ k. n ≤ k) m ns h)

-- the first bid with a token has the lowest number
pub first_is_lowest : (t : List ℕ) (bids : List Bid) → Ascend bids → option_map (λ b. b.number) (find (λ b. bytes_eq b.token t) bids) ≡ number_with t bids
first_is_lowest t [] up = refl
first_is_lowest t (b ∷ bids) up =
    let rest = filter (λ (x : Bid). bytes_eq x.token t) bids in
    let later = All-map (λ n. b.number ≤ n) (λ (x : Bid). x.number) rest (All-filter (λ x. bytes_eq x.token t) (λ x. b.number ≤ x.number) bids (λ k d l. omega (arith, up 0 (suc k) d (omega arith) (omega arith)))) in
    ⊎_elim
    (λ h. grind (arith, h, fold_least b.number (map (λ (x : Bid). x.number) rest) later))
    (λ h. grind (arith, h, first_is_lowest t bids (λ i j d l m. up (suc i) (suc j) d (omega arith) (omega arith))))
    (cases_Bool (bytes_eq b.token t))

-- ---- the last bid
pub last_is : (xs : List Bid) (d : Bid) → 0 < length xs → last_number xs ≡ (get_or xs (length xs - 1) d).number
last_is xs d l =
    let i = length xs - 1 in
    let e : length xs ≤ i + 1 = omega arith in
    sym (ap last_number (take_all (i + 1) xs e)) ∙ fold_more (λ _ (b : Bid). b.number) 0 xs i d (omega arith)

-- above the last number is above all, and the other way round
pub above_last : (n : ℕ) (xs : List Bid) → Ascend xs → (length xs ≡ 0 → ⊥) → ltb (last_number xs) n ≡ above_all n xs
above_last n [] up some0 = absurd (some0 refl)
above_last n (x ∷ xs) up some0 =
    let bids = x ∷ xs in
    let i = length bids - 1 in
    let end : i < length bids = omega arith in
    let under : Bid → Bool = λ b. ltb b.number n in
    ⊎_elim
    (λ t. t ∙ sym (list_all-from_AllPass under bids (λ k d l. lt-ltb _ n (
    let last = last_is bids d (omega arith) in
    let lt = ltb-true _ _ t in
    ⊎_elim
    (λ before. omega (arith, up k i d before end))
    (λ at. let same : k ≡ i = omega arith in omega (arith, ap (λ j. (get_or bids j d).number) same))
    (cases_lt k i)))))
    (λ e. e ∙ sym (⊎_elim
    (λ all. absurd (both_ways _ (ap (λ m. ltb m n) (sym (last_is bids x (omega arith))) ∙ e) (AllPass-from_list_all under bids all i x end)))
    (λ no. no)
    (cases_Bool (above_all n bids))))
    (cases_Bool (ltb (last_number bids) n))

module _ (bids : List Bid) (last : Bid) (is : slice_get bids (length bids - 1) ≡ Some last) where
  -- the same of the last bid itself
  pub above_last_bid : (n : ℕ) → Ascend bids → last.number < n → above_all n bids ≡ true
  above_last_bid n up lt =
      let some0 = slice_get_within bids (length bids - 1) last is in
      let e = ap (λ (b : Bid). b.number) (get_or_from_slice_get bids (length bids - 1) last last is) in
      sym (above_last n bids up (λ none. absurd (omega arith))) ∙ lt-ltb _ n (omega (arith, last_is bids last (omega arith)))
