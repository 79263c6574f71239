-- What keeps a book sound, for whoever writes another book.
use Rattle.std.proofs.Common.{◌≡◌, ℕ, ◌+◌, ◌<◌, ◌≤◌, true, false, eqb, ltb, List, [], ◌∷◌, ◌++◌, length, Ok, Err, sym, ap, ⊎_elim, arith}
use Rattle.std.specs.List.{HoldsAt, remove}
use Rattle.std.proofs.lemmas.List.{length_push}
use Rattle.std.proofs.lemmas.List.Edits.{length-remove, get_or-remove_below, get_or-remove_above}
use Rattle.std.proofs.lemmas.List.Elements.{All-push}
use Rattle.std.proofs.lemmas.List.Folds.{list_any_at}
use Rattle.std.proofs.lemmas.List.Quantifiers.{all_pairs_push, all_pairs_remove}
use Rattle.std.proofs.lemmas.List.Sums.{AllPass-from_list_all}
use Rattle.std.proofs.lemmas.Bool.{cases_lt, ltb-true, eq-eqb, cond-true, cond-false, not_from_true, not_from_false}
use Rattle.std.proofs.lemmas.Bool.Decides.{nat_tests}
use Rattle.fault.specs.declared.Fault.TheVariants.{NotFound}
use Rattle.book.specs.declared.bid.Bid.{Bid}
use Rattle.book.specs.Books.{Sound, has_number, above_all, add_answer, remove_answer}

-- an accepted bid keeps it sound
pub sound_push : (bids : List Bid) (capacity top : ℕ) (bid : Bid) → Sound bids capacity top → add_answer bids capacity top bid ≡ Ok tt → Sound (bids ++ bid ∷ []) capacity top
sound_push bids capacity top bid s e =
    let low : bid.limit ≤ top = grind (arith, nat_tests) in
    let above : above_all bid.number bids ≡ true = grind (arith, nat_tests) in
    let room : length bids ≡ capacity → ⊥ = λ full. grind (arith, nat_tests) in
    let le = s.count in
    record {
      ascend = all_pairs_push (λ (a b : Bid). a.number < b.number) bids bid s.ascend (λ k d l. ltb-true _ _ (AllPass-from_list_all (λ b. ltb b.number bid.number) bids above k d l));
      limits = All-push (λ b. b.limit ≤ top) bids bid s.limits low;
      count = omega (arith, length_push bids bid, room);
      highest = s.highest;
    }

-- so does taking a bid out
pub sound_removed : (bids : List Bid) (capacity top at : ℕ) → at < length bids → Sound bids capacity top → Sound (remove bids at) capacity top
sound_removed bids capacity top at here s =
    let n = length-remove bids at here in
    record {
      ascend = all_pairs_remove (λ (a b : Bid). a.number < b.number) bids at here s.ascend;
      limits = λ k d l. ⊎_elim
          (λ lt. let same = ap (λ (b : Bid). b.limit) (get_or-remove_below bids at d k lt here) in omega (arith, s.limits k d (omega arith)))
          (λ ge. let same = ap (λ (b : Bid). b.limit) (get_or-remove_above bids at d k ge here) in omega (arith, s.limits (k + 1) d (omega arith)))
          (cases_lt k at);
      count = omega (arith, s.count);
      highest = s.highest;
    }

-- what removing answers where no live bid has the number, and where one has
pub remove_none : (bids : List Bid) (n : ℕ) → has_number n bids ≡ false → Err (NotFound n) ≡ remove_answer bids n
remove_none bids n e = sym (cond-true _ _ _ (not_from_false _ e))

pub remove_found : (bids : List Bid) (n at : ℕ) → at < length bids → HoldsAt (λ b. b.number ≡ n) bids at → Ok tt ≡ remove_answer bids n
remove_found [] n at l here = absurd (omega arith)
remove_found (b ∷ bids) n at l here = sym (cond-false _ _ _ (not_from_true _ (list_any_at (λ x. eqb x.number n) (b ∷ bids) at b l (eq-eqb _ n (here b)))))
