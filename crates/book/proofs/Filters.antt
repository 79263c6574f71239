-- What a test keeps of a list: sums, the best number, and all but one place.
use Rattle.std.proofs.Common.{◌≡◌, ℕ, zero, suc, ◌+◌, ◌<◌, ◌≤◌, max, Bool, true, false, cond, ltb, List, [], ◌∷◌, map, length, get_or, Some, None, Option, fold, sum_by, filter, sym, refl, ap, ◌∙◌, subst, ⊎_elim, arith}
use Rattle.std.specs.Cmp.{IsStrictWeakOrder}
use Rattle.std.specs.List.{remove, reduce, All, Any, Contains}
use Rattle.std.proofs.lemmas.List.{get_or_default}
use Rattle.std.proofs.lemmas.List.Elements.{All-nil, All-cons, All-head, All-same, All-tail, All-weaker}
use Rattle.std.proofs.lemmas.List.Folds.{fold_along}
use Rattle.std.proofs.lemmas.List.MinMax.{IsFirstBest-from_best_of}
use Rattle.std.proofs.lemmas.List.Sums.{sum_by-cons}
use Rattle.std.proofs.lemmas.Map.Made.{Contains-tail}
use Rattle.std.proofs.lemmas.Bool.{cases_Bool, cases_eq, cond-true, cond-false, both_ways}
use Rattle.std.proofs.lemmas.Bool.Decides.{nat_tests}
use Rattle.book.specs.Books.{greatest}

-- ---- sums
-- one element more, kept or not
pub sum_kept_more : {X : Type 0} (f : X → ℕ) (q : X → Bool) (x : X) (xs : List X) → sum_by f (filter q (x ∷ xs)) ≡ cond (q x) (f x) 0 + sum_by f (filter q xs)
sum_kept_more f q x xs = ⊎_elim (λ t. grind (arith, t, sum_by-cons f x (filter q xs))) (λ e. grind (arith, e)) (cases_Bool (q x))

pub sum_kept : {X : Type 0} (f : X → ℕ) (q : X → Bool) (xs : List X) → sum_by f (filter q xs) ≡ sum_by (λ x. cond (q x) (f x) 0) xs
sum_kept f q [] = refl
sum_kept f q (x ∷ xs) = sum_kept_more f q x xs ∙ ap (λ n. cond (q x) (f x) 0 + n) (sum_kept f q xs) ∙ sym (sum_by-cons (λ y. cond (q y) (f y) 0) x xs)

-- ---- the greatest, with 0 for none
abbrev pub unless0 : ℕ → Option ℕ
unless0 n = cond (ltb 0 n) (Some n) None

from_start : (a : ℕ) (ns : List ℕ) → a ≤ fold max a ns
from_start a [] = omega arith
from_start a (n ∷ ns) = omega (arith, from_start (max a n) ns)

module _ {X : Type 0} (f : X → ℕ) (q : X → Bool) where
  max_kept : (xs : List X) (a : ℕ) → fold max a (map f (filter q xs)) ≡ fold (λ m x. max m (cond (q x) (f x) 0)) a xs
  max_kept [] a = refl
  max_kept (x ∷ xs) a = ⊎_elim
      (λ t. grind (arith, t, max_kept xs (max a (f x))))
      (λ e. let same : max a 0 ≡ a = omega arith in grind (arith, e, max_kept xs a))
      (cases_Bool (q x))

  greatest_from_0 : (xs : List X) → All (λ x. 1 ≤ f x) xs → greatest (map f (filter q xs)) ≡ unless0 (fold max 0 (map f (filter q xs)))
  greatest_from_0 [] h = refl
  greatest_from_0 (x ∷ xs) h = ⊎_elim
      (λ t. let ns = map f (filter q xs) in
      let same : max 0 (f x) ≡ f x = omega arith in
      grind (arith, nat_tests, t, same, All-head (λ y. 1 ≤ f y) x xs h, from_start (f x) ns))
      (λ e. grind (arith, e, greatest_from_0 xs (All-tail (λ y. 1 ≤ f y) x xs h)))
      (cases_Bool (q x))

  -- of what a test keeps, by one pass over the whole list
  pub greatest_kept : (xs : List X) → All (λ x. 1 ≤ f x) xs → greatest (map f (filter q xs)) ≡ unless0 (fold (λ m x. max m (cond (q x) (f x) 0)) 0 xs)
  greatest_kept xs h = greatest_from_0 xs h ∙ ap unless0 (max_kept xs 0)

-- ---- the best of some numbers, which op picks of two
module _ (beats : ℕ → ℕ → Bool) (order : IsStrictWeakOrder beats) (op : ℕ → ℕ → ℕ) (picks : (a x : ℕ) → op a x ≡ cond (beats x a) x a) where
  -- it is one of them, and none beats it
  pub best_of_all : (n : ℕ) (ns : List ℕ) → Contains (n ∷ ns) (fold op n ns) × All (λ m. beats m (fold op n ns) ≡ false) (n ∷ ns)
  best_of_all n ns =
      let best = IsFirstBest-from_best_of order n ns in
      let same = fold_along op (λ a x. cond (beats x a) x a) (λ a b. a ≡ b) (λ a b x e. picks a x ∙ ap (λ y. cond (beats x y) x y) e) n n ns refl in
      let here : (d : ℕ) → get_or (n ∷ ns) best.0 d ≡ fold op n ns = λ d. get_or_default (n ∷ ns) best.0 d n best.1.0 ∙ best.2 ∙ sym same in
      ((best.0, best.1.0, here (fold op n ns)), λ k d l. sym (ap (beats (get_or (n ∷ ns) k d)) (here d)) ∙ best.1.1 k d l)

-- ---- from what a test keeps back to the list
module _ {X : Type 0} (f : X → ℕ) (q : X → Bool) where
  pub all_back : (P : ℕ → Type 0) (xs : List X) → All P (map f (filter q xs)) → All (λ x. q x ≡ true → P (f x)) xs
  all_back P [] h = All-nil (λ x. q x ≡ true → P (f x))
  all_back P (x ∷ xs) h = ⊎_elim
      (λ t. let kept = subst (λ (ys : List X). All P (map f ys)) (cond-true _ _ _ t) h in
      All-cons (λ y. q y ≡ true → P (f y)) x xs (λ _. All-head P (f x) (map f (filter q xs)) kept) (all_back P xs (All-tail P (f x) (map f (filter q xs)) kept)))
      (λ e. All-cons (λ y. q y ≡ true → P (f y)) x xs (λ t. absurd (both_ways _ e t)) (all_back P xs (subst (λ (ys : List X). All P (map f ys)) (cond-false _ _ _ e) h)))
      (cases_Bool (q x))

  there : (P : X → Type 0) (x : X) (xs : List X) → Any P xs → Any P (x ∷ xs)
  there P x xs h = (suc h.0, h.1, omega (arith, h.2), h.3, h.4)

  pub any_back : (m : ℕ) (xs : List X) → Contains (map f (filter q xs)) m → Any (λ x. (q x ≡ true) × (f x ≡ m)) xs
  any_back m [] h = absurd (omega (arith, h.1))
  any_back m (x ∷ xs) h = ⊎_elim
      (λ t. let kept = subst (λ (ys : List X). Contains (map f ys) m) (cond-true _ _ _ t) h in
      ⊎_elim
      (λ e. (0, x, omega arith, refl, (t, e)))
      (λ ne. there (λ y. (q y ≡ true) × (f y ≡ m)) x xs (any_back m xs (Contains-tail (f x) (map f (filter q xs)) m ne kept)))
      (cases_eq (f x) m))
      (λ e. there (λ y. (q y ≡ true) × (f y ≡ m)) x xs (any_back m xs (subst (λ (ys : List X). Contains (map f ys) m) (cond-false _ _ _ e) h)))
      (cases_Bool (q x))

-- ---- the best number of what a test keeps
module _ {X : Type 0} (f : X → ℕ) (q : X → Bool) where
  -- r is the number of some x that passes and stands in R to that of each, or none passes
  abbrev pub Best : (ℕ → ℕ → Type 0) → List X → Option ℕ → Type 0
  Best R xs None = All (λ x. q x ≡ true → ⊥) xs
  Best R xs (Some m) = Any (λ x. (q x ≡ true) × (f x ≡ m)) xs × All (λ x. q x ≡ true → R m (f x)) xs

  module _ (beats : ℕ → ℕ → Bool) (order : IsStrictWeakOrder beats) (op : ℕ → ℕ → ℕ) (picks : (a x : ℕ) → op a x ≡ cond (beats x a) x a) (R : ℕ → ℕ → Type 0) (stands : (k m : ℕ) → beats k m ≡ false → R m k) where
    best_of : (xs : List X) (ns : List ℕ) → map f (filter q xs) ≡ ns → Best R xs (reduce op ns)
    best_of xs [] e = all_back f q (λ _. ⊥) xs (All-same (λ _. ⊥) _ [] e (All-nil (λ _. ⊥)))
    best_of xs (n ∷ ns) e =
        let m = fold op n ns in
        let best = best_of_all beats order op picks n ns in (
          any_back f q m xs (subst (λ (ys : List ℕ). Contains ys m) (sym e) best.0),
          all_back f q (R m) xs (All-same (R m) _ (n ∷ ns) e (All-weaker (λ k. beats k m ≡ false) (R m) (λ k. stands k m) (n ∷ ns) best.1)),
        )

    pub best_kept : (xs : List X) → Best R xs (reduce op (map f (filter q xs)))
    best_kept xs = best_of xs _ refl

-- ---- a filter that keeps all, or all but one place
module _ {X : Type 0} (q : X → Bool) where
  pub kept_all : (xs : List X) → All (λ x. q x ≡ true) xs → filter q xs ≡ xs
  kept_all [] h = refl
  kept_all (x ∷ xs) h = cond-true _ _ _ (h 0 x (omega arith)) ∙ ap (λ ys. x ∷ ys) (kept_all xs (All-tail (λ y. q y ≡ true) x xs h))

  pub kept_others : (xs : List X) (at : ℕ) → at < length xs → ((d : X) → q (get_or xs at d) ≡ false) → ((k : ℕ) (d : X) → k < length xs → (k ≡ at → ⊥) → q (get_or xs k d) ≡ true) → filter q xs ≡ remove xs at
  kept_others [] at l out rest = absurd (omega arith)
  kept_others (x ∷ xs) zero l out rest =
      cond-false _ _ _ (out x) ∙ kept_all xs (λ k d h. rest (suc k) d (omega arith) (λ e. absurd (omega arith)))
  kept_others (x ∷ xs) (suc at) l out rest =
      cond-true _ _ _ (rest 0 x (omega arith) (λ e. absurd (omega arith))) ∙ ap (λ ys. x ∷ ys) (kept_others xs at (omega arith) out (λ k d h ne. rest (suc k) d (omega arith) (λ e. ne (omega arith))))
