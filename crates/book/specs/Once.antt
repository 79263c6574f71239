-- That a book is sound holds in one way at most, so that it comes out of a ghost field.
use Rattle.std.specs.Prelude.{ℕ, List}
use Rattle.std.proofs.Math.Logic.{∥∥₁_elim}
use Rattle.std.proofs.Math.Bridge.{le_prop}
use Rattle.book.specs.declared.bid.Bid.{Bid}
use Rattle.book.specs.Books.{Sound}

pub sound_once : (bids : List Bid) (capacity top : ℕ) → IsProp (Sound bids capacity top)
sound_once bids capacity top p q = λ i. record {
  ascend = λ a b d l m. le_prop (p.ascend a b d l m) (q.ascend a b d l m) i;
  limits = λ k d l. le_prop (p.limits k d l) (q.limits k d l) i;
  count = le_prop p.count q.count i;
  highest = le_prop p.highest q.highest i;
}

pub sound_in : (bids : List Bid) (capacity top : ℕ) → ∥ Sound bids capacity top ∥₁ → Sound bids capacity top
sound_in bids capacity top h = ∥∥₁_elim h (sound_once bids capacity top) (λ s. s)
