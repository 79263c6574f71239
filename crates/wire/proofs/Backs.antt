-- A packet is read back from how it is laid out.
use Rattle.std.proofs.Common.{◌≡◌, ℕ, zero, suc, ◌+◌, ◌/◌, ◌%◌, ◌^◌, ◌<◌, ◌≤◌, List, [], ◌∷◌, ◌++◌, length, get_or, drop, None, Ok, sym, refl, ap, ◌∙◌, add-zero, div-lt_iff_lt-mul, pow-suc, div-add-mod', zero-add, add-one, arith}
use Rattle.std.proofs.lemmas.List.{append_assoc, length-append, length_push, get_or-append-add, get_or_at, drop_at, take_at}
use Rattle.std.proofs.lemmas.Bool.Decides.{nat_tests}
use Rattle.wire.specs.Bytes.{field, value}
use Rattle.wire.specs.Packets.{carried, first_of, count_of, blocks_of, block_at, block_fault, first_fault, messages_from, packet_of}
use Rattle.wire.specs.Written.{bytes_of, blocks_bytes, packet_bytes, numbered_from, Fits}
use Rattle.wire.proofs.Walks.{no_fault}

-- the four parts of a packet, and what follows
pub four_parts : (s f c b r : List ℕ) → (s ++ (f ++ (c ++ b))) ++ r ≡ s ++ (f ++ (c ++ (b ++ r)))
four_parts s f c b r = simp append_assoc

length-bytes_of : (n v : ℕ) → length (bytes_of n v) ≡ n
length-bytes_of zero v = refl
length-bytes_of (suc n) v = length_push (bytes_of n (v / 256)) (v % 256) ∙ rw (length-bytes_of n (v / 256), add-one)

value_written : (bs pre r : List ℕ) (n v at : ℕ) → bs ≡ pre ++ (bytes_of n v ++ r) → length pre ≡ at → v < 256 ^ n → value at n bs ≡ v
value_written bs pre r zero v at e p s = omega arith
value_written bs pre r (suc n) v at e p s =
    let x = v % 256 in
    let e' : bs ≡ pre ++ (bytes_of n (v / 256) ++ (x ∷ r)) = e ∙ ap (λ t. pre ++ t) (append_assoc (bytes_of n (v / 256)) (x ∷ []) r) in
    let high = value_written bs pre (x ∷ r) n (v / 256) at e' p ((div-lt_iff_lt-mul {k = 256} (omega arith)).1 (rw pow-suc at s)) in
    let low : get_or bs (at + n) 0 ≡ x = rw (e', ← p, get_or-append-add pre (bytes_of n (v / 256) ++ (x ∷ r)) n 0) (get_or_at (bytes_of n (v / 256)) x r 0 n (length-bytes_of n (v / 256))) in
    rw (high, low) (div-add-mod' v 256)

field_written : (bs pre m r : List ℕ) (from : ℕ) → bs ≡ pre ++ (m ++ r) → length pre ≡ from → field from (length m) bs ≡ m
field_written bs pre m r from e p = rw (e, drop_at pre (m ++ r) from p) (take_at m r (length m) refl)

no_block_fault : (bs : List ℕ) (at n : ℕ) → value at 2 bs ≡ n → at + 2 + n ≤ 1472 → at + 2 + n ≤ length bs → block_fault bs at ≡ None
no_block_fault bs at n v l s = rw v (grind (arith, nat_tests))

-- the blocks that are laid out after `pre` are read, each with its message
laid_from : (ms : List (List ℕ)) (k at : ℕ) (bs pre rest : List ℕ) → bs ≡ pre ++ (blocks_bytes ms ++ rest) → length pre ≡ at → block_at bs k ≡ at → at + length (blocks_bytes ms) ≤ 1472 → first_fault bs k ≡ None
    → (first_fault bs (k + length ms) ≡ None) × (block_at bs (k + length ms) ≡ at + length (blocks_bytes ms)) × (messages_from bs k (length ms) ≡ numbered_from (first_of bs + k) ms)
laid_from [] k at bs pre rest e p a l h = rw (add-zero k, add-zero at) (h, a, refl)
laid_from (m ∷ ms) k at bs pre rest e p a l h =
    let size = bytes_of 2 (length m) in
    let all : length (blocks_bytes (m ∷ ms)) ≡ 2 + (length m + length (blocks_bytes ms)) = length-append size (m ++ blocks_bytes ms) ∙ rw (length-bytes_of 2 (length m), length-append m (blocks_bytes ms)) in
    let e₁ : bs ≡ pre ++ (size ++ (m ++ (blocks_bytes ms ++ rest))) = e ∙ ap (λ t. pre ++ t) (append_assoc size (m ++ blocks_bytes ms) rest ∙ ap (λ t. size ++ t) (append_assoc m (blocks_bytes ms) rest)) in
    let e₂ : bs ≡ (pre ++ size) ++ (m ++ (blocks_bytes ms ++ rest)) = e₁ ∙ sym (append_assoc pre size (m ++ (blocks_bytes ms ++ rest))) in
    let e₃ : bs ≡ ((pre ++ size) ++ m) ++ (blocks_bytes ms ++ rest) = e₂ ∙ sym (append_assoc (pre ++ size) m (blocks_bytes ms ++ rest)) in
    let p₂ : length (pre ++ size) ≡ at + 2 = length-append pre size ∙ rw (p, length-bytes_of 2 (length m)) in
    let p₃ : length ((pre ++ size) ++ m) ≡ at + 2 + length m = length-append (pre ++ size) m ∙ rw p₂ in
    let long : length bs ≡ at + 2 + length m + length (blocks_bytes ms ++ rest) = ap length e₃ ∙ (length-append ((pre ++ size) ++ m) (blocks_bytes ms ++ rest) ∙ rw p₃) in
    let v = value_written bs pre (m ++ (blocks_bytes ms ++ rest)) 2 (length m) at e₁ p (omega arith) in
    let fine = no_block_fault bs at (length m) v (omega arith) (omega arith) in
    let a₃ : block_at bs (suc k) ≡ at + 2 + length m = rw (a, v) in
    let h₃ : first_fault bs (suc k) ≡ None = rw (h, a, fine) in
    let ih = laid_from ms (suc k) (at + 2 + length m) bs ((pre ++ size) ++ m) rest e₃ p₃ a₃ (omega arith) h₃ in
    let s : k + suc (length ms) ≡ suc k + length ms = omega arith in
    let end : at + 2 + length m + length (blocks_bytes ms) ≡ at + length (blocks_bytes (m ∷ ms)) = omega arith in
    let f = field_written bs (pre ++ size) m (blocks_bytes ms ++ rest) (at + 2) e₂ p₂ in
    let n : first_of bs + k + 1 ≡ first_of bs + suc k = omega arith in
    (rw s ih.0, rw s (ih.1 ∙ end), rw (ih.2, n, a, v, f))

-- a packet by the values of its parts
by_parts : (bs session : List ℕ) (first count : ℕ) (ms : List (List ℕ)) (rest : List ℕ) → 20 ≤ length bs → field 0 10 bs ≡ session → first_of bs ≡ first → count_of bs ≡ count → carried count ≡ length ms
    → first + length ms < 2 ^ 64 → first_fault bs (length ms) ≡ None → messages_from bs 0 (length ms) ≡ numbered_from first ms → drop (block_at bs (length ms)) bs ≡ rest
    → packet_of bs ≡ Ok (record { packet = record { session = session; first = first; count = count; messages = numbered_from first ms }; rest = rest })
by_parts bs session first count ms rest long vs vf vc counted numbers none all end =
    let blocks : blocks_of bs ≡ length ms = rw vc counted in
    let good = no_fault bs long (rw (vf, blocks) numbers) (rw blocks none) in
    rw (good, vs, vf, vc, counted, all, end)

pub reads_back : (bs session : List ℕ) (first count : ℕ) (ms : List (List ℕ)) (rest : List ℕ) → Fits session first count ms → bs ≡ packet_bytes session first count ms ++ rest
    → packet_of bs ≡ Ok (record { packet = record { session = session; first = first; count = count; messages = numbered_from first ms }; rest = rest })
reads_back bs session first count ms rest fits e =
    let F = bytes_of 8 first in
    let C = bytes_of 2 count in
    let B = blocks_bytes ms in
    let e₁ : bs ≡ session ++ (F ++ (C ++ (B ++ rest))) = e ∙ four_parts session F C B rest in
    let e₂ : bs ≡ (session ++ F) ++ (C ++ (B ++ rest)) = e₁ ∙ sym (append_assoc session F (C ++ (B ++ rest))) in
    let e₃ : bs ≡ ((session ++ F) ++ C) ++ (B ++ rest) = e₂ ∙ sym (append_assoc (session ++ F) C (B ++ rest)) in
    let p₂ : length (session ++ F) ≡ 18 = omega (arith, length-append session F, fits.named, length-bytes_of 8 first) in
    let p₃ : length ((session ++ F) ++ C) ≡ 20 = omega (arith, length-append (session ++ F) C, p₂, length-bytes_of 2 count) in
    let long : length bs ≡ 20 + length (B ++ rest) = ap length e₃ ∙ (length-append ((session ++ F) ++ C) (B ++ rest) ∙ rw p₃) in
    let vf = value_written bs session (C ++ (B ++ rest)) 8 first 10 e₁ fits.named (omega (arith, fits.numbers)) in
    let vc = value_written bs (session ++ F) (B ++ rest) 2 count 18 e₂ p₂ fits.small in
    let laid = laid_from ms 0 20 bs ((session ++ F) ++ C) rest e₃ p₃ refl fits.ends refl in
    let vs : field 0 10 bs ≡ session = rw fits.named at (field_written bs [] session (F ++ (C ++ (B ++ rest))) 0 e₁ refl) in
    let all : messages_from bs 0 (length ms) ≡ numbered_from first ms = rw (vf, add-zero first) at laid.2 in
    let none : first_fault bs (length ms) ≡ None = rw (zero-add (length ms)) at laid.0 in
    let end : block_at bs (length ms) ≡ 20 + length B = rw (zero-add (length ms)) at laid.1 in
    let whole : length (packet_bytes session first count ms) ≡ block_at bs (length ms) = omega (arith, length-append session (F ++ (C ++ B)), fits.named) in
    by_parts bs session first count ms rest (omega arith) vs vf vc fits.counted fits.numbers none all (ap (λ t. drop (block_at bs (length ms)) t) e ∙ drop_at (packet_bytes session first count ms) rest (block_at bs (length ms)) whole)
