-- What is read as a packet is laid out as one.
use Rattle.std.proofs.Common.{◌≡◌, ℕ, zero, suc, ◌+◌, ◌<◌, ◌≤◌, List, ◌∷◌, ◌++◌, length, get_or, drop, Some, None, Ok, Option, Result, sym, refl, ap, ◌∙◌, subst, arith, take-suc}
use lib.Arith.{digits_div, digits_mod}
use Rattle.std.proofs.lemmas.List.{append_assoc, length-append, take-append-drop, drop-drop, get_or-drop, length-drop, length-take-le, length-map}
use Rattle.fault.specs.declared.Fault.{Fault}
use Rattle.wire.specs.Bytes.{field, value}
use Rattle.wire.specs.Packets.{Taken, first_of, count_of, blocks_of, block_at, first_fault, message_at, messages_from, taken_of, packet_fault, unless, packet_of}
use Rattle.wire.specs.Written.{bytes_of, blocks_bytes, numbered_from, plain, LaidOut, Exactly}
use Rattle.wire.proofs.Backs.{four_parts, reads_back}
use Rattle.wire.proofs.Walks.{length-messages, none_before, ends_within, ends_by, lies_by, faultless}

-- a field and what comes after it
cut : (bs : List ℕ) (at n : ℕ) → drop at bs ≡ field at n bs ++ drop (at + n) bs
cut bs at n = sym (take-append-drop n (drop at bs)) ∙ ap (λ t. field at n bs ++ t) (drop-drop n at bs)

length-field : (bs : List ℕ) (from n : ℕ) → from + n ≤ length bs → length (field from n bs) ≡ n
length-field bs from n l = let s : n ≤ length (drop from bs) = simp length-drop (omega arith) in length-take-le n (drop from bs) s

length-plain : (bs : List ℕ) (k n : ℕ) → length (plain (messages_from bs k n)) ≡ n
length-plain bs k n = length-map (messages_from bs k n) (λ m. m.bytes) ∙ length-messages bs k n

numbered_plain : (bs : List ℕ) (n k number : ℕ) → number ≡ first_of bs + k → messages_from bs k n ≡ numbered_from number (plain (messages_from bs k n))
numbered_plain bs zero k number e = refl
numbered_plain bs (suc n) k number e = rw e (ap (λ t. message_at bs k ∷ t) (numbered_plain bs n (suc k) (first_of bs + k + 1) (omega arith)))

module _ (bs : List ℕ) (small : (i : ℕ) → get_or bs i 0 < 256) where
  -- a number read from a field is written as that field
  written : (at n : ℕ) → at + n ≤ length bs → bytes_of n (value at n bs) ≡ field at n bs
  written at zero l = refl
  written at (suc n) l =
      let b = small (at + n) in
      let h : n < length (drop at bs) = simp length-drop (omega arith) in
      rw (digits_div (value at n bs) b, digits_mod (value at n bs) b, written at n (omega arith), take-suc (drop at bs) n 0 h, get_or-drop at bs n 0)

  -- from block k on the bytes are n blocks, laid out, and what comes after them
  blocks_written : (n k m : ℕ) → m ≡ k + n → first_fault bs m ≡ None → drop (block_at bs k) bs ≡ blocks_bytes (plain (messages_from bs k n)) ++ drop (block_at bs m) bs
  blocks_written zero k m e h = let s : m ≡ k = omega arith in rw s
  blocks_written (suc n) k m e h =
      let at = block_at bs k in
      let fine = none_before bs k m (omega arith) h in
      let size = value at 2 bs in
      let all = (ends_within bs at fine).1 in
      let m' = field (at + 2) size bs in
      let two = field at 2 bs in
      let B = blocks_bytes (plain (messages_from bs (suc k) n)) in
      let R = drop (block_at bs m) bs in
      let sized : two ≡ bytes_of 2 (length m') = sym (ap (λ v. bytes_of 2 v) (length-field bs (at + 2) size all) ∙ written at 2 (omega arith)) in
      let parted : drop at bs ≡ two ++ (m' ++ (B ++ R)) = cut bs at 2 ∙ ap (λ t. two ++ t) (cut bs (at + 2) size ∙ ap (λ t. m' ++ t) (blocks_written n (suc k) m (omega arith) h)) in
      let joined : two ++ (m' ++ (B ++ R)) ≡ (two ++ (m' ++ B)) ++ R = sym (append_assoc two (m' ++ B) R ∙ ap (λ t. two ++ t) (append_assoc m' B R)) in
      parted ∙ (joined ∙ ap (λ t. (t ++ (m' ++ B)) ++ R) sized)

  laid_out : packet_fault bs ≡ None → LaidOut bs (taken_of bs)
  laid_out h =
      let f = faultless bs h in
      let n = blocks_of bs in
      let ms = plain (messages_from bs 0 n) in
      let R = drop (block_at bs n) bs in
      let blocks = blocks_written n 0 n (omega arith) f.2 in
      let header : bs ≡ field 0 10 bs ++ (bytes_of 8 (first_of bs) ++ (bytes_of 2 (count_of bs) ++ (blocks_bytes ms ++ R))) =
      cut bs 0 10 ∙ ap (λ t. field 0 10 bs ++ t)
      (cut bs 10 8 ∙ (ap (λ t. t ++ drop 18 bs) (sym (written 10 8 (omega arith))) ∙ ap (λ t. bytes_of 8 (first_of bs) ++ t)
      (cut bs 18 2 ∙ (ap (λ t. t ++ drop 20 bs) (sym (written 18 2 (omega arith))) ∙ ap (λ t. bytes_of 2 (count_of bs) ++ t) blocks)))) in
      let size = ap length blocks ∙ length-append (blocks_bytes ms) R in
      let left = length-drop 20 bs in
      let after = length-drop (block_at bs n) bs in
      record {
        may = record {
          named = length-field bs 0 10 (omega arith);
          counted = sym (length-plain bs 0 n);
          small = omega (arith, small 18, small 19);
          numbers = rw (length-plain bs 0 n) f.1;
          ends = omega (arith, ends_by bs n f.2, lies_by bs n f.0 f.2);
        };
        numbers = numbered_plain bs n 0 (first_of bs) (omega arith);
        bytes = header ∙ sym (four_parts (field 0 10 bs) (bytes_of 8 (first_of bs)) (bytes_of 2 (count_of bs)) (blocks_bytes ms) R);
      }

reads_only : (bs : List ℕ) (t : Taken) → ((i : ℕ) → get_or bs i 0 < 256) → packet_of bs ≡ Ok t → LaidOut bs t
reads_only bs t small e = go (packet_fault bs) refl e
  where
    go : (o : Option Fault) → packet_fault bs ≡ o → unless o (taken_of bs) ≡ Ok t → LaidOut bs t
    go None h r = let same : taken_of bs ≡ t = cc in subst (λ x. LaidOut bs x) same (laid_out bs small h)
    go (Some f) h r = absurd (let z : ◌≡◌ {A = ℕ} 0 1 = cc in omega arith)

pub exactly : (bs : List ℕ) (answer : Result Taken Fault) → ((i : ℕ) → get_or bs i 0 < 256) → answer ≡ packet_of bs → Exactly bs answer
exactly bs answer small e =
    record {
      back = λ session first count ms rest fits laid. e ∙ reads_back bs session first count ms rest fits laid;
      only = λ t a. reads_only bs t small (sym e ∙ a);
    }
