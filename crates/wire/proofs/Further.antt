-- Bytes that follow change no answer, once 1,474 are at hand.
use Rattle.std.proofs.Common.{◌≡◌, ℕ, zero, suc, ◌+◌, ◌^◌, ◌<◌, ◌≤◌, Bool, true, false, cond, ltb, leb, List, ◌++◌, length, drop, Some, None, Option, sym, refl, inl, inr, arith}
use Rattle.std.proofs.lemmas.List.{get_or_append_left, length-append, drop-append-le, take-append-le, length-drop}
use Rattle.std.proofs.lemmas.Bool.{le-ltb, lt-ltb, cases_lt, true≢false}
use Rattle.std.proofs.lemmas.Option.{none-some}
use Rattle.fault.specs.declared.Fault.{Fault}
use Rattle.fault.specs.declared.Fault.TheVariants.{BlockPastEnd, BlockPastLimit}
use Rattle.wire.specs.Bytes.{field, value}
use Rattle.wire.specs.Packets.{Taken, first_of, blocks_of, block_at, block_fault, first_fault, message_at, messages_from, taken_of, packet_fault, unless, packet_of, followed_by, curable, Lasts}
use Rattle.wire.proofs.Walks.{both_none, none_before, ends_within, ends_by, lies_by, faultless}

none_up_to : (bs : List ℕ) (k m : ℕ) → k ≤ m → first_fault bs m ≡ None → first_fault bs k ≡ None
none_up_to bs k zero l h = let e : k ≡ 0 = omega arith in rw e
none_up_to bs k (suc m) l h =
    elim (cases_lt k (suc m)) [
      | inl below ↦ none_up_to bs k m (omega arith) (both_none (first_fault bs m) (block_fault bs (block_at bs m)) h).0
      | inr past ↦ (let e : k ≡ suc m = omega arith in rw e h)
    ]

-- a fault lasts unless more bytes may cure it
abbrev Lasting : Option Fault → Type 0
Lasting None = Unit {0}
Lasting (Some f) = curable f ≡ false

-- where a block ends is judged alike within n bytes and within more
same_end : (n n' at size : ℕ) → at + 2 ≤ n → n ≤ n'
    → Lasting (cond (ltb n (at + 2)) (Some (BlockPastEnd at)) (cond (ltb 1472 (at + 2 + size)) (Some (BlockPastLimit at)) (cond (ltb n (at + 2 + size)) (Some (BlockPastEnd at)) None)))
    → cond (ltb n' (at + 2)) (Some (BlockPastEnd at)) (cond (ltb 1472 (at + 2 + size)) (Some (BlockPastLimit at)) (cond (ltb n' (at + 2 + size)) (Some (BlockPastEnd at)) None))
    ≡ cond (ltb n (at + 2)) (Some (BlockPastEnd at)) (cond (ltb 1472 (at + 2 + size)) (Some (BlockPastLimit at)) (cond (ltb n (at + 2 + size)) (Some (BlockPastEnd at)) None))
same_end n n' at size l m h =
    let c = le-ltb n (at + 2) l in
    let c' = le-ltb n' (at + 2) (omega arith) in
    elim (cases_lt 1472 (at + 2 + size)) [
      | inl past ↦ rw (c, c', lt-ltb 1472 (at + 2 + size) past)
      | inr within ↦
          elim (cases_lt n (at + 2 + size)) [
            | inl cut ↦ absurd (true≢false (rw (c, le-ltb 1472 (at + 2 + size) within, lt-ltb n (at + 2 + size) cut) at h))
            | inr there ↦ rw (c, c', le-ltb 1472 (at + 2 + size) within, le-ltb n (at + 2 + size) there, le-ltb n' (at + 2 + size) (omega arith))
          ]
    ]

module _ (bs more : List ℕ) where
  same_value : (at n : ℕ) → at + n ≤ length bs → value at n (bs ++ more) ≡ value at n bs
  same_value at zero l = refl
  same_value at (suc n) l =
      let below : at + n < length bs = omega arith in
      rw (same_value at n (omega arith), get_or_append_left bs more 0 (at + n) below)

  same_field : (from size : ℕ) → from + size ≤ length bs → field from size (bs ++ more) ≡ field from size bs
  same_field from size l =
      let some : from ≤ length bs = omega arith in
      let rest : size ≤ length (drop from bs) = simp length-drop (omega arith) in
      rw (drop-append-le from bs more some, take-append-le size (drop from bs) more rest)

  -- a block's fault that lasts, or none, is the same where more bytes follow
  same_block : (at : ℕ) → Lasting (block_fault bs at) → block_fault (bs ++ more) at ≡ block_fault bs at
  same_block at h =
      elim (cases_lt (length bs) (at + 2)) [
        | inl cut ↦ absurd (true≢false (rw (lt-ltb (length bs) (at + 2) cut) at h))
        | inr there ↦ rw (same_value at 2 there) (same_end (length bs) (length (bs ++ more)) at (value at 2 bs) there (omega (arith, length-append bs more)) h)
      ]

  Same : ℕ → Type 0
  Same k = (first_fault (bs ++ more) k ≡ first_fault bs k) × (first_fault bs k ≡ None → block_at (bs ++ more) k ≡ block_at bs k)

  same_more : (k : ℕ) (o : Option Fault) → first_fault bs k ≡ o → (Lasting o → Same k) → Lasting (first_fault bs (suc k)) → Same (suc k)
  unfolding Same
  same_more k None e ih h =
      let s = ih tt in
      let a = s.1 e in
      let b = same_block (block_at bs k) (rw e at h) in
      (rw (s.0, e, a) b, λ n. (let here = (both_none (first_fault bs k) (block_fault bs (block_at bs k)) n).1 in let l = (ends_within bs (block_at bs k) here).1 in rw (a, same_value (block_at bs k) 2 (omega arith))))
  same_more k (Some f) e ih h = (rw ((ih (rw e at h)).0, e), λ n. absurd (none-some f (sym (rw e at n))))

  same_faults : (k : ℕ) → Lasting (first_fault bs k) → Same k
  unfolding Same
  same_faults zero h = (refl, λ _. refl)
  same_faults (suc k) h = same_more k (first_fault bs k) refl (same_faults k) h

  same_message : (k m : ℕ) → 20 ≤ length bs → k < m → first_fault bs m ≡ None → message_at (bs ++ more) k ≡ message_at bs k
  unfolding Same
  same_message k m head l h =
      let here = none_before bs k m l h in
      let n = none_up_to bs k m (omega arith) h in
      let a = (same_faults k (rw n tt)).1 n in
      let e = (ends_within bs (block_at bs k) here).1 in
      rw (same_value 10 8 (omega arith), a, same_value (block_at bs k) 2 (omega arith), same_field (block_at bs k + 2) (value (block_at bs k) 2 bs) (omega arith))

  same_messages : (m n k : ℕ) → 20 ≤ length bs → k + n ≤ m → first_fault bs m ≡ None → messages_from (bs ++ more) k n ≡ messages_from bs k n
  same_messages m zero k head l h = refl
  same_messages m (suc n) k head l h = rw (same_message k m head (omega arith) h, same_messages m n (suc k) head (omega arith) h)

  same_packet_fault : 20 ≤ length bs → (b : Bool) → leb (2 ^ 64) (first_of bs + blocks_of bs) ≡ b → Lasting (packet_fault bs) → packet_fault (bs ++ more) ≡ packet_fault bs
  unfolding Same
  same_packet_fault head true e h =
      let n = length-append bs more in
      rw (le-ltb (length bs) 20 head, le-ltb (length (bs ++ more)) 20 (omega arith), same_value 10 8 (omega arith), same_value 18 2 (omega arith), e)
  same_packet_fault head false e h =
      let n = length-append bs more in
      let blocks : Lasting (first_fault bs (blocks_of bs)) = rw (le-ltb (length bs) 20 head, e) at h in
      rw (le-ltb (length bs) 20 head, le-ltb (length (bs ++ more)) 20 (omega arith), same_value 10 8 (omega arith), same_value 18 2 (omega arith), e) (same_faults (blocks_of bs) blocks).0

  same_answer : 20 ≤ length bs → (o : Option Fault) → packet_fault bs ≡ o → Lasting o → packet_of (bs ++ more) ≡ followed_by more (packet_of bs)
  unfolding Same
  same_answer head (Some f) e l = rw (same_packet_fault head (leb (2 ^ 64) (first_of bs + blocks_of bs)) refl (rw e l), e)
  same_answer head None e l =
      let h = (faultless bs e).2 in
      let s = same_packet_fault head (leb (2 ^ 64) (first_of bs + blocks_of bs)) refl (rw e l) in
      let a = (same_faults (blocks_of bs) (rw h tt)).1 h in
      let d = drop-append-le (block_at bs (blocks_of bs)) bs more (lies_by bs (blocks_of bs) head h) in
      rw (s, e, same_field 0 10 (omega arith), same_value 10 8 (omega arith), same_value 18 2 (omega arith), same_messages (blocks_of bs) (blocks_of bs) 0 head (omega arith) h, a, d)

-- a header is there unless the fault is one that more bytes may cure
header_there : (bs : List ℕ) → Lasting (packet_fault bs) → 20 ≤ length bs
header_there bs h =
    elim (cases_lt (length bs) 20) [
      | inl short ↦ absurd (true≢false (rw (lt-ltb (length bs) 20 short) at h))
      | inr there ↦ there
    ]

lasts_fault : (o : Option Fault) (t : Taken) → Lasts (unless o t) → Lasting o
lasts_fault None t h = tt
lasts_fault (Some f) t h = h

-- an answer that lasts is the answer whatever follows
pub lasting : (bs more : List ℕ) → Lasts (packet_of bs) → packet_of (bs ++ more) ≡ followed_by more (packet_of bs)
lasting bs more h =
    let l = lasts_fault (packet_fault bs) (taken_of bs) h in
    same_answer bs more (header_there bs l) (packet_fault bs) refl l

module _ (bs : List ℕ) (long : 1474 ≤ length bs) where
  long_block : (at : ℕ) → at ≤ 1472 → Lasting (block_fault bs at)
  long_block at l =
      let end = at + 2 + value at 2 bs in
      let c = le-ltb (length bs) (at + 2) (omega arith) in
      elim (cases_lt 1472 end) [
        | inl past ↦ rw (c, lt-ltb 1472 end past)
        | inr within ↦ rw (c, le-ltb 1472 end within, le-ltb (length bs) end (omega arith)) tt
      ]

  long_more : (k : ℕ) (o : Option Fault) → first_fault bs k ≡ o → Lasting o → Lasting (first_fault bs (suc k))
  long_more k None e l = rw e (long_block (block_at bs k) (ends_by bs k e))
  long_more k (Some f) e l = rw e l

  long_blocks : (k : ℕ) → Lasting (first_fault bs k)
  long_blocks zero = tt
  long_blocks (suc k) = long_more k (first_fault bs k) refl (long_blocks k)

  long_fault : (b : Bool) → leb (2 ^ 64) (first_of bs + blocks_of bs) ≡ b → Lasting (packet_fault bs)
  long_fault true e = rw (le-ltb (length bs) 20 (omega arith), e)
  long_fault false e = rw (le-ltb (length bs) 20 (omega arith), e) (long_blocks (blocks_of bs))

fault_lasts : (o : Option Fault) (t : Taken) → Lasting o → Lasts (unless o t)
fault_lasts None t h = tt
fault_lasts (Some f) t h = h

-- with 1,474 bytes at hand every answer lasts
pub long_lasts : (bs : List ℕ) → 1474 ≤ length bs → Lasts (packet_of bs)
long_lasts bs long = fault_lasts (packet_fault bs) (taken_of bs) (long_fault bs long (leb (2 ^ 64) (first_of bs + blocks_of bs)) refl)
