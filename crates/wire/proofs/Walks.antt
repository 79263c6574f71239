-- How a walk over the blocks of a packet goes on.
use Rattle.std.proofs.Common.{◌≡◌, ℕ, zero, suc, ◌+◌, ◌-◌, ◌^◌, ◌<◌, ◌≤◌, cond, ltb, leb, List, length, take, drop, Some, None, Ok, Option, Result, sym, refl, ap, inl, inr, suc-add, zero-add, add-one, arith}
use Rattle.std.proofs.lemmas.List.{take_rest, length-drop}
use Rattle.std.proofs.lemmas.Bool.{le-ltb, lt-leb, cases_lt}
use Rattle.std.proofs.lemmas.Option.{none-some}
use Rattle.std.proofs.lemmas.Bool.Decides.{nat_tests}
use Rattle.std.specs.Option.{option_or}
use Rattle.fault.specs.declared.Fault.{Fault}
use Rattle.fault.specs.declared.Fault.TheVariants.{ShortPacket, NumberTooLarge}
use Rattle.wire.specs.Bytes.{value}
use Rattle.wire.specs.Packets.{Taken, first_of, blocks_of, packet_fault, packet_of, block_at, block_fault, first_fault, messages_from, contents_of}

-- one block more, after blocks that have no fault
pub goes_on : (bs : List ℕ) (i at : ℕ) (r : Option Fault) → at ≡ block_at bs i → first_fault bs i ≡ None → block_fault bs at ≡ r → first_fault bs (i + 1) ≡ r
goes_on bs i at r e h b = rw (add-one, h, ← e) b

-- a fault in the first i blocks is the fault of d more
stays : (bs : List ℕ) (f : Fault) (i d : ℕ) → first_fault bs i ≡ Some f → first_fault bs (d + i) ≡ Some f
stays bs f i zero h = rw zero-add h
stays bs f i (suc d) h = rw (suc-add, stays bs f i d h)

-- a fault of block i, after blocks that have none, is the fault of all n
pub stops : (bs : List ℕ) (f : Fault) (i at n : ℕ) → i < n → at ≡ block_at bs i → first_fault bs i ≡ None → block_fault bs at ≡ Some f → first_fault bs n ≡ Some f
stops bs f i at n l e h b =
    let m : n - (i + 1) + (i + 1) ≡ n = omega arith in
    rw m at (stays bs f (i + 1) (n - (i + 1)) (goes_on bs i at (Some f) e h b))

pub both_none : (a b : Option Fault) → option_or a b ≡ None → (a ≡ None) × (b ≡ None)
both_none None b h = (refl, h)
both_none (Some f) b h = absurd (none-some f (sym h))

-- where the first m blocks have no fault, none of them has one
pub none_before : (bs : List ℕ) (k m : ℕ) → k < m → first_fault bs m ≡ None → block_fault bs (block_at bs k) ≡ None
none_before bs k zero l h = absurd (omega arith)
none_before bs k (suc m) l h =
    let p = both_none (first_fault bs m) (block_fault bs (block_at bs m)) h in
    elim (cases_lt k m) [ inl below ↦ none_before bs k m below p.0 | inr past ↦ (let e : k ≡ m = omega arith in rw e p.1) ]

-- n blocks have n messages
pub length-messages : (bs : List ℕ) (k n : ℕ) → length (messages_from bs k n) ≡ n
length-messages bs k zero = refl
length-messages bs k (suc n) = ap suc (length-messages bs (suc k) n)

pub no_fault : (bs : List ℕ) → 20 ≤ length bs → first_of bs + blocks_of bs < 2 ^ 64 → first_fault bs (blocks_of bs) ≡ None → packet_fault bs ≡ None
no_fault bs long fits none = rw (le-ltb (length bs) 20 long, lt-leb (2 ^ 64) (first_of bs + blocks_of bs) fits) none

judged : (len sum : ℕ) (f g : Fault) (o : Option Fault) → cond (ltb len 20) (Some f) (cond (leb (2 ^ 64) sum) (Some g) o) ≡ None → (20 ≤ len) × (sum < 2 ^ 64) × (o ≡ None)
judged len sum f g o h = (grind (arith, nat_tests), grind (arith, nat_tests), grind (arith, nat_tests))

-- what it is to have no fault
pub faultless : (bs : List ℕ) → packet_fault bs ≡ None → (20 ≤ length bs) × (first_of bs + blocks_of bs < 2 ^ 64) × (first_fault bs (blocks_of bs) ≡ None)
faultless bs h = judged (length bs) (first_of bs + blocks_of bs) (ShortPacket (length bs)) (NumberTooLarge (first_of bs)) (first_fault bs (blocks_of bs)) h

pub ends_within : (bs : List ℕ) (at : ℕ) → block_fault bs at ≡ None → (at + 2 + value at 2 bs ≤ 1472) × (at + 2 + value at 2 bs ≤ length bs)
ends_within bs at h = (grind (arith, nat_tests), grind (arith, nat_tests))

-- blocks with no fault end by byte 1,472
pub ends_by : (bs : List ℕ) (k : ℕ) → first_fault bs k ≡ None → block_at bs k ≤ 1472
ends_by bs zero h = omega arith
ends_by bs (suc k) h = (ends_within bs (block_at bs k) (both_none (first_fault bs k) (block_fault bs (block_at bs k)) h).1).0

-- and lie within the bytes
pub lies_by : (bs : List ℕ) (k : ℕ) → 20 ≤ length bs → first_fault bs k ≡ None → block_at bs k ≤ length bs
lies_by bs zero l h = l
lies_by bs (suc k) l h = (ends_within bs (block_at bs k) (both_none (first_fault bs k) (block_fault bs (block_at bs k)) h).1).1

-- what it takes for a packet to have no fault, and then what is read
pub answered : (bs : List ℕ) (first blocks end : ℕ) → 20 ≤ length bs → first ≡ first_of bs → blocks ≡ blocks_of bs → first + blocks < 2 ^ 64 → first_fault bs blocks ≡ None → end ≡ block_at bs blocks
    → (packet_fault bs ≡ None) × (◌≡◌ {A = Result Taken Fault} (Ok (record { packet = contents_of bs; rest = take (length bs - end) (drop end bs) })) (packet_of bs))
answered bs first blocks end long f b fits none e =
    let fits' : first_of bs + blocks_of bs < 2 ^ 64 = rw (f, b) at fits in
    let none' : first_fault bs (blocks_of bs) ≡ None = rw b at none in
    let n = no_fault bs long fits' none' in
    let r = take_rest bs (block_at bs (blocks_of bs)) in
    (n, rw (e, b, n, r) refl)

past_header : (bs : List ℕ) (k : ℕ) → 20 ≤ block_at bs k
past_header bs zero = omega arith
past_header bs (suc k) = omega (arith, past_header bs k)

-- a packet takes its header at least
pub rest_shorter : (bs : List ℕ) (k end : ℕ) → 20 ≤ length bs → end ≡ block_at bs k → end ≤ length bs → length (take (length bs - end) (drop end bs)) + 20 ≤ length bs
rest_shorter bs k end long e l = rw (take_rest bs end, length-drop end bs) (omega (arith, past_header bs k))

-- where nothing is wrong with a packet, each of its blocks lies within the bytes, and so does its length field
pub next_within : (bs : List ℕ) (left at : ℕ) → packet_fault bs ≡ None → left ≤ blocks_of bs → at ≡ block_at bs (blocks_of bs - left) → (left ≡ 0 → ⊥) → (at + 2 + value at 2 bs ≤ 1472) × (at + 2 + value at 2 bs ≤ length bs)
next_within bs left at h l e some =
    let k = blocks_of bs - left in
    rw e (ends_within bs (block_at bs k) (none_before bs k (blocks_of bs) (omega arith) (faultless bs h).2))
