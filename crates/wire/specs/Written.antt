-- A packet as it is laid out, part after part.
use Rattle.std.specs.Prelude.{◌≡◌, ℕ, zero, suc, ◌+◌, ◌/◌, ◌%◌, ◌^◌, ◌<◌, ◌≤◌, List, [], ◌∷◌, ◌++◌, map, length, Ok, Result}
use Rattle.fault.specs.declared.Fault.{Fault}
use Rattle.wire.specs.Packets.{Numbered, Taken, carried}

-- a number in so many bytes, the highest first
abbrev pub bytes_of : ℕ → ℕ → List ℕ
bytes_of zero v = []
bytes_of (suc n) v = bytes_of n (v / 256) ++ (v % 256 ∷ [])

-- blocks one after another, each the length of its message in 2 bytes and the message
abbrev pub blocks_bytes : List (List ℕ) → List ℕ
blocks_bytes [] = []
blocks_bytes (m ∷ ms) = bytes_of 2 (length m) ++ (m ++ blocks_bytes ms)

-- a packet: session, first number in 8 bytes, count in 2, blocks
abbrev pub packet_bytes : List ℕ → ℕ → ℕ → List (List ℕ) → List ℕ
packet_bytes session first count ms = session ++ (bytes_of 8 first ++ (bytes_of 2 count ++ blocks_bytes ms))

-- messages numbered upward from a number
abbrev pub numbered_from : ℕ → List (List ℕ) → List Numbered
numbered_from n [] = []
numbered_from n (m ∷ ms) = record { number = n; bytes = m } ∷ numbered_from (n + 1) ms

-- what a packet may be: a session of 10 bytes, a count of the messages or one that carries none, numbers that fit,
-- blocks that end by byte 1,472
pub record Fits (session : List ℕ) (first count : ℕ) (ms : List (List ℕ)) : Type 0 where
  pub named : length session ≡ 10
  pub counted : carried count ≡ length ms
  pub small : count < 2 ^ 16
  pub numbers : first + length ms < 2 ^ 64
  pub ends : 20 + length (blocks_bytes ms) ≤ 1472

-- the messages of a packet without their numbers
abbrev pub plain : List Numbered → List (List ℕ)
plain ms = map (λ m. m.bytes) ms

-- some bytes are a packet that may be, laid out, and then the rest
pub record LaidOut (bs : List ℕ) (t : Taken) : Type 0 where
  pub may : Fits t.packet.session t.packet.first t.packet.count (plain t.packet.messages)
  pub numbers : t.packet.messages ≡ numbered_from t.packet.first (plain t.packet.messages)
  pub bytes : bs ≡ packet_bytes t.packet.session t.packet.first t.packet.count (plain t.packet.messages) ++ t.rest

-- an answer is a packet and the rest exactly where the bytes are that packet, laid out, and the rest
pub record Exactly (bs : List ℕ) (answer : Result Taken Fault) : Type 0 where
  pub back :
      (session : List ℕ) (first count : ℕ) (ms : List (List ℕ)) (rest : List ℕ) → Fits session first count ms → bs ≡ packet_bytes session first count ms ++ rest
      → answer ≡ Ok (record { packet = record { session = session; first = first; count = count; messages = numbered_from first ms }; rest = rest })
  pub only : (t : Taken) → answer ≡ Ok t → LaidOut bs t
