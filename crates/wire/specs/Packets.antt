-- The packet at the front of some bytes: session 10, first number 8, count 2, then blocks, each a length of 2 and a message.
use Rattle.std.specs.Prelude.{◌≡◌, ℕ, zero, suc, ◌+◌, ◌^◌, Bool, false, cond, ◌||◌, List, [], ◌∷◌, ◌++◌, length, drop, Some, None, Ok, Err, Option, Result, ◌==◌, nat_le, nat_lt}
use Rattle.std.specs.Option.{option_or}
use Rattle.fault.specs.Causes.{cause_of}
use Rattle.fault.specs.declared.Fault.{Fault}
use Rattle.fault.specs.declared.Fault.TheVariants.{ShortPacket, BlockPastEnd, BlockPastLimit, NumberTooLarge}
use Rattle.wire.specs.Bytes.{field, value}

-- a message in a packet, with its number
pub record Numbered : Type 0 where
  pub number : ℕ
  pub bytes : List ℕ

-- a packet by its values, wherever its bytes lie
pub record Contents : Type 0 where
  pub session : List ℕ
  pub first : ℕ
  pub count : ℕ
  pub messages : List Numbered

abbrev pub first_of : List ℕ → ℕ
first_of bs = value 10 8 bs

abbrev pub count_of : List ℕ → ℕ
count_of bs = value 18 2 bs

-- how many blocks a count stands for: 65,535 ends the session, and carries none
abbrev pub carried : ℕ → ℕ
carried count = cond (count == 65535) 0 count

abbrev pub blocks_of : List ℕ → ℕ
blocks_of bs = carried (count_of bs)

-- the offset of the length field of block k, which is where the k blocks before it end
abbrev pub block_at : List ℕ → ℕ → ℕ
block_at bs zero = 20
block_at bs (suc k) = block_at bs k + 2 + value (block_at bs k) 2 bs

-- the message in block k, whose number is the first number plus k
abbrev pub message_at : List ℕ → ℕ → Numbered
message_at bs k = record { number = first_of bs + k; bytes = field (block_at bs k + 2) (value (block_at bs k) 2 bs) bs }

-- the messages in n blocks from block k on
abbrev pub messages_from : List ℕ → ℕ → ℕ → List Numbered
messages_from bs k zero = []
messages_from bs k (suc n) = message_at bs k ∷ messages_from bs (suc k) n

-- what is wrong with the block whose length field is at an offset: the length field is cut off, else the block ends past
-- byte 1,472, else it passes the end of the bytes
abbrev pub block_fault : List ℕ → ℕ → Option Fault
block_fault bs at =
    cond (nat_lt (length bs) (at + 2)) (Some (BlockPastEnd at))
    (cond (nat_lt 1472 (at + 2 + value at 2 bs)) (Some (BlockPastLimit at))
    (cond (nat_lt (length bs) (at + 2 + value at 2 bs)) (Some (BlockPastEnd at))
    None))

-- what is wrong with the first of k blocks that has a fault
abbrev pub first_fault : List ℕ → ℕ → Option Fault
first_fault bs zero = None
first_fault bs (suc k) = option_or (first_fault bs k) (block_fault bs (block_at bs k))

-- what is wrong with the packet
abbrev pub packet_fault : List ℕ → Option Fault
packet_fault bs =
    cond (nat_lt (length bs) 20) (Some (ShortPacket (length bs)))
    (cond (nat_le (2 ^ 64) (first_of bs + blocks_of bs)) (Some (NumberTooLarge (first_of bs)))
    (first_fault bs (blocks_of bs)))

abbrev pub contents_of : List ℕ → Contents
contents_of bs = record { session = field 0 10 bs; first = first_of bs; count = count_of bs; messages = messages_from bs 0 (blocks_of bs) }

-- a packet read from the front of some bytes, and the bytes after it
pub record Taken : Type 0 where
  pub packet : Contents
  pub rest : List ℕ

abbrev pub unless : Option Fault → Taken → Result Taken Fault
unless None t = Ok t
unless (Some f) t = Err f

-- the packet and the rest, where nothing is wrong
abbrev pub taken_of : List ℕ → Taken
taken_of bs = record { packet = contents_of bs; rest = drop (block_at bs (blocks_of bs)) bs }

-- what reading one packet from the front of the bytes answers
abbrev pub packet_of : List ℕ → Result Taken Fault
packet_of bs = unless (packet_fault bs) (taken_of bs)

-- the same answer where more bytes follow
abbrev pub followed_by : List ℕ → Result Taken Fault → Result Taken Fault
followed_by more (Ok t) = Ok (record { packet = t.packet; rest = t.rest ++ more })
followed_by more (Err f) = Err f

-- bytes that follow may cure a packet under 20 bytes, and a block that passes the end of the bytes
abbrev pub curable : Fault → Bool
curable f = (cause_of f).number == 1 || (cause_of f).number == 2

-- an answer lasts unless it is a fault that more bytes may cure
abbrev pub Lasts : Result Taken Fault → Type 0
Lasts (Ok t) = Unit {0}
Lasts (Err f) = curable f ≡ false
