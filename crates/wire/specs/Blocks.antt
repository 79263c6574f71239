-- What a `Packet` and a walk over its blocks stand for.
use Rattle.std.specs.Prelude.{◌≡◌, ℕ, ◌-◌, cond, List, [], ◌∷◌, length, Some, None, Ok, Err, Option, Result, ◌==◌}
use Rattle.std.specs.List.{slice_get}
use Rattle.std.specs.Option.{ok_or}
use Rattle.fault.specs.declared.Fault.{Fault}
use Rattle.fault.specs.declared.Fault.TheVariants.{NoSuchBlock}
use Rattle.wire.specs.Packets.{Numbered, Contents, Taken, blocks_of, messages_from, contents_of}
use Rattle.wire.specs.declared.packet.Block.{Block}
use Rattle.wire.specs.declared.packet.Blocks.{Blocks}
use Rattle.wire.specs.declared.packet.Packet.{Packet}
use Rattle.wire.specs.declared.packet.Purpose.{Purpose}
use Rattle.wire.specs.declared.packet.Purpose.TheVariants.{Heartbeat, Messages, EndOfSession}

abbrev pub numbered : Block → Numbered
numbered b = record { number = b.number; bytes = b.bytes.now }

-- the messages that a walk has still to give: those of the last blocks, as many as are left
abbrev pub to_come : Blocks → List Numbered
to_come w = messages_from w.packet.bytes.now (blocks_of w.packet.bytes.now - w.left) w.left

-- one step of a walk: it gives the next message, or none where none is to come
abbrev pub Step : Blocks → Option Block → Blocks → Type 0
Step before None after = (to_come before ≡ []) × (to_come after ≡ [])
Step before (Some b) after = to_come before ≡ numbered b ∷ to_come after

-- a packet by its values
abbrev pub contents : Packet → Contents
contents p = contents_of p.bytes.now

-- what a packet with that count is sent for
abbrev pub purpose_of : ℕ → Purpose
purpose_of count = cond (count == 0) Heartbeat (cond (count == 65535) EndOfSession Messages)

-- a packet and the rest of the bytes, by their values
abbrev pub taken : {X Y : Type 0} → (X → Contents) → (Y → List ℕ) → Result (X × Y) Fault → Result Taken Fault
taken packet rest (Ok t) = Ok (record { packet = packet t.0; rest = rest t.1 })
taken packet rest (Err f) = Err f

-- block k among the messages of a packet, counted from 0
abbrev pub block_of : List Numbered → ℕ → Result Numbered Fault
block_of ms k = ok_or (slice_get ms k) (NoSuchBlock (length ms))

abbrev pub found : Result Block Fault → Result Numbered Fault
found (Ok b) = Ok (numbered b)
found (Err f) = Err f
