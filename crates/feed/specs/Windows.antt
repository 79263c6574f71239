-- What a window holds, and what it shows.
use Rattle.std.specs.Prelude.{◌≡◌, ℕ, ◌-◌, ◌<◌, Bool, true, false, cond, not, ◌&&◌, List, [], ◌++◌, length, drop, Ok, Err, Result, ◌==◌}
use Rattle.fault.specs.declared.Fault.{Fault}
use Rattle.wire.specs.Packets.{Contents, Taken, packet_of, curable}
use Rattle.wire.specs.Blocks.{contents}
use Rattle.feed.specs.declared.Window.{Window}
use Rattle.feed.specs.declared.Front.{Front}
use Rattle.feed.specs.declared.Front.TheVariants.{Whole, Wanting, Ended}

-- the bytes that were read and not yet taken
abbrev pub pending_in : Window → List ℕ
pending_in w = w.pending

-- whether the input has said that it ends
abbrev pub ended_in : Window → Bool
ended_in w = w.ended

-- some bytes, perhaps none, were added at the end
abbrev pub Extended : List ℕ → List ℕ → Type 0
Extended before after = (more : List ℕ) × (after ≡ before ++ more)

-- what stands at the front of a stream, by its values
pub data Sight : Type 0 where
  whole : Contents → ℕ → Sight
  refused : Fault → Sight
  wanting : Sight
  over : Sight

abbrev pub seen : Result Front Fault → Sight
seen (Ok (Whole p size)) = whole (contents p) size
seen (Ok Wanting) = wanting
seen (Ok Ended) = over
seen (Err f) = refused f

-- by what reading the n bytes at hand answers: a fault that more bytes may cure is no refusal before the input ends
abbrev pub sight_by : Bool → ℕ → Result Taken Fault → Sight
sight_by ended n (Ok t) = whole t.packet (n - length t.rest)
sight_by ended n (Err f) = cond (curable f && not ended) wanting (refused f)

-- what the bytes at hand show, and whether the input has ended
abbrev pub sight_of : Bool → List ℕ → Sight
sight_of ended bs = cond (ended && length bs == 0) over (sight_by ended (length bs) (packet_of bs))

-- what is shown is what the whole stream shows: the bytes at hand and whatever follows, which is nothing once it has ended
abbrev pub Right : Bool → List ℕ → Sight → Type 0
Right ended bs (whole p size) =
    (more : List ℕ) → (ended ≡ true → more ≡ []) → packet_of (bs ++ more) ≡ Ok (record { packet = p; rest = drop size bs ++ more })
Right ended bs (refused f) = (more : List ℕ) → (ended ≡ true → more ≡ []) → packet_of (bs ++ more) ≡ Err f
Right ended bs wanting = (ended ≡ false) × (length bs < 1474)
Right ended bs over = (ended ≡ true) × (bs ≡ [])
