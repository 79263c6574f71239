-- What the bytes of a message mean.
use Rattle.std.specs.Prelude.{ℕ, cond, ◌&&◌, List, length, Some, None, Ok, Err, Option, Result, ◌==◌, slice_index}
use Rattle.fault.specs.declared.Fault.{Fault}
use Rattle.fault.specs.declared.Fault.TheVariants.{Malformed, FieldNotAllowed}
use Rattle.wire.specs.Bytes.{field, value}
use Rattle.wire.specs.Fields.{side_of, state_of, units_of, terms_of}
use Rattle.wire.specs.declared.message.State.{State}
use Rattle.wire.specs.declared.message.Terms.{Terms}
use Rattle.wire.specs.declared.message.Second as seconds
use Rattle.wire.specs.declared.message.TradingAction as actions
use Rattle.wire.specs.declared.message.Order as orders
use Rattle.wire.specs.declared.message.Cancel as cancels
use Rattle.wire.specs.declared.message.Message as messages
use Rattle.wire.specs.declared.message.Message.TheVariants as variants

-- a message by its values, wherever its bytes lie
pub data Meaning : Type 0 where
  -- the second that begins
  second : ℕ → Meaning
  -- stock, state
  action : List ℕ → State → Meaning
  -- token, terms, units, stock, firm
  order : List ℕ → Terms → ℕ → List ℕ → List ℕ → Meaning
  -- token, units wanted
  cancel : List ℕ → ℕ → Meaning

-- a field that must be allowed: refused at its offset, else what follows from its value
abbrev pub allowed : {X Y : Type 0} → Option X → ℕ → (X → Result Y Fault) → Result Y Fault
allowed None offset then = Err (FieldNotAllowed offset)
allowed (Some x) offset then = then x

-- what a message of the right kind and length means
abbrev pub second_of : List ℕ → Result Meaning Fault
second_of bs = Ok (second (value 1 4 bs))

abbrev pub action_of : List ℕ → Result Meaning Fault
action_of bs = allowed (state_of (slice_index bs 13)) 13 (λ s. Ok (action (field 5 8 bs) s))

abbrev pub order_of : List ℕ → Result Meaning Fault
order_of bs =
    allowed (side_of (slice_index bs 15)) 15 (λ side.
    allowed (units_of (value 16 4 bs)) 16 (λ units.
    allowed (terms_of side (value 28 4 bs)) 28 (λ terms.
    Ok (order (field 1 14 bs) terms units (field 20 8 bs) (field 36 4 bs)))))

abbrev pub cancel_of : List ℕ → Result Meaning Fault
cancel_of bs = Ok (cancel (field 1 14 bs) (value 15 4 bs))

-- the letter that tells the kind: the first byte
abbrev pub kind_of : List ℕ → ℕ
kind_of bs = slice_index bs 0

-- what bytes mean that have to be of one kind: its letter, its length, what its fields mean
abbrev pub of_kind : ℕ → ℕ → (List ℕ → Result Meaning Fault) → ℕ → List ℕ → Result Meaning Fault
of_kind letter size then number bs = cond (length bs == size && kind_of bs == letter) (then bs) (Err (Malformed number))

-- what the bytes of the message of that number mean, by the kinds T, H, O and X
abbrev pub message_of : ℕ → List ℕ → Result Meaning Fault
message_of number bs =
    cond (kind_of bs == 84) (of_kind 84 5 second_of number bs)
    (cond (kind_of bs == 72) (of_kind 72 19 action_of number bs)
    (cond (kind_of bs == 79) (of_kind 79 49 order_of number bs)
    (cond (kind_of bs == 88) (of_kind 88 19 cancel_of number bs)
    (Err (Malformed number)))))

-- what was read, by its values
abbrev pub meant : {X : Type 0} → (X → Meaning) → Result X Fault → Result Meaning Fault
meant f (Ok x) = Ok (f x)
meant f (Err e) = Err e

abbrev pub by_second : seconds.Second → Meaning
by_second v = second v.second

abbrev pub by_action : actions.TradingAction → Meaning
by_action v = action v.stock.now v.state

abbrev pub by_order : orders.Order → Meaning
by_order v = order v.token.now v.terms v.units v.stock.now v.firm.now

abbrev pub by_cancel : cancels.Cancel → Meaning
by_cancel v = cancel v.token.now v.units

abbrev pub by_message : messages.Message → Meaning
by_message (variants.Second v) = by_second v
by_message (variants.TradingAction v) = by_action v
by_message (variants.Order v) = by_order v
by_message (variants.Cancel v) = by_cancel v
