-- Every cause of a refusal: its number, its layer, what stands beside it, and its words. One line for each case.
use Rattle.std.specs.Prelude.{ℕ, List, ◌++◌, codes}
use Rattle.std.specs.Fmt.{decimal}
use Rattle.fault.specs.declared.Layer.{Layer}
use Rattle.fault.specs.declared.Layer.TheVariants.{Packet, Message, Book, Day}
use Rattle.fault.specs.declared.Fault.{Fault}
use Rattle.fault.specs.declared.Fault.TheVariants.{ShortPacket, BlockPastEnd, BlockPastLimit, NumberTooLarge, NoSuchBlock, NotRunning, NotNext, Malformed, FieldNotAllowed, OtherStock, WrongSecond, OutsideHours, TokenInUse, NotTheIssuer, SaleStands, AboveTop, BookFull, NotAboveLast, NotFound, NotReduced, ValueOutOfRange, BookUnfit, WrongStage, TooFewPlaces}

pub record Cause : Type 0 where
  pub number : ℕ
  pub layer : Layer
  pub beside : ℕ

abbrev cause : ℕ → Layer → ℕ → Cause
cause n l b = record { number = n; layer = l; beside = b }

abbrev pub cause_of : Fault → Cause
cause_of (ShortPacket length) = cause 1 Packet length
cause_of (BlockPastEnd offset) = cause 2 Packet offset
cause_of (BlockPastLimit offset) = cause 3 Packet offset
cause_of (NumberTooLarge first) = cause 4 Packet first
cause_of (NoSuchBlock blocks) = cause 5 Packet blocks
cause_of (NotRunning stage) = cause 6 Day stage
cause_of (NotNext next) = cause 7 Day next
cause_of (Malformed number) = cause 8 Message number
cause_of (FieldNotAllowed offset) = cause 9 Message offset
cause_of (OtherStock number) = cause 10 Day number
cause_of (WrongSecond clock) = cause 11 Day clock
cause_of (OutsideHours clock) = cause 12 Day clock
cause_of (TokenInUse number) = cause 13 Day number
cause_of (NotTheIssuer number) = cause 14 Day number
cause_of (SaleStands number) = cause 15 Day number
cause_of (AboveTop top) = cause 16 Book top
cause_of (BookFull capacity) = cause 17 Book capacity
cause_of (NotAboveLast last) = cause 18 Book last
cause_of (NotFound number) = cause 19 Book number
cause_of (NotReduced number) = cause 20 Day number
cause_of (ValueOutOfRange value) = cause 21 Day value
cause_of (BookUnfit count) = cause 22 Day count
cause_of (WrongStage stage) = cause 23 Day stage
cause_of (TooFewPlaces live) = cause 24 Day live

-- the name under which a layer is shown
abbrev pub name_of : Layer → List ℕ
name_of Packet = codes "packet"
name_of Message = codes "message"
name_of Book = codes "book"
name_of Day = codes "day"

-- a cause in words
abbrev pub words_of : Fault → List ℕ
words_of (ShortPacket length) = codes "packet under 20 bytes"
words_of (BlockPastEnd offset) = codes "block passes the end of the bytes"
words_of (BlockPastLimit offset) = codes "block ends past byte 1472"
words_of (NumberTooLarge first) = codes "first number plus blocks above 2^64 - 1"
words_of (NoSuchBlock blocks) = codes "no such block"
words_of (NotRunning stage) = codes "day not running"
words_of (NotNext next) = codes "number not the next, or 2^64 - 1"
words_of (Malformed number) = codes "unknown kind or wrong length"
words_of (FieldNotAllowed offset) = codes "side, units, price or state not allowed"
words_of (OtherStock number) = codes "other stock"
words_of (WrongSecond clock) = codes "second not the clock's plus 1"
words_of (OutsideHours clock) = codes "outside its hours"
words_of (TokenInUse number) = codes "token of a live bid or the sale"
words_of (NotTheIssuer number) = codes "sale not from the issuer's firm"
words_of (SaleStands number) = codes "a sale stands"
words_of (AboveTop top) = codes "limit above the top"
words_of (BookFull capacity) = codes "book full"
words_of (NotAboveLast last) = codes "number not above the book's last"
words_of (NotFound number) = codes "no such token or number"
words_of (NotReduced number) = codes "cancel above 0 on a bid, or sale not made smaller"
words_of (ValueOutOfRange value) = codes "value 0 or above 20000000000000"
words_of (BookUnfit count) = codes "book not empty, capacity 0 or above 4096, or top 0"
words_of (WrongStage stage) = codes "dealing when not due, or calling off when not called off"
words_of (TooFewPlaces live) = codes "fewer places for fills than live bids"

-- a fault as it is shown: number, layer, what stands beside it, words
abbrev pub text_of : Fault → List ℕ
text_of f = decimal (cause_of f).number ++ codes " " ++ name_of (cause_of f).layer ++ codes " " ++ decimal (cause_of f).beside ++ codes ": " ++ words_of f
