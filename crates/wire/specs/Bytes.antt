-- Fields of a list of bytes, by their offset from 0.
use Rattle.std.specs.Prelude.{ℕ, zero, suc, ◌+◌, ◌*◌, List, take, drop, slice_index}

-- the `size` bytes that start at `from`
abbrev pub field : ℕ → ℕ → List ℕ → List ℕ
field from size bs = take size (drop from bs)

-- the number in the `size` bytes that start at `from`, the highest byte first
abbrev pub value : ℕ → ℕ → List ℕ → ℕ
value from zero bs = 0
value from (suc n) bs = value from n bs * 256 + slice_index bs (from + n)
