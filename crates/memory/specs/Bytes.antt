-- bytes, and those that a memory keeps of a buffer
use Rattle.std.specs.Prelude.{ℕ, ◌^◌, ◌<◌, List, take, drop, slice_index}

-- each number is a byte
abbrev pub AllBytes : List ℕ → Type 0
AllBytes xs = (k : ℕ) → slice_index xs k < 256

-- at most 2 ^ 34 of them, and what is left over
unfoldable pub front : List ℕ → List ℕ
front xs = take (2 ^ 34) xs

unfoldable pub rest : List ℕ → List ℕ
rest xs = drop (2 ^ 34) xs
