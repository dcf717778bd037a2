-- the lines of a text
use Rattle.std.specs.Prelude.{ℕ, ◌-◌, Bool, true, cond, List, [], ◌∷◌, map, length, take, Some, None, Option, ◌==◌, slice_index}
use Rattle.tokens.specs.Cut.{extend}

-- each line ends with LF, and the last may lack it
abbrev pub lines : List ℕ → List (List ℕ)
lines [] = []
lines (x ∷ xs) = cond (x == 10) ([] ∷ lines xs) (extend x (lines xs))

-- the lines after the first LF, if there is one
abbrev pub lines_left : Option (List ℕ) → List (List ℕ)
lines_left None = []
lines_left (Some xs) = lines xs

-- a line without one CR at its end
abbrev pub without_return : List ℕ → List ℕ
without_return l = cond (slice_index l (length l - 1) == 13) (take (length l - 1) l) l

-- the lines of a text without their ends
abbrev pub script_lines : List ℕ → List (List ℕ)
script_lines s = map without_return (lines s)

-- blank, or a comment
abbrev pub is_silent : List ℕ → Bool
is_silent [] = true
is_silent (x ∷ xs) = x == 35
