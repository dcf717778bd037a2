-- the words of a line, parted by single spaces
use Rattle.std.specs.Prelude.{ℕ, cond, List, [], ◌∷◌, Some, None, Option, ◌==◌}
use Rattle.tokens.specs.Cut.{extend}

-- one word more than there are spaces: of two spaces in a row, or one at an end, a word is empty
abbrev pub words : List ℕ → List (List ℕ)
words [] = [] ∷ []
words (x ∷ xs) = cond (x == 32) ([] ∷ words xs) (extend x (words xs))

-- the words after the first space, if there is one
abbrev pub words_left : Option (List ℕ) → List (List ℕ)
words_left None = []
words_left (Some xs) = words xs
