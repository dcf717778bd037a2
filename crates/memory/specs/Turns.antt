-- two lists in turn
use Rattle.std.specs.Prelude.{ℕ, List, [], ◌∷◌, ◌++◌, length, drop}

-- one of the first, one of the second, and so on to the end of the shorter one
unfoldable pub turns : List ℕ → List ℕ → List ℕ
turns [] ys = []
turns (x ∷ xs) [] = []
turns (x ∷ xs) (y ∷ ys) = x ∷ y ∷ turns xs ys

-- what the longer one has past that
unfoldable pub unturned : List ℕ → List ℕ → List ℕ
unturned xs ys = drop (length ys) xs ++ drop (length xs) ys
