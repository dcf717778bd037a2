-- a text cut at its bytes of one kind: a text into lines, a line into words
use Rattle.std.specs.Prelude.{ℕ, cond, List, [], ◌∷◌, Some, None, Option, ◌==◌}

-- what stands before the first such byte, or all
abbrev pub before : ℕ → List ℕ → List ℕ
before b [] = []
before b (x ∷ xs) = cond (x == b) [] (x ∷ before b xs)

-- what follows the first such byte, if there is one
abbrev pub after : ℕ → List ℕ → Option (List ℕ)
after b [] = None
after b (x ∷ xs) = cond (x == b) (Some xs) (after b xs)

-- a byte in front of the first part
abbrev pub extend : ℕ → List (List ℕ) → List (List ℕ)
extend x [] = (x ∷ []) ∷ []
extend x (p ∷ ps) = (x ∷ p) ∷ ps
