-- the fields of a line: numbers, each behind its label
use Rattle.std.specs.Prelude.{ℕ, cond, List, [], ◌∷◌, Some, None, Option}
use Rattle.tokens.specs.Options.{and_then}
use Rattle.std.specs.Option.{option_map}
use Rattle.std.specs.Str.{bytes_eq}
use Rattle.words.specs.Numbers.{number_value}

-- a number, and the words after it
abbrev pub number_first : List (List ℕ) → Option (ℕ × List (List ℕ))
number_first [] = None
number_first (w ∷ ws) = option_map (λ n. (n, ws)) (number_value w)

-- the number behind a label, and the words after it
abbrev pub field_of : List ℕ → List (List ℕ) → Option (ℕ × List (List ℕ))
field_of label [] = None
field_of label (w ∷ ws) = cond (bytes_eq w label) (number_first ws) None

-- a number, where no word is left
abbrev pub ended : ℕ → List (List ℕ) → Option ℕ
ended n [] = Some n
ended n (w ∷ ws) = None

-- one, two or three fields, and no more
abbrev pub one_of : List ℕ → List (List ℕ) → Option ℕ
one_of a ws = and_then (field_of a ws) (λ p. ended p.0 p.1)

abbrev pub two_of : List ℕ → List ℕ → List (List ℕ) → Option (ℕ × ℕ)
two_of a b ws = and_then (field_of a ws) (λ p. option_map (λ y. (p.0, y)) (one_of b p.1))

abbrev pub three_of : List ℕ → List ℕ → List ℕ → List (List ℕ) → Option (ℕ × ℕ × ℕ)
three_of a b c ws = and_then (field_of a ws) (λ p. option_map (λ q. (p.0, q.0, q.1)) (two_of b c p.1))

-- so many fields, and no more
abbrev pub fields_of : List (List ℕ) → List (List ℕ) → Option (List ℕ)
fields_of [] [] = Some []
fields_of [] (w ∷ ws) = None
fields_of (label ∷ labels) ws = and_then (field_of label ws) (λ p. option_map (λ ns. p.0 ∷ ns) (fields_of labels p.1))
