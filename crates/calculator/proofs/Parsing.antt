-- the numbers of a line, word by word
use Rattle.std.proofs.Common.{ℕ, List, ◌++◌, Option}
use Rattle.std.specs.Option.{option_map}

-- a list in front of the numbers that are left
abbrev pub in_front : List ℕ → Option (List ℕ) → Option (List ℕ)
in_front xs o = option_map (λ ns. xs ++ ns) o
