-- the numbers in their places, and those of the words that are left, are those of the whole
use Rattle.std.proofs.Common.{◌≡◌, length, take}
use Rattle.calculator.proofs.Parsing.{in_front}
use Rattle.calculator.proofs.parse.numbers.Given as goal
use Rattle.calculator.specs.Parse.{numbers as numbers_of}

abbrev pub invariant-loop-place : goal.invariant-loop-place
invariant-loop-place g l =
    (goal.iterator-loop-place g).can_next l.words
    × (goal.iterator-loop-place g).is_finite l.words
    × (length l.place-items ≡ g.row.N)
    × (numbers_of l.fn.words ≡ in_front (take l.place-index l.place-items) (numbers_of l.words))
