-- the numbers in their places, and those of the fields that are left, are those of the whole
use Rattle.std.proofs.Common.{◌≡◌, ◌++◌, drop, length, map, take}
use Rattle.std.specs.Option.{option_map}
use Rattle.words.proofs.fields.fields.Given as goal
use Rattle.words.specs.Fields.{fields_of}

abbrev pub invariant-loop-i : goal.invariant-loop-i
invariant-loop-i g l =
    (goal.iterator-loop-i g).can_next l.words
    × (goal.iterator-loop-i g).is_finite l.words
    × (length l.numbers ≡ g.row.N)
    × (fields_of (map (λ x. x.now) l.labels) l.fn.words ≡ option_map (λ ns. take l.i l.numbers ++ ns) (fields_of (map (λ x. x.now) (drop l.i l.labels)) l.words))
