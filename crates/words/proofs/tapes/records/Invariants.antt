-- the tape so far, and the records of the lines that are left, are those of the whole
use Rattle.std.proofs.Common.{◌≡◌, ◌+◌, vec_items}
use Rattle.tokens.specs.Lines.{script_lines}
use Rattle.words.proofs.tapes.records.Given as goal
use Rattle.words.specs.Tapes.{front, lines_records}

abbrev pub invariant-loop-index : goal.invariant-loop-index
invariant-loop-index l =
    (goal.iterator-loop-index).can_next l.index-iterator
    × (goal.iterator-loop-index).is_finite l.index-iterator
    × (front (vec_items l.tape) (lines_records (l.index-iterator.count + 1) l.index-iterator.iter) ≡ lines_records 1 (script_lines l.text))
