-- the text so far, and the lines of the items that are left, are those of the whole
use Rattle.std.proofs.Common.{◌≡◌, ◌++◌, drop, string_bytes}
use Rattle.words.proofs.texts.lines.Given as goal
use Rattle.words.specs.Tapes.{items_text}

abbrev pub invariant-loop-item : goal.invariant-loop-item
invariant-loop-item l = string_bytes l.text ++ items_text (drop l.item-index l.items) ≡ items_text l.items
