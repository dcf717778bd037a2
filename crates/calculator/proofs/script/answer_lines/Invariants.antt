-- the text so far, and what the lines that are left print, are what the whole prints
use Rattle.std.proofs.Common.{◌≡◌, ◌++◌, string_bytes}
use Rattle.bank.specs.Content.{blank}
use Rattle.calculator.proofs.script.answer_lines.Given as goal
use Rattle.calculator.specs.Script.{lines_text}
use Rattle.tokens.specs.Lines.{script_lines}

abbrev pub invariant-loop-index : goal.invariant-loop-index
invariant-loop-index l =
    (goal.iterator-loop-index).can_next l.index-iterator
    × (goal.iterator-loop-index).is_finite l.index-iterator
    × (string_bytes l.text ++ lines_text l.bank l.index-iterator.count l.index-iterator.iter ≡ lines_text blank 0 (script_lines l.script))
