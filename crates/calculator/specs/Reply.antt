-- what a line is answered, and what the bank then holds
use Rattle.std.specs.Prelude.{ℕ, List, Some, None, codes, Option}
use Rattle.bank.specs.declared.entry.Entry.{Entry}
use Rattle.calculator.specs.Run.{content_after}
use Rattle.calculator.specs.Text.{answer_text}
use Rattle.calculator.specs.declared.answer.Answer.{Answer}
use Rattle.calculator.specs.declared.command.Command.{Command}

-- a line that is no command is answered ?
abbrev pub reply_text : Option Answer → List ℕ
reply_text (Some a) = answer_text a
reply_text None = codes "?"

-- what the bank holds after the line's command
abbrev pub content_then : List Entry → Option Command → List Entry
content_then l (Some c) = content_after l c
content_then l None = l
