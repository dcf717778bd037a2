-- commands on a bank: the answer, and what the bank then holds
use Rattle.std.specs.Prelude.{List}
use Rattle.bank.specs.Content.{blank}
use Rattle.bank.specs.Ranges.{range_at, range_word}
use Rattle.bank.specs.Registers.{read_answer, write_answer, written}
use Rattle.bank.specs.Verdicts.{verdict_of}
use Rattle.bank.specs.declared.entry.Entry.{Entry}
use Rattle.calculator.specs.declared.answer.Answer.{Answer}
use Rattle.calculator.specs.declared.answer.Answer.TheVariants.{Word as WordIs, Verdict as VerdictIs, Range as RangeIs, Done}
use Rattle.calculator.specs.declared.command.Command.{Command}
use Rattle.calculator.specs.declared.command.Command.TheVariants.{Read, Write, Check, Range, Word, Reset}

-- the answer on a bank of these entries
abbrev pub answer_of : List Entry → Command → Answer
answer_of l (Read p n) = WordIs (read_answer l p n)
answer_of l (Write p n w) = WordIs (write_answer l p n w)
answer_of l (Check p k a size) = VerdictIs (verdict_of l p k a size)
answer_of l (Range i) = RangeIs (range_at l i)
answer_of l (Word base k) = WordIs (range_word base k)
answer_of l Reset = Done

-- only a write and a reset change the entries
abbrev pub content_after : List Entry → Command → List Entry
content_after l (Read p n) = l
content_after l (Write p n w) = written l p n w
content_after l (Check p k a size) = l
content_after l (Range i) = l
content_after l (Word base k) = l
content_after l Reset = blank
