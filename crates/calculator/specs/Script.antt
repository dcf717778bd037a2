-- a script of commands, one to a line, and the answers to it
use Rattle.std.specs.Prelude.{ℕ, ◌+◌, ◌^◌, cond, List, [], ◌∷◌, ◌++◌, length, codes, decimal, Option, nat_lt}
use Rattle.bank.specs.Content.{blank}
use Rattle.bank.specs.declared.entry.Entry.{Entry}
use Rattle.tokens.specs.Lines.{is_silent, script_lines}
use Rattle.calculator.specs.Parse.{parse_line}
use Rattle.calculator.specs.Reply.{content_then, reply_text}
use Rattle.calculator.specs.Run.{answer_of}
use Rattle.calculator.specs.declared.answer.Answer.{Answer}
use Rattle.std.specs.Option.{option_map}

-- an answer behind the index of its line
abbrev pub reply_line : ℕ → Option Answer → List ℕ
reply_line i a = decimal i ++ (32 ∷ (reply_text a ++ (10 ∷ [])))

-- what is printed of a line: nothing where it is blank or a comment
abbrev pub line_text : List Entry → ℕ → List ℕ → List ℕ
line_text l i s = cond (is_silent s) [] (reply_line i (option_map (answer_of l) (parse_line s)))

-- what the bank holds after a line
abbrev pub content_line : List Entry → List ℕ → List Entry
content_line l s = cond (is_silent s) l (content_then l (parse_line s))

-- what is printed of lines, the first of index i
abbrev pub lines_text : List Entry → ℕ → List (List ℕ) → List ℕ
lines_text l i [] = []
lines_text l i (s ∷ ss) = line_text l i s ++ lines_text (content_line l s) (i + 1) ss

-- what is printed of a script, on a new bank
abbrev pub script_text : List ℕ → List ℕ
script_text s = cond (nat_lt (2 ^ 20) (length s)) (codes "script too long\n") (lines_text blank 0 (script_lines s))
