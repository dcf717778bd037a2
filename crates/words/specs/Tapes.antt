-- tapes and texts, each made from the other
use Rattle.std.specs.Prelude.{◌≡◌, ℕ, ◌+◌, ◌^◌, cond, ◌⊎◌, List, [], ◌∷◌, ◌++◌, length, Some, None, Ok, Err, Option, Result, MatchResult, nat_lt}
use Rattle.tokens.specs.Lines.{is_silent, script_lines}
use Rattle.refusals.specs.declared.Refusal.{Refusal}
use Rattle.tape.specs.Reader.{read_tape}
use Rattle.tape.specs.Record.{encoded}
use Rattle.tape.specs.declared.item.Item.{Item}
use Rattle.tape.specs.declared.refusal.TapeRefusal.{TapeRefusal}
use Rattle.words.specs.Line.{item_text}
use Rattle.words.specs.Parse.{parse_line}
use Rattle.words.specs.declared.fault.Fault.{Fault}
use Rattle.words.specs.declared.fault.Fault.TheVariants.{Line, Item as ItemRefused, Tape, LongTape, LongText, Memory}

-- an answer that is given, unless no memory is left
abbrev pub Tells : {X Y : Type 0} → (X → Y) → Result X Fault → Result Y Fault → Type 0
Tells f r told = MatchResult r (λ x. told ≡ Ok (f x)) (λ e. (e ≡ Memory) ⊎ (told ≡ Err e))

-- a line for each item
abbrev pub items_text : List Item → List ℕ
items_text [] = []
items_text (i ∷ is) = item_text i ++ (10 ∷ items_text is)

abbrev pub text_or : Result (List Item) TapeRefusal → Result (List ℕ) Fault
text_or (Ok items) = Ok (items_text items)
text_or (Err e) = Err (Tape e)

-- the text of a tape
abbrev pub tape_text : List ℕ → Result (List ℕ) Fault
tape_text tape = cond (nat_lt (2 ^ 16) (length tape)) (Err LongTape) (text_or (read_tape tape 4096))

-- the record of a line's item, if it is one, by the line's number
abbrev pub record_or : ℕ → Result (List ℕ) Refusal → Result (List ℕ) Fault
record_or n (Ok bytes) = Ok bytes
record_or n (Err e) = Err (ItemRefused n e)

abbrev pub item_record : ℕ → Option Item → Result (List ℕ) Fault
item_record n None = Err (Line n)
item_record n (Some i) = record_or n (encoded i)

-- the record of a line, or nothing where it is blank or a comment
abbrev pub line_record : ℕ → List ℕ → Result (List ℕ) Fault
line_record n line = cond (is_silent line) (Ok []) (item_record n (parse_line line))

-- bytes in front of what follows
abbrev pub front : List ℕ → Result (List ℕ) Fault → Result (List ℕ) Fault
front xs (Ok ys) = Ok (xs ++ ys)
front xs (Err e) = Err e

-- one part after another: the first fault counts
abbrev pub followed : Result (List ℕ) Fault → Result (List ℕ) Fault → Result (List ℕ) Fault
followed (Ok xs) rest = front xs rest
followed (Err e) rest = Err e

-- the records of lines, the first of number n
abbrev pub lines_records : ℕ → List (List ℕ) → Result (List ℕ) Fault
lines_records n [] = Ok []
lines_records n (line ∷ lines) = followed (line_record n line) (lines_records (n + 1) lines)

-- not more than a tape has
abbrev pub limited : Result (List ℕ) Fault → Result (List ℕ) Fault
limited (Ok bytes) = cond (nat_lt (2 ^ 16) (length bytes)) (Err LongTape) (Ok bytes)
limited (Err e) = Err e

-- the tape of a text
abbrev pub text_tape : List ℕ → Result (List ℕ) Fault
text_tape text = cond (nat_lt (2 ^ 20) (length text)) (Err LongText) (limited (lines_records 1 (script_lines text)))
