-- what holds of every number, command and script
use Rattle.std.specs.Prelude.{◌≡◌, ℕ, ◌+◌, ◌^◌, ◌<◌, ◌≤◌, true, cond, List, [], ◌∷◌, ◌++◌, length, Some, codes, ◌==◌}
use Rattle.bank.specs.declared.entry.Entry.{Entry}
use Rattle.tokens.specs.Digits.{hex_text}
use Rattle.tokens.specs.Lines.{is_silent, script_lines}
use Rattle.calculator.specs.Numbers.{number_value}
use Rattle.calculator.specs.Parse.{parse_line}
use Rattle.calculator.specs.Run.{answer_of, content_after}
use Rattle.calculator.specs.Script.{content_line, line_text, script_text}
use Rattle.calculator.specs.declared.command.Command.{Command}
use Rattle.calculator.specs.declared.command.Command.TheVariants.{Read, Write, Check, Range, Word, Reset}

-- the digits that are written of a number are read as that number, after 0x too
abbrev pub NumbersReadBack : Type 0
NumbersReadBack =
    (k n : ℕ) → 1 ≤ k → k ≤ 16 → n < 16 ^ k
    → (number_value (hex_text k n) ≡ Some n) × (number_value (48 ∷ 120 ∷ hex_text k n) ≡ Some n)

-- numbers of sixteen digits, each behind a space
abbrev pub arguments : List ℕ → List ℕ
arguments [] = []
arguments (n ∷ ns) = 32 ∷ (hex_text 16 n ++ arguments ns)

-- a command as a line
abbrev pub line_of : Command → List ℕ
line_of (Read p n) = codes "read" ++ arguments (p ∷ n ∷ [])
line_of (Write p n w) = codes "write" ++ arguments (p ∷ n ∷ w ∷ [])
line_of (Check p k a size) = codes "check" ++ arguments (p ∷ k ∷ a ∷ size ∷ [])
line_of (Range i) = codes "range" ++ arguments (i ∷ [])
line_of (Word base k) = codes "word" ++ arguments (base ∷ k ∷ [])
line_of Reset = codes "reset"

abbrev pub InRange : Command → Type 0
InRange (Read p n) = (p < 2 ^ 64) × (n < 2 ^ 64)
InRange (Write p n w) = (p < 2 ^ 64) × (n < 2 ^ 64) × (w < 2 ^ 32)
InRange (Check p k a size) = (p < 2 ^ 64) × (k < 2 ^ 64) × (a < 2 ^ 64) × (size < 2 ^ 64)
InRange (Range i) = i < 16
InRange (Word base k) = (base < 2 ^ 64) × (k < 2 ^ 64)
InRange Reset = Unit {0}

-- every command can be written, and its line is parsed as that command
abbrev pub CommandsParse : Type 0
CommandsParse = (c : Command) → InRange c → parse_line (line_of c) ≡ Some c

-- after a write, a read of the same register is answered as the write was
abbrev pub WritesReadBack : Type 0
WritesReadBack = (l : List Entry) (p n w : ℕ) → answer_of (content_after l (Write p n w)) (Read p n) ≡ answer_of l (Write p n w)

-- a blank line or a comment prints nothing, and leaves the bank as it is
abbrev pub CommentsPass : Type 0
CommentsPass = (l : List Entry) (i : ℕ) (s : List ℕ) → is_silent s ≡ true → (line_text l i s ≡ []) × (content_line l s ≡ l)

-- what is printed of some lines is not changed by the lines after them
abbrev pub AnswersStand : Type 0
AnswersStand =
    (s t : List ℕ) → length (s ++ 10 ∷ t) ≤ 2 ^ 20
    → (rest : List ℕ) × (script_text (s ++ 10 ∷ t) ≡ script_text (s ++ 10 ∷ []) ++ rest)

-- the LFs of a text, and the lines that are neither blank nor a comment
abbrev pub line_ends : List ℕ → ℕ
line_ends [] = 0
line_ends (x ∷ xs) = cond (x == 10) 1 0 + line_ends xs

abbrev pub asking : List (List ℕ) → ℕ
asking [] = 0
asking (s ∷ ss) = cond (is_silent s) 0 1 + asking ss

-- each line that is neither blank nor a comment is answered by one line
abbrev pub LinesAnswered : Type 0
LinesAnswered = (s : List ℕ) → length s ≤ 2 ^ 20 → line_ends (script_text s) ≡ asking (script_lines s)
