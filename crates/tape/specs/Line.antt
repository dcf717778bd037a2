-- a line of a report
use Rattle.std.specs.Prelude.{ℕ, ◌/◌, ◌%◌, false, List, [], ◌∷◌, ◌++◌, codes, decimal, Ok, Err, Result}
use Rattle.monitor.specs.declared.answer.Denial.{Denial}
use Rattle.monitor.specs.declared.answer.Denial.TheVariants.{Fault, Refused}
use Rattle.monitor.specs.declared.answer.Layer.TheVariants.{Protection, Memory}
use Rattle.refusals.specs.Numbers.{refusal_number}
use Rattle.std.specs.Fmt.{digit_glyph}
use Rattle.std.specs.List.{flat_map}
use Rattle.tape.specs.Record.{bytes_of}

-- ok, p or m and a fault's cause, or r and a refusal's number
abbrev pub code_text : Result ℕ Denial → List ℕ
code_text (Ok v) = codes "ok"
code_text (Err (Fault Protection cause)) = 112 ∷ decimal cause
code_text (Err (Fault Memory cause)) = 109 ∷ decimal cause
code_text (Err (Refused e)) = 114 ∷ decimal (refusal_number e)

-- the value that is answered, and zero where none is
abbrev pub value_of : Result ℕ Denial → ℕ
value_of (Ok v) = v
value_of (Err denial) = 0

-- the two hexadecimal digits of a byte, in lower case
abbrev pub byte_digits : ℕ → List ℕ
byte_digits b = digit_glyph false (b / 16) ∷ digit_glyph false (b % 16) ∷ []

-- the sixteen digits of a number
abbrev pub hex_text : ℕ → List ℕ
hex_text n = flat_map byte_digits (bytes_of 8 n)

-- the index, the code and the digits, with single spaces between them, and a line feed
abbrev pub line_text : ℕ → Result ℕ Denial → List ℕ
line_text index answer = decimal index ++ (32 ∷ (code_text answer ++ (32 ∷ (hex_text (value_of answer) ++ (10 ∷ [])))))
