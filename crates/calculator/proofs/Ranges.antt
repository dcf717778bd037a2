-- a range as std writes its two numbers
use Rattle.std.proofs.Common.{◌≡◌, ℕ, ◌-◌, ◌%◌, ◌^◌, ◌<◌, false, List, [], ◌∷◌, ◌++◌, Some, sym, ap, ◌∙◌, arith}
use Rattle.calculator.specs.Text.{range_text}
use Rattle.std.specs.Fmt.{digits, format_spec, padded_integral}
use Rattle.tokens.proofs.Hex.{padded_hex, padded_low}
use Rattle.tokens.specs.Digits.{hex_text}

-- what `{:09x}` writes of the nine lowest digits
abbrev pub nine : ℕ → List ℕ
nine n = padded_integral (format_spec 32 0 4 9 (2 ^ 64 - 1)) false [] (digits 16 false (n % 2 ^ 36))

pub range_padded : (first past : ℕ) → range_text (Some (first, past)) ≡ nine first ++ (32 ∷ nine past)
range_padded first past =
    sym (ap (λ (l : List ℕ). l ++ (32 ∷ nine past)) (padded_low 8 first (omega arith)) ∙ ap (λ (l : List ℕ). hex_text 9 first ++ (32 ∷ l)) (padded_low 8 past (omega arith)))

-- what `{:08x}` writes of a word
pub word_padded : (w : ℕ) → w < 2 ^ 32 → hex_text 8 w ≡ padded_integral (format_spec 32 0 4 8 (2 ^ 64 - 1)) false [] (digits 16 false w)
word_padded w h = sym (padded_hex 7 w (omega arith) h)
