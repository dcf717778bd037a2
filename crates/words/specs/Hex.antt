-- numbers in hexadecimal: after 0x, with no zeros in front
use Rattle.std.specs.Prelude.{ℕ, zero, suc, ◌/◌, ◌%◌, ◌^◌, cond, List, [], ◌∷◌, ◌++◌, ◌==◌}
use Rattle.std.specs.Char.{digit_char}

-- the last digit of the front of a number: nothing where the front is zero
abbrev pub front_digit : ℕ → List ℕ
front_digit m = cond (m == 0) [] (digit_char (m % 16) ∷ [])

-- the digits from place k on; the last is written even where it is zero
abbrev pub digits_from : ℕ → ℕ → List ℕ
digits_from zero n = digit_char (n % 16) ∷ []
digits_from (suc k) n = front_digit (n / 16 ^ suc k) ++ digits_from k n

unfoldable pub hex_text : ℕ → List ℕ
hex_text n = 48 ∷ 120 ∷ digits_from 15 n
