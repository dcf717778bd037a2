-- numbers as a script writes them: hexadecimal digits, after 0x or not
use Rattle.std.specs.Prelude.{ℕ, ◌+◌, ◌*◌, cond, ◌&&◌, List, [], ◌∷◌, length, drop, Some, None, Option, ◌==◌, slice_index}
use Rattle.bank.specs.Content.{between}
use Rattle.tokens.specs.Digits.{digit_value}
use Rattle.tokens.specs.Options.{and_then}

-- the number that digits write, after those that write n
abbrev pub digits_value : ℕ → List ℕ → Option ℕ
digits_value n [] = Some n
digits_value n (c ∷ cs) = and_then (digit_value c) (λ d. digits_value (16 * n + d) cs)

-- a word without the 0x in front
abbrev pub bare : List ℕ → List ℕ
bare w = cond (slice_index w 0 == 48 && slice_index w 1 == 120) (drop 2 w) w

-- 1 to 16 digits
abbrev pub number_value : List ℕ → Option ℕ
number_value w = cond (between 1 (length (bare w)) 16) (digits_value 0 (bare w)) None
