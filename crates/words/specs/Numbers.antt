-- numbers as a text writes them: decimal digits, or hexadecimal ones after 0x
use Rattle.std.specs.Prelude.{ℕ, ◌+◌, ◌*◌, ◌^◌, cond, ◌&&◌, List, [], ◌∷◌, length, drop, Some, None, Option, ◌==◌, nat_lt, slice_index}
use Rattle.tokens.specs.Digits.{digit_value}
use Rattle.tokens.specs.Options.{and_then}

-- a number of 64 bits
abbrev pub fitting : ℕ → Option ℕ
fitting n = cond (nat_lt n (2 ^ 64)) (Some n) None

-- the number n with one digit more
abbrev pub next_value : ℕ → ℕ → ℕ → Option ℕ
next_value base n c = and_then (digit_value c) (λ d. cond (nat_lt d base) (fitting (n * base + d)) None)

-- the number that digits write, after those that write n
abbrev pub digits_value : ℕ → ℕ → List ℕ → Option ℕ
digits_value base n [] = Some n
digits_value base n (c ∷ cs) = and_then (next_value base n c) (λ m. digits_value base m cs)

-- one or more digits
abbrev pub read_value : ℕ → List ℕ → Option ℕ
read_value base cs = cond (length cs == 0) None (digits_value base 0 cs)

abbrev pub number_value : List ℕ → Option ℕ
number_value w = cond (slice_index w 0 == 48 && slice_index w 1 == 120) (read_value 16 (drop 2 w)) (read_value 10 w)
