-- the letter of a digit: its value, and what it is not
use Rattle.std.proofs.Common.{◌≡◌, ℕ, zero, suc, ◌<◌, Bool, true, false, not, ◌&&◌, eqb, Some, None, Option, refl, ap, inl, inr, arith}
use Rattle.std.proofs.lemmas.Bool.{and_parts, cases_eq, eqb-true, false≢true, not-true}
use Rattle.std.specs.Char.{digit_char}
use Rattle.tokens.specs.Digits.{digit_value}

-- a test passes at each number below n
abbrev all_below : (ℕ → Bool) → ℕ → Bool
all_below f zero = true
all_below f (suc n) = f n && all_below f n

pub below : (f : ℕ → Bool) (n k : ℕ) → all_below f n ≡ true → k < n → f k ≡ true
below f zero k t h = absurd (omega arith)
below f (suc n) k t h =
    elim (cases_eq k n) [
      | inl e ↦ rw e (and_parts (f n) (all_below f n) t).0
      | inr ne ↦ below f n k (and_parts (f n) (all_below f n) t).1 (omega arith)
    ]

is_some : Option ℕ → ℕ → Bool
is_some None d = false
is_some (Some e) d = eqb e d

some_from : (o : Option ℕ) (d : ℕ) → is_some o d ≡ true → o ≡ Some d
unfolding is_some
some_from None d t = absurd (false≢true t)
some_from (Some e) d t = ap Some (eqb-true e d t)

pub digit_back : (d : ℕ) → d < 16 → digit_value (digit_char d) ≡ Some d
unfolding is_some
digit_back d h = some_from (digit_value (digit_char d)) d (below (λ x. is_some (digit_value (digit_char x)) x) 16 d refl h)

pub digit_not_x : (d : ℕ) → d < 16 → eqb (digit_char d) 120 ≡ false
digit_not_x d h = not-true (eqb (digit_char d) 120) (below (λ x. not (eqb (digit_char x) 120)) 16 d refl h)
