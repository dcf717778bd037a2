-- a number that std writes with zeros in front, as its lowest hexadecimal digits
use Rattle.std.proofs.Common.{◌≡◌, ℕ, zero, suc, ◌+◌, ◌-◌, ◌*◌, ◌/◌, ◌%◌, ◌^◌, ◌<◌, ◌≤◌, false, eqb, List, [], ◌∷◌, ◌++◌, length, replicate, sym, refl, ap, ◌∙◌, mul_comm, mod-lt, arith}
use Rattle.std.proofs.lemmas.Bool.{cond_both, cond-true, eq-eqb, eqb-true}
use Rattle.std.proofs.lemmas.List.{append_assoc, append-nil}
use Rattle.std.specs.Char.{digit_char}
use Rattle.std.specs.Fmt.{char_count, digits, digits_onto, format_spec, padded_integral}
use Rattle.tokens.specs.Digits.{hex_text}
use Rattle.std.proofs.Math.Arith.{mod-mul}
use native.Mathlib.Nat.{div-div-eq-div-mul, pow-succ', zero-div}

-- the last digit, behind those of the front
hex_last : (k n : ℕ) → hex_text (suc k) n ≡ hex_text k (n / 16) ++ (digit_char (n % 16) ∷ [])
hex_last zero n = ap (λ (d : ℕ). digit_char d ∷ []) {x = n / 16 ^ zero % 16} {y = n % 16} (omega arith)
hex_last (suc k) n =
    let cut : n / 16 ^ suc k ≡ n / 16 / 16 ^ k = sym (div-div-eq-div-mul n 16 (16 ^ k) ∙ ap (λ (p : ℕ). n / p) (sym (pow-succ' 16 k))) in
    ap (λ (d : ℕ). digit_char (d % 16) ∷ hex_text (suc k) n) cut ∙ ap (λ (l : List ℕ). digit_char (n / 16 / 16 ^ k % 16) ∷ l) (hex_last k n)

pub some_power : (k : ℕ) → 0 < 16 ^ k
some_power zero = omega arith
some_power (suc k) = rw (pow-succ' 16 k) (omega (arith, some_power k))

hex_zero : (k : ℕ) → hex_text k 0 ≡ replicate k 48
hex_zero zero = refl
hex_zero (suc k) =
    let none : 0 / 16 ^ k % 16 ≡ 0 = omega (arith, zero-div (16 ^ k)) in
    ap (λ (d : ℕ). digit_char d ∷ hex_text k 0) none ∙ ap (λ (l : List ℕ). 48 ∷ l) (hex_zero k)

-- only the lowest digits count
hex_low : (k n : ℕ) → hex_text k (n % 16 ^ k) ≡ hex_text k n
hex_low zero n = refl
hex_low (suc k) n =
    let m : ℕ = n % 16 ^ suc k in
    let parts : m ≡ (n / 16 % 16 ^ k) * 16 + n % 16 = ap (λ (p : ℕ). n % p) (pow-succ' 16 k ∙ mul_comm 16 (16 ^ k)) ∙ mod-mul n (some_power k) (omega arith) in
    let front : m / 16 ≡ n / 16 % 16 ^ k = omega (arith, parts) in
    let low : m % 16 ≡ n % 16 = omega (arith, parts) in
    hex_last k m
    ∙ ap (λ (f : ℕ). hex_text k f ++ (digit_char (m % 16) ∷ [])) front
    ∙ ap (λ (l : List ℕ). l ++ (digit_char (m % 16) ∷ [])) (hex_low k (n / 16))
    ∙ ap (λ (d : ℕ). hex_text k (n / 16) ++ (digit_char d ∷ [])) low
    ∙ sym (hex_last k n)

-- the last digit of n, and what stands after it
module _ (n : ℕ) (acc : List ℕ) where
  abbrev ended : List ℕ
  ended = digit_char (n % 16) ∷ acc

  whole : (k : ℕ) → hex_text k (n / 16) ++ ended ≡ hex_text (suc k) n ++ acc
  whole k = sym (append_assoc (hex_text k (n / 16)) (digit_char (n % 16) ∷ []) acc) ∙ ap (λ (l : List ℕ). l ++ acc) (sym (hex_last k n))

  first : (k : ℕ) → n / 16 ≡ 0 → replicate (suc k + length acc - length ended) 48 ++ ended ≡ hex_text (suc k) n ++ acc
  first k e =
      ap (λ (m : ℕ). replicate m 48 ++ ended) {x = suc k + length acc - length ended} {y = k} (omega arith)
      ∙ ap (λ (l : List ℕ). l ++ ended) (sym (hex_zero k) ∙ ap (hex_text k) (sym e))
      ∙ whole k

-- k + 1 digits at most, with zeros in front
hex_onto : (k j n : ℕ) (acc : List ℕ) → n < 16 ^ suc k → k ≤ j
    → replicate (suc k + length acc - length (digits_onto (suc j) 16 false n acc)) 48 ++ digits_onto (suc j) 16 false n acc ≡ hex_text (suc k) n ++ acc
hex_onto zero j n acc h le =
    let none : n / 16 ≡ 0 = omega arith in
    ap (λ (xs : List ℕ). replicate (1 + length acc - length xs) 48 ++ xs) (cond-true (eqb (n / 16) 0) (ended n acc) (digits_onto j 16 false (n / 16) (ended n acc)) (eq-eqb (n / 16) 0 none))
    ∙ first n acc 0 none
hex_onto (suc k) zero n acc h le = absurd (omega arith)
hex_onto (suc k) (suc j) n acc h le =
    let xs = digits_onto (suc j) 16 false (n / 16) (ended n acc) in
    let more = hex_onto k j (n / 16) (ended n acc) (omega (arith, pow-succ' 16 (suc k))) (omega arith) in
    cond_both (eqb (n / 16) 0) (ended n acc) xs (λ (l : List ℕ). replicate (suc (suc k) + length acc - length l) 48 ++ l ≡ hex_text (suc (suc k)) n ++ acc)
    (λ e. first n acc (suc k) (eqb-true (n / 16) 0 e))
    (λ _. ap (λ (m : ℕ). replicate m 48 ++ xs) {x = suc (suc k) + length acc - length xs} {y = suc k + length (ended n acc) - length xs} (omega arith) ∙ more ∙ whole n acc (suc k))

-- zeros in front up to a width
zeros_front : (k : ℕ) (ds : List ℕ) → padded_integral (format_spec 32 0 4 k (2 ^ 64 - 1)) false [] ds ≡ replicate (k - length ds) 48 ++ ds
unfolding padded_integral char_count
zeros_front k ds =
    ap (λ (l : List ℕ). replicate (k - length ds - 0 - 0) 48 ++ l) (append-nil ds)
    ∙ ap (λ (m : ℕ). replicate m 48 ++ ds) {x = k - length ds - 0 - 0} {y = k - length ds} (omega arith)

-- what `{:08x}` and its like write, for 1 to 64 digits
pub padded_hex : (k n : ℕ) → k < 64 → n < 16 ^ suc k → padded_integral (format_spec 32 0 4 (suc k) (2 ^ 64 - 1)) false [] (digits 16 false n) ≡ hex_text (suc k) n
unfolding digits
padded_hex k n few h =
    zeros_front (suc k) (digits_onto 64 16 false n [])
    ∙ ap (λ (m : ℕ). replicate (m - length (digits_onto 64 16 false n [])) 48 ++ digits_onto 64 16 false n []) {x = suc k} {y = suc k + 0} (omega arith)
    ∙ hex_onto k 63 n [] h (omega arith)
    ∙ append-nil (hex_text (suc k) n)

-- what they write of the lowest digits alone
pub padded_low : (k n : ℕ) → k < 64 → padded_integral (format_spec 32 0 4 (suc k) (2 ^ 64 - 1)) false [] (digits 16 false (n % 16 ^ suc k)) ≡ hex_text (suc k) n
padded_low k n few = padded_hex k (n % 16 ^ suc k) few (mod-lt n (some_power (suc k))) ∙ hex_low (suc k) n
