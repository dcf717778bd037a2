-- the digits of a number, read back, and what they are not
use Rattle.std.proofs.Common.{◌≡◌, ℕ, zero, suc, ◌+◌, ◌*◌, ◌/◌, ◌%◌, ◌^◌, ◌<◌, ◌≤◌, Bool, true, false, cond, ◌&&◌, eqb, ltb, List, [], ◌∷◌, ◌++◌, length, get_or, Some, None, decimal, Option, sym, refl, ap, ◌∙◌, mod-lt, mul_comm, div-le_self, arith}
use Rattle.tokens.proofs.Dark.{dark, digit_dark}
use Rattle.tokens.proofs.Letters.{below, digit_back}
use Rattle.tokens.specs.Options.{and_then}
use Rattle.std.proofs.lemmas.Bool.{and_from, and_parts, and_right, cond_both, cond-false, cond-true, eqb-true, lt-ltb, ltb-true, ne_eqb}
use Rattle.std.specs.Char.{digit_char}
use Rattle.std.specs.Fmt.{digits, digit_glyph, digits_onto}
use Rattle.words.specs.Hex.{digits_from, front_digit, hex_text}
use Rattle.words.specs.Numbers.{digits_value, fitting, next_value, number_value, read_value}
use native.Mathlib.Nat.{div-div-eq-div-mul, pow-succ'}

-- one digit more
step : (base m d n : ℕ) → d < base → base ≤ 16 → m * base + d ≡ n → n < 2 ^ 64 → next_value base m (digit_char d) ≡ Some n
step base m d n small few is fits =
    ap (λ (o : Option ℕ). and_then o (λ e. cond (ltb e base) (fitting (m * base + e)) None)) (digit_back d (omega arith))
    ∙ cond-true (ltb d base) (fitting (m * base + d)) None (lt-ltb d base small)
    ∙ ap fitting is
    ∙ cond-true (ltb n (2 ^ 64)) (Some n) None (lt-ltb n (2 ^ 64) fits)

read_on : (base m d n : ℕ) (cs : List ℕ) → d < base → base ≤ 16 → m * base + d ≡ n → n < 2 ^ 64 → digits_value base m (digit_char d ∷ cs) ≡ digits_value base n cs
read_on base m d n cs small few is fits = ap (λ (o : Option ℕ). and_then o (λ k. digits_value base k cs)) (step base m d n small few is fits)

-- decimal digits
read_spelled : (k n : ℕ) (acc : List ℕ) → n < 10 ^ k → n < 2 ^ 64 → digits_value 10 0 (digits_onto k 10 false n acc) ≡ digits_value 10 n acc
read_spelled zero n acc h fits = ap (λ (x : ℕ). digits_value 10 x acc) {x = 0} {y = n} (omega arith)
read_spelled (suc k) n acc h fits =
    let front : n / 10 < 10 ^ k = omega (arith, pow-succ' 10 k) in
    let one = λ (m : ℕ) (is : m * 10 + n % 10 ≡ n). read_on 10 m (n % 10) n acc (mod-lt n (omega arith)) (omega arith) is fits in
    cond_both (eqb (n / 10) 0) (digit_glyph false (n % 10) ∷ acc) (digits_onto k 10 false (n / 10) (digit_glyph false (n % 10) ∷ acc)) (λ xs. digits_value 10 0 xs ≡ digits_value 10 n acc)
    (λ e. one 0 (omega (arith, eqb-true (n / 10) 0 e)))
    (λ _. read_spelled k (n / 10) (digit_glyph false (n % 10) ∷ acc) front (omega arith) ∙ one (n / 10) (omega arith))

dark_spelled : (k n : ℕ) (acc : List ℕ) → dark acc ≡ true → dark (digits_onto k 10 false n acc) ≡ true
dark_spelled zero n acc t = t
dark_spelled (suc k) n acc t =
    let more : dark (digit_glyph false (n % 10) ∷ acc) ≡ true = and_from (ltb 32 (digit_glyph false (n % 10))) (dark acc) (digit_dark (n % 10)) t in
    cond_both (eqb (n / 10) 0) (digit_glyph false (n % 10) ∷ acc) (digits_onto k 10 false (n / 10) (digit_glyph false (n % 10) ∷ acc)) (λ xs. dark xs ≡ true)
    (λ _. more) (λ _. dark_spelled k (n / 10) (digit_glyph false (n % 10) ∷ acc) more)

-- no byte is x
abbrev free : List ℕ → Bool
free [] = true
free (x ∷ xs) = ltb x 120 && free xs

glyph_free : (d : ℕ) → d < 10 → ltb (digit_char d) 120 ≡ true
glyph_free d h = below (λ x. ltb (digit_char x) 120) 10 d refl h

free_spelled : (k n : ℕ) (acc : List ℕ) → free acc ≡ true → free (digits_onto k 10 false n acc) ≡ true
free_spelled zero n acc t = t
free_spelled (suc k) n acc t =
    let more : free (digit_glyph false (n % 10) ∷ acc) ≡ true = and_from (ltb (digit_glyph false (n % 10)) 120) (free acc) (glyph_free (n % 10) (mod-lt n (omega arith))) t in
    cond_both (eqb (n / 10) 0) (digit_glyph false (n % 10) ∷ acc) (digits_onto k 10 false (n / 10) (digit_glyph false (n % 10) ∷ acc)) (λ xs. free xs ≡ true)
    (λ _. more) (λ _. free_spelled k (n / 10) (digit_glyph false (n % 10) ∷ acc) more)

free_second : (xs : List ℕ) → free xs ≡ true → eqb (get_or xs 1 0) 120 ≡ false
free_second [] t = refl
free_second (x ∷ []) t = refl
free_second (x ∷ y ∷ ys) t =
    let p = (and_parts (ltb x 120) (free (y ∷ ys)) t).1 in
    let h = ltb-true y 120 (and_parts (ltb y 120) (free ys) p).0 in
    ne_eqb y 120 (λ e. omega arith)

-- a list with a first element is not empty
filled : (x : ℕ) (xs : List ℕ) → eqb (length (x ∷ xs)) 0 ≡ false
filled x xs = ne_eqb (length (x ∷ xs)) 0 (λ e. omega arith)

pub number_decimal : (n : ℕ) → n < 2 ^ 64 → number_value (decimal n) ≡ Some n
unfolding digits
number_decimal n fits =
    let w = digits_onto 64 10 false n [] in
    let big : n < 10 ^ 64 = omega arith in
    cond-false (eqb (get_or w 0 0) 48 && eqb (get_or w 1 0) 120) _ (read_value 10 w) (and_right (eqb (get_or w 0 0) 48) (eqb (get_or w 1 0) 120) (free_second w (free_spelled 64 n [] refl)))
    ∙ cond-false (eqb (length w) 0) None (digits_value 10 0 w) (long 63 n [])
    ∙ read_spelled 64 n [] big fits
  where
    grown : (k n x : ℕ) (acc : List ℕ) → eqb (length (digits_onto k 10 false n (x ∷ acc))) 0 ≡ false
    grown zero n x acc = filled x acc
    grown (suc k) n x acc =
        cond_both (eqb (n / 10) 0) (digit_glyph false (n % 10) ∷ x ∷ acc) (digits_onto k 10 false (n / 10) (digit_glyph false (n % 10) ∷ x ∷ acc)) (λ xs. eqb (length xs) 0 ≡ false)
        (λ _. filled (digit_glyph false (n % 10)) (x ∷ acc)) (λ _. grown k (n / 10) (digit_glyph false (n % 10)) (x ∷ acc))

    long : (k n : ℕ) (acc : List ℕ) → eqb (length (digits_onto (suc k) 10 false n acc)) 0 ≡ false
    long k n acc =
        cond_both (eqb (n / 10) 0) (digit_glyph false (n % 10) ∷ acc) (digits_onto k 10 false (n / 10) (digit_glyph false (n % 10) ∷ acc)) (λ xs. eqb (length xs) 0 ≡ false)
        (λ _. filled (digit_glyph false (n % 10)) acc) (λ _. grown k (n / 10) (digit_glyph false (n % 10)) acc)

pub dark_decimal : (n : ℕ) → dark (decimal n) ≡ true
unfolding digits
dark_decimal n = dark_spelled 64 n [] refl

-- hexadecimal digits, behind those of the front of the number
read_from : (k n : ℕ) → n < 2 ^ 64 → digits_value 16 (n / 16 ^ suc k) (digits_from k n) ≡ Some n
read_from zero n fits = read_on 16 (n / 16) (n % 16) n [] (mod-lt n (omega arith)) (omega arith) (omega arith) fits
read_from (suc k) n fits =
    let m : ℕ = n / 16 ^ suc k in
    let cut : m / 16 ≡ n / 16 ^ suc (suc k) = div-div-eq-div-mul n (16 ^ suc k) 16 ∙ ap (λ (p : ℕ). n / p) (mul_comm (16 ^ suc k) 16 ∙ sym (pow-succ' 16 (suc k))) in
    let low : m ≤ n = div-le_self n (16 ^ suc k) in
    ap (λ (x : ℕ). digits_value 16 x (front_digit m ++ digits_from k n)) (sym cut)
    ∙ cond_both (eqb m 0) [] (digit_char (m % 16) ∷ []) (λ xs. digits_value 16 (m / 16) (xs ++ digits_from k n) ≡ digits_value 16 m (digits_from k n))
    (λ e. ap (λ (x : ℕ). digits_value 16 x (digits_from k n)) {x = m / 16} {y = m} (omega (arith, eqb-true m 0 e)))
    (λ _. read_on 16 (m / 16) (m % 16) m (digits_from k n) (mod-lt m (omega arith)) (omega arith) (omega arith) (omega arith))
    ∙ read_from k n fits

from_some : (k n : ℕ) → eqb (length (digits_from k n)) 0 ≡ false
from_some zero n = filled (digit_char (n % 16)) []
from_some (suc k) n =
    cond_both (eqb (n / 16 ^ suc k) 0) [] (digit_char (n / 16 ^ suc k % 16) ∷ []) (λ xs. eqb (length (xs ++ digits_from k n)) 0 ≡ false)
    (λ _. from_some k n) (λ _. filled (digit_char (n / 16 ^ suc k % 16)) (digits_from k n))

pub number_hex : (n : ℕ) → n < 2 ^ 64 → number_value (hex_text n) ≡ Some n
unfolding hex_text
number_hex n fits =
    cond-false (eqb (length (digits_from 15 n)) 0) None (digits_value 16 0 (digits_from 15 n)) (from_some 15 n)
    ∙ ap (λ (x : ℕ). digits_value 16 x (digits_from 15 n)) {x = 0} {y = n / 16 ^ 16} (omega arith)
    ∙ read_from 15 n fits

dark_from : (k n : ℕ) → dark (digits_from k n) ≡ true
dark_from zero n = and_from (ltb 32 (digit_char (n % 16))) true (digit_dark (n % 16)) refl
dark_from (suc k) n =
    cond_both (eqb (n / 16 ^ suc k) 0) [] (digit_char (n / 16 ^ suc k % 16) ∷ []) (λ xs. dark (xs ++ digits_from k n) ≡ true)
    (λ _. dark_from k n) (λ _. and_from (ltb 32 (digit_char (n / 16 ^ suc k % 16))) (dark (digits_from k n)) (digit_dark (n / 16 ^ suc k % 16)) (dark_from k n))

pub dark_hex : (n : ℕ) → dark (hex_text n) ≡ true
unfolding hex_text
dark_hex n = dark_from 15 n

from_short : (k n : ℕ) → length (digits_from k n) ≤ k + 1
from_short zero n = omega arith
from_short (suc k) n =
    cond_both (eqb (n / 16 ^ suc k) 0) [] (digit_char (n / 16 ^ suc k % 16) ∷ []) (λ xs. length (xs ++ digits_from k n) ≤ suc k + 1)
    (λ _. omega (arith, from_short k n)) (λ _. omega (arith, from_short k n))

pub length_hex : (n : ℕ) → length (hex_text n) ≤ 18
unfolding hex_text
length_hex n = omega (arith, from_short 15 n)
