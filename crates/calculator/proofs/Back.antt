-- the digits of a number, read back
use Rattle.std.proofs.Common.{◌≡◌, ℕ, zero, suc, ◌+◌, ◌*◌, ◌/◌, ◌%◌, ◌^◌, ◌<◌, ◌≤◌, false, cond, eqb, leb, List, ◌∷◌, length, drop, Some, None, Option, refl, ap, ◌∙◌, mod-lt, mod-eq_of_lt, mul_assoc, add-mul, mul_left_comm, arith}
use Rattle.bank.specs.Content.{between}
use Rattle.tokens.specs.Digits.{hex_text}
use Rattle.calculator.specs.Laws.{NumbersReadBack}
use Rattle.calculator.specs.Numbers.{bare, digits_value, number_value}
use Rattle.tokens.specs.Options.{and_then}
use Rattle.std.proofs.lemmas.Bool.{and_right, cond-false, cond-true, le-leb}
use Rattle.std.specs.Char.{digit_char}
use lib.Arith.{mod-mul}
use Rattle.tokens.proofs.Letters.{digit_back, digit_not_x}
use native.Mathlib.Nat.{mod-one, pow-succ'}

digits_back : (k m n : ℕ) → digits_value m (hex_text k n) ≡ Some (m * 16 ^ k + n % 16 ^ k)
digits_back zero m n = ap Some (omega (arith, mod-one n))
digits_back (suc k) m n =
    let d : ℕ = n / 16 ^ k % 16 in
    let small : d < 16 = mod-lt (n / 16 ^ k) (omega arith) in
    let p : 16 ^ suc k ≡ 16 * 16 ^ k = pow-succ' 16 k in
    let e : n % (16 * 16 ^ k) ≡ d * 16 ^ k + n % 16 ^ k = mod-mul n (omega arith) (some_power k) in
    let f : (16 * m + d) * 16 ^ k ≡ 16 * m * 16 ^ k + d * 16 ^ k = add-mul (16 * m) d (16 ^ k) in
    let g : 16 * m * 16 ^ k ≡ 16 * (m * 16 ^ k) = mul_assoc 16 m (16 ^ k) in
    let h : m * (16 * 16 ^ k) ≡ 16 * (m * 16 ^ k) = mul_left_comm m 16 (16 ^ k) in
    let sum : (16 * m + d) * 16 ^ k + n % 16 ^ k ≡ m * 16 ^ suc k + n % 16 ^ suc k = rw p (omega arith) in
    ap (λ (o : Option ℕ). and_then o (λ v. digits_value (16 * m + v) (hex_text k n))) (digit_back d small)
    ∙ digits_back k (16 * m + d) n
    ∙ ap Some sum
  where
    some_power : (k : ℕ) → 0 < 16 ^ k
    some_power zero = omega arith
    some_power (suc k) = rw (pow-succ' 16 k) (omega (arith, some_power k))

pub length_hex : (k n : ℕ) → length (hex_text k n) ≡ k
length_hex zero n = refl
length_hex (suc k) n = ap suc (length_hex k n)

bare_hex : (k n : ℕ) → bare (hex_text k n) ≡ hex_text k n
bare_hex zero n = refl
bare_hex (suc zero) n =
    cond-false _ (drop 2 (hex_text 1 n)) (hex_text 1 n) (and_right (eqb (digit_char (n / 16 ^ zero % 16)) 48) false refl)
bare_hex (suc (suc k)) n =
    cond-false _ (hex_text k n) (hex_text (suc (suc k)) n)
    (and_right (eqb (digit_char (n / 16 ^ suc k % 16)) 48) (eqb (digit_char (n / 16 ^ k % 16)) 120) (digit_not_x (n / 16 ^ k % 16) (mod-lt (n / 16 ^ k) (omega arith))))

bare_number : (w : List ℕ) (k n : ℕ) → bare w ≡ hex_text k n → 1 ≤ k → k ≤ 16 → n < 16 ^ k → number_value w ≡ Some n
bare_number w k n is low high h =
    ap (λ (ds : List ℕ). cond (between 1 (length ds) 16) (digits_value 0 ds) None) is
    ∙ ap (λ j. cond (between 1 j 16) (digits_value 0 (hex_text k n)) None) (length_hex k n)
    ∙ cond-true (between 1 k 16) (digits_value 0 (hex_text k n)) None (cond-true (leb 1 k) (leb k 16) false (le-leb 1 k low) ∙ le-leb k 16 high)
    ∙ digits_back k 0 n
    ∙ ap Some (omega (arith, mod-eq_of_lt h))

pub read_back : NumbersReadBack
read_back k n low high h =
    (bare_number (hex_text k n) k n (bare_hex k n) low high h, bare_number (48 ∷ 120 ∷ hex_text k n) k n refl low high h)
