-- a number that std writes in hexadecimal
use Rattle.std.proofs.Common.{◌≡◌, ℕ, zero, suc, ◌/◌, ◌%◌, ◌^◌, ◌<◌, ◌≤◌, true, false, Bool, cond, eqb, List, [], ◌∷◌, ◌++◌, sym, refl, ap, ◌∙◌, arith}
use Rattle.std.proofs.lemmas.List.{append_assoc, append-nil}
use Rattle.std.proofs.lemmas.Bool.{cond_both, cond-true, eq-eqb, eqb-true}
use Rattle.std.specs.Char.{digit_char}
use Rattle.std.specs.Fmt.{digits, digits_onto}
use Rattle.words.specs.Hex.{digits_from, front_digit, hex_text}
use native.Mathlib.Nat.{div-div-eq-div-mul, pow-succ', zero-div}

-- the last digit, behind those of the front
from_last : (k n : ℕ) → digits_from (suc k) n ≡ cond (eqb (n / 16) 0) [] (digits_from k (n / 16)) ++ (digit_char (n % 16) ∷ [])
from_last zero n = refl
from_last (suc k) n =
    let cut : n / 16 ^ suc (suc k) ≡ m / 16 ^ suc k = sym (div-div-eq-div-mul n 16 (16 ^ suc k) ∙ ap (λ (p : ℕ). n / p) (sym (pow-succ' 16 (suc k)))) in
    ap (λ (x : ℕ). front_digit x ++ digits_from (suc k) n) cut
    ∙ ap (λ (l : List ℕ). front_digit (m / 16 ^ suc k) ++ l) (from_last k n)
    ∙ by (eqb m 0) refl
  where
    m : ℕ
    m = n / 16

    by : (t : Bool) → eqb m 0 ≡ t → front_digit (m / 16 ^ suc k) ++ (cond t [] (digits_from k m) ++ (digit_char (n % 16) ∷ [])) ≡ cond t [] (digits_from (suc k) m) ++ (digit_char (n % 16) ∷ [])
    by true is = ap (λ (x : ℕ). front_digit x ++ (digit_char (n % 16) ∷ [])) (ap (λ (x : ℕ). x / 16 ^ suc k) (eqb-true m 0 is) ∙ zero-div (16 ^ suc k))
    by false is = sym (append_assoc (front_digit (m / 16 ^ suc k)) (digits_from k m) (digit_char (n % 16) ∷ []))

-- so many digits at most
digits_are : (k j n : ℕ) (acc : List ℕ) → n < 16 ^ suc k → k ≤ j → digits_onto (suc j) 16 false n acc ≡ digits_from k n ++ acc
digits_are zero j n acc h le =
    cond-true (eqb (n / 16) 0) (digit_char (n % 16) ∷ acc) (digits_onto j 16 false (n / 16) (digit_char (n % 16) ∷ acc)) (eq-eqb (n / 16) 0 (omega arith))
digits_are (suc k) zero n acc h le = absurd (omega arith)
digits_are (suc k) (suc j) n acc h le =
    let d = digit_char (n % 16) in
    let more = digits_are k j (n / 16) (d ∷ acc) (omega (arith, pow-succ' 16 (suc k))) (omega arith) in
    let last = λ (t : Bool) (is : eqb (n / 16) 0 ≡ t). sym (ap (λ (l : List ℕ). l ++ acc) (from_last k n ∙ ap (λ (v : Bool). cond v [] (digits_from k (n / 16)) ++ (d ∷ [])) is)) in
    cond_both (eqb (n / 16) 0) (d ∷ acc) (digits_onto (suc j) 16 false (n / 16) (d ∷ acc)) (λ (l : List ℕ). l ≡ digits_from (suc k) n ++ acc)
    (λ e. last true e)
    (λ e. more ∙ sym (append_assoc (digits_from k (n / 16)) (d ∷ []) acc) ∙ last false e)

-- what `0x{:x}` writes
pub hex_digits : (n : ℕ) → n < 2 ^ 64 → hex_text n ≡ 48 ∷ 120 ∷ digits 16 false n
unfolding digits hex_text
hex_digits n h = ap (λ (l : List ℕ). 48 ∷ 120 ∷ l) (sym (digits_are 15 63 n [] h (omega arith) ∙ append-nil (digits_from 15 n)))
