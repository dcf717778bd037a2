-- sixteen digits that std writes of a number, zeros in front, as the digits of its bytes
use Rattle.std.proofs.Common.{◌≡◌, ℕ, zero, suc, ◌-◌, ◌*◌, ◌/◌, ◌%◌, ◌^◌, ◌<◌, false, List, [], ◌∷◌, ◌++◌, sym, refl, ap, ◌∙◌, mul_comm, arith}
use Rattle.std.specs.Char.{digit_char}
use Rattle.std.specs.Fmt.{digits, format_spec, padded_integral}
use Rattle.std.specs.List.{flat_map}
use Rattle.tape.specs.Line.{byte_digits, hex_text}
use Rattle.tape.specs.Record.{bytes_of}
use Rattle.tokens.proofs.Hex.{padded_hex}
use Rattle.tokens.specs.Digits.{hex_text as lowest}
use native.Mathlib.Nat.{div-div-eq-div-mul, pow-succ'}

-- two digits are a byte's
square : (k : ℕ) → 16 ^ (2 * k) ≡ 256 ^ k
square zero = refl
square (suc k) = let e : 2 * suc k ≡ suc (suc (2 * k)) = omega arith in ap (λ j. 16 ^ j) e ∙ omega (arith, pow-succ' 16 (suc (2 * k)), pow-succ' 16 (2 * k), square k, pow-succ' 256 k)

two_more : (j n m : ℕ) → m ≡ n / 16 ^ j → lowest (suc (suc j)) n ≡ byte_digits (m % 256) ++ lowest j n
two_more j n m is =
    let up : n / 16 ^ suc j ≡ m / 16 = ap (λ (p : ℕ). n / p) (pow-succ' 16 j ∙ mul_comm 16 (16 ^ j)) ∙ sym (div-div-eq-div-mul n (16 ^ j) 16) ∙ ap (λ (x : ℕ). x / 16) (sym is) in
    let high : n / 16 ^ suc j % 16 ≡ m % 256 / 16 = omega (arith, up) in
    let low : n / 16 ^ j % 16 ≡ m % 256 % 16 = omega (arith, is) in
    ap (λ (d : ℕ). digit_char d ∷ lowest (suc j) n) high ∙ ap (λ (d : ℕ). digit_char (m % 256 / 16) ∷ digit_char d ∷ lowest j n) low

by_bytes : (k n : ℕ) → lowest (2 * k) n ≡ flat_map byte_digits (bytes_of k n)
by_bytes zero n = refl
by_bytes (suc k) n =
    let e : 2 * suc k ≡ suc (suc (2 * k)) = omega arith in
    ap (λ j. lowest j n) e
    ∙ two_more (2 * k) n (n / 256 ^ k) (ap (λ (p : ℕ). n / p) (sym (square k)))
    ∙ ap (λ (l : List ℕ). byte_digits (n / 256 ^ k % 256) ++ l) (by_bytes k n)

-- what `{:016x}` writes
pub hex_sixteen : (n : ℕ) → n < 2 ^ 64 → padded_integral (format_spec 32 0 4 16 (2 ^ 64 - 1)) false [] (digits 16 false n) ≡ hex_text n
hex_sixteen n h = padded_hex 15 n (omega arith) (omega arith) ∙ by_bytes 8 n
