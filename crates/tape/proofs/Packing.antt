-- the arithmetic of the packed record
use Rattle.std.proofs.Common.{◌≡◌, ℕ, zero, suc, ◌+◌, ◌*◌, ◌/◌, ◌%◌, ◌^◌, ◌<◌, ◌≤◌, List, [], ◌∷◌, ◌++◌, length, get_or, take, drop, sym, refl, ap, ◌∙◌, mod-eq_of_lt, mul_assoc, mul_comm, add-mul, pow-suc, zero-add, zero-mul, arith}
use Rattle.std.proofs.lemmas.Nat.{or_shifted, and_mask}
use Rattle.std.proofs.lemmas.Int.Digits.{number_after_append, number_lt}
use Rattle.std.proofs.lemmas.List.{length-take, length-drop, take-append-drop}
use Rattle.std.specs.Int.Digits.{number_from_digits, number_from_digits_after, AllBelowBase}
use Rattle.tape.specs.Record.{split, bytes_of}
use Rattle.tape.specs.Item.{item}
use Rattle.tape.specs.declared.record.Unpacked.{Unpacked}
use lib.Arith.{mod-mul, digits_div}
use lib.Bits.{bit_and, bit_or}
use native.Mathlib.Nat.{pow-le-pow_right, mod-one, pow-succ'}

-- one more byte
pub byte_more : (n b i : ℕ) → n < 256 ^ i → i < 8 → b < 256 → bit_or ((n * 256) % 2 ^ 64) b ≡ n * 256 + b
byte_more n b i p q r =
    let i7 : i ≤ 7 = omega arith in
    let z : 0 < 256 = omega arith in
    let top : 256 ^ i ≤ 256 ^ 7 = pow-le-pow_right z i7 in
    let small : n * 256 < 2 ^ 64 = omega arith in
    rw (mod-eq_of_lt small) (or_shifted n 8 b r)

-- the number in front is moved up by the bytes that follow
pub number_from : (n : ℕ) (ds : List ℕ) → number_from_digits_after 256 n ds ≡ n * 256 ^ length ds + number_from_digits 256 ds
number_from n [] = omega arith
number_from n (d ∷ ds) =
    let p : ℕ = 256 ^ length ds in
    number_from (n * 256 + d) ds ∙ (omega (arith, number_from (0 * 256 + d) ds, ap (λ z. n * z) (pow-suc 256 (length ds) ∙ mul_comm p 256), add-mul (n * 256) d p, mul_assoc n 256 p, zero-mul 256, zero-add d))

-- what a record holds, with the first byte h, the next 56 bits m and the last 64 bits v
pub drawn : (h m v : ℕ) → h < 256 → m < 2 ^ 56 → v < 2 ^ 64
    → ◌≡◌ {A = Unpacked} (record { spare = bit_and (m / 2 ^ 34) 0xF_FFFF; item = item (h / 16) (bit_and h 15) (m / 2 ^ 54) (bit_and m 0x3_FFFF_FFFF) v })
    (split ((h * 2 ^ 56 + m) * 2 ^ 64 + v))
drawn h m v p q r = rw (and_mask h 4, and_mask (m / 2 ^ 34) 20, and_mask m 34)
    (let n : ℕ = (h * 2 ^ 56 + m) * 2 ^ 64 + v in
    let a : h / 16 ≡ n / 2 ^ 124 = omega arith in
    let b : h % 16 ≡ n / 2 ^ 120 % 16 = omega arith in
    let w : m / 2 ^ 54 ≡ n / 2 ^ 118 % 4 = omega arith in
    let s : m / 2 ^ 34 % 2 ^ 20 ≡ n / 2 ^ 98 % 2 ^ 20 = omega arith in
    let e : m % 2 ^ 34 ≡ n / 2 ^ 64 % 2 ^ 34 = omega arith in
    let f : v ≡ n % 2 ^ 64 = omega arith in
    cc)

-- the number of a record by its first byte, the seven after it and the last eight
pub number_parts : (bytes : List ℕ) → length bytes ≡ 16
    → number_from_digits 256 bytes ≡ (get_or bytes 0 0 * 2 ^ 56 + number_from_digits 256 (take 7 (drop 1 bytes))) * 2 ^ 64 + number_from_digits 256 (drop 7 (drop 1 bytes))
number_parts [] e = absurd (omega arith)
number_parts (h ∷ rest) e =
    let a : List ℕ = take 7 rest in
    let b : List ℕ = drop 7 rest in
    let la : length a ≡ 7 = simp length-take (omega arith) in
    let lb : length b ≡ 8 = simp length-drop (omega arith) in
    let cut : number_from_digits 256 (h ∷ rest) ≡ number_from_digits_after 256 (0 * 256 + h) (a ++ b) = ap (number_from_digits_after 256 (0 * 256 + h)) (sym (take-append-drop 7 rest)) in
    let two = number_after_append 256 (0 * 256 + h) a b in
    let first = number_from (0 * 256 + h) a in
    let second = number_from (number_from_digits_after 256 (0 * 256 + h) a) b in
    let pa : 256 ^ length a ≡ 2 ^ 56 = ap (λ k. 256 ^ k) la in
    let pb : 256 ^ length b ≡ 2 ^ 64 = ap (λ k. 256 ^ k) lb in
    omega (arith, cut, two, rw pa at first, rw pb at second)

-- a field below the one that is moved up by k bits
pub joined : (x k b w : ℕ) → x * 2 ^ k < 2 ^ w → b < 2 ^ k → bit_or ((x * 2 ^ k) % 2 ^ w) b ≡ x * 2 ^ k + b
joined x k b w small below = rw (mod-eq_of_lt small) (or_shifted x k b below)

-- the fields of 128 bits, moved up one after the other
pub all_joined : (o s w a v : ℕ) → o < 16 → s < 16 → w < 4 → a < 2 ^ 34 → v < 2 ^ 64
    → bit_or ((bit_or ((bit_or ((bit_or ((o * 16) % 2 ^ 128) s * 4) % 2 ^ 128) w * 2 ^ 54) % 2 ^ 128) a * 2 ^ 64) % 2 ^ 128) v
    ≡ (((o * 16 + s) * 4 + w) * 2 ^ 54 + a) * 2 ^ 64 + v
all_joined o s w a v ho hs hw ha hv =
    let small : a < 2 ^ 54 = omega arith in
    rw (
      joined o 4 s 128 (omega arith) hs,
      joined (o * 16 + s) 2 w 128 (omega arith) hw,
      joined ((o * 16 + s) * 4 + w) 54 a 128 (omega arith) small,
      joined (((o * 16 + s) * 4 + w) * 2 ^ 54 + a) 64 v 128 (omega arith) hv,
    )

pow_pos_any : (k : ℕ) → 0 < 256 ^ k
pow_pos_any zero = omega arith
pow_pos_any (suc k) = omega (arith, pow-succ' 256 k, pow_pos_any k)

-- the number of the lowest k bytes
pub number_bytes_of : (k acc n : ℕ) → number_from_digits_after 256 acc (bytes_of k n) ≡ acc * 256 ^ k + n % 256 ^ k
number_bytes_of zero acc n = omega (arith, mod-one n)
number_bytes_of (suc k) acc n =
    let p : ℕ = 256 ^ k in
    let d : ℕ = n / p % 256 in
    let z : 0 < 256 = omega arith in
    let cut : n % (256 * p) ≡ d * p + n % p = mod-mul n z (pow_pos_any k) in
    let up : 256 ^ suc k ≡ 256 * p = pow-succ' 256 k in
    number_bytes_of k (acc * 256 + d) n ∙ (rw up (omega (arith, cut, add-mul (acc * 256) d p, mul_assoc acc 256 p)))

-- bytes are those of their number, whatever stands above
pub bytes_of_number : (x : ℕ) (bs : List ℕ) → AllBelowBase 256 bs → bytes_of (length bs) (x * 256 ^ length bs + number_from_digits 256 bs) ≡ bs
bytes_of_number x [] u = refl
bytes_of_number x (d ∷ ds) u =
    let p : ℕ = 256 ^ length ds in
    let n : ℕ = number_from_digits 256 ds in
    let low : n < p = number_lt 256 ds u.1 in
    let up : 256 ^ suc (length ds) ≡ 256 * p = pow-succ' 256 (length ds) in
    let whole : x * 256 ^ suc (length ds) + number_from_digits 256 (d ∷ ds) ≡ (x * 256 + d) * p + n
    = rw up (omega (arith, number_from (0 * 256 + d) ds, add-mul (x * 256) d p, mul_assoc x 256 p, zero-mul 256, zero-add d)) in
    let top : ((x * 256 + d) * p + n) / p % 256 ≡ d = rw (digits_div (x * 256 + d) low) (omega (arith, u.0)) in
    rw whole (rw (top, bytes_of_number (x * 256 + d) ds u.1))
