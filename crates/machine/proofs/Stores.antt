-- bytes put one after another, and the number in them
use Rattle.std.proofs.Common.{◌≡◌, ℕ, zero, suc, ◌+◌, ◌-◌, ◌*◌, ◌/◌, ◌%◌, ◌<◌, ◌≤◌, List, [], ◌∷◌, ◌++◌, length, get_or, take, drop, set, replicate, unwrap_or, sym, refl, ap, ◌∙◌, append_assoc, append-nil, arith}
use lib.Seq.{sets}
use Rattle.std.specs.List.{slice_get}
use Rattle.std.proofs.lemmas.List.{drop-replicate, length-append, length-replicate, length-take-le, set_at, take_more}
use Rattle.monitor.specs.Bytes.{low_bytes, number}

sets_push : (xs : List ℕ) (p : ℕ) (bs : List ℕ) (b : ℕ) → sets xs p (bs ++ b ∷ []) ≡ set (sets xs p bs) (p + length bs) b
sets_push xs p [] b = let e : p + 0 ≡ p = omega arith in rw e
sets_push xs p (c ∷ bs) b =
    let e : suc p + length bs ≡ p + suc (length bs) = omega arith in
    sets_push (set xs p c) (suc p) bs b ∙ ap (λ n. set (sets (set xs p c) (suc p) bs) n b) e

pub sets_more : (xs : List ℕ) (p : ℕ) (bs : List ℕ) (i : ℕ) → i < length bs → sets xs p (take (i + 1) bs) ≡ set (sets xs p (take i bs)) (p + i) (get_or bs i 0)
sets_more xs p bs i h =
    ap (sets xs p) (take_more bs i 0 h)
    ∙ sets_push xs p (take i bs) (get_or bs i 0)
    ∙ ap (λ n. set (sets xs p (take i bs)) (p + n) (get_or bs i 0)) (length-take-le i bs (omega arith))

-- the eight bytes of a number are its low bytes
abbrev pub eight : ℕ → List ℕ
eight v =
    (v % 256) ∷ (v / 256 % 256) ∷ (v / 65536 % 256) ∷ (v / 16777216 % 256) ∷ (v / 4294967296 % 256) ∷ (v / 1099511627776 % 256)
    ∷ (v / 281474976710656 % 256) ∷ (v / 72057594037927936 % 256) ∷ []

low_eight : (v : ℕ) → low_bytes 8 v ≡ eight v
low_eight v =
    let a : v / 256 / 256 ≡ v / 65536 = omega arith in
    let b : v / 65536 / 256 ≡ v / 16777216 = omega arith in
    let c : v / 16777216 / 256 ≡ v / 4294967296 = omega arith in
    let d : v / 4294967296 / 256 ≡ v / 1099511627776 = omega arith in
    let e : v / 1099511627776 / 256 ≡ v / 281474976710656 = omega arith in
    let f : v / 281474976710656 / 256 ≡ v / 72057594037927936 = omega arith in
    simp (a, b, c, d, e, f)

take_low : (m n v : ℕ) → n ≤ m → take n (low_bytes m v) ≡ low_bytes n v
take_low zero zero v h = refl
take_low zero (suc n) v h = absurd (omega arith)
take_low (suc m) zero v h = refl
take_low (suc m) (suc n) v h = ap (λ l. (v % 256) ∷ l) (take_low m n (v / 256) (omega arith))

pub take_eight : (n v : ℕ) → n ≤ 8 → take n (eight v) ≡ low_bytes n v
take_eight n v h = ap (take n) (sym (low_eight v)) ∙ take_low 8 n v h

pub nth_or : (xs : List ℕ) (i : ℕ) → unwrap_or (slice_get xs i) 0 ≡ get_or xs i 0
nth_or [] i = refl
nth_or (x ∷ xs) zero = refl
nth_or (x ∷ xs) (suc i) = nth_or xs i

-- the bytes from a on, n of them
abbrev pub part : List ℕ → ℕ → ℕ → List ℕ
part xs a zero = []
part xs a (suc n) = get_or xs a 0 ∷ part xs (suc a) n

length_part : (xs : List ℕ) (a n : ℕ) → length (part xs a n) ≡ n
length_part xs a zero = refl
length_part xs a (suc n) = ap suc (length_part xs (suc a) n)

part_push : (xs : List ℕ) (a n : ℕ) → part xs a (suc n) ≡ part xs a n ++ get_or xs (a + n) 0 ∷ []
part_push xs a zero = let e : a + 0 ≡ a = omega arith in rw e
part_push xs a (suc n) =
    let e : suc a + n ≡ a + suc n = omega arith in
    ap (λ l. get_or xs a 0 ∷ l) (part_push xs (suc a) n ∙ ap (λ i. part xs (suc a) n ++ get_or xs i 0 ∷ []) e)

-- one more byte of a buffer of zeros is filled
pub filled_more : (xs : List ℕ) (a i n : ℕ) → set (part xs a i ++ replicate (suc n) 0) i (get_or xs (a + i) 0) ≡ part xs a (suc i) ++ replicate n 0
filled_more xs a i n =
    set_at (part xs a i) 0 (replicate n 0) (get_or xs (a + i) 0) i (length_part xs a i)
    ∙ sym (append_assoc (part xs a i) (get_or xs (a + i) 0 ∷ []) (replicate n 0))
    ∙ ap (λ zs. zs ++ replicate n 0) (sym (part_push xs a i))

-- the number of some bytes
total : List ℕ → ℕ
total [] = 0
total (b ∷ bs) = b + 256 * total bs

total_zeros : (n : ℕ) → total (replicate n 0) ≡ 0
unfolding total
total_zeros zero = refl
total_zeros (suc n) = omega (arith, total_zeros n)

total_part : (xs : List ℕ) (a n m : ℕ) → total (part xs a n ++ replicate m 0) ≡ number xs a n
unfolding total
total_part xs a zero m = total_zeros m
total_part xs a (suc n) m = ap (λ k. get_or xs a 0 + 256 * k) (total_part xs (suc a) n m)

total_eight : (bs : List ℕ) → length bs ≡ 8
    → get_or bs 0 0 + get_or bs 1 0 * 256 + get_or bs 2 0 * 65536 + get_or bs 3 0 * 16777216 + get_or bs 4 0 * 4294967296 + get_or bs 5 0 * 1099511627776
    + get_or bs 6 0 * 281474976710656 + get_or bs 7 0 * 72057594037927936
    ≡ total bs
unfolding total
total_eight (a ∷ b ∷ c ∷ d ∷ e ∷ f ∷ g ∷ h ∷ []) k = omega arith
total_eight [] k = absurd (omega arith)
total_eight (a ∷ []) k = absurd (omega arith)
total_eight (a ∷ b ∷ []) k = absurd (omega arith)
total_eight (a ∷ b ∷ c ∷ []) k = absurd (omega arith)
total_eight (a ∷ b ∷ c ∷ d ∷ []) k = absurd (omega arith)
total_eight (a ∷ b ∷ c ∷ d ∷ e ∷ []) k = absurd (omega arith)
total_eight (a ∷ b ∷ c ∷ d ∷ e ∷ f ∷ []) k = absurd (omega arith)
total_eight (a ∷ b ∷ c ∷ d ∷ e ∷ f ∷ g ∷ []) k = absurd (omega arith)
total_eight (a ∷ b ∷ c ∷ d ∷ e ∷ f ∷ g ∷ h ∷ i ∷ bs) k = absurd (omega arith)

-- the number in the first k of eight bytes, with zeros after them
pub number_padded : (xs bs : List ℕ) (a n k : ℕ) → n ≤ 8 → k ≡ n → bs ≡ part xs a k ++ replicate (n - k) 0
    → let cs = bs ++ drop n (0 ∷ 0 ∷ 0 ∷ 0 ∷ 0 ∷ 0 ∷ 0 ∷ 0 ∷ []) in
    get_or cs 0 0 + get_or cs 1 0 * 256 + get_or cs 2 0 * 65536 + get_or cs 3 0 * 16777216 + get_or cs 4 0 * 4294967296 + get_or cs 5 0 * 1099511627776
    + get_or cs 6 0 * 281474976710656 + get_or cs 7 0 * 72057594037927936
    ≡ number xs a n
number_padded xs bs a n k h done e =
    let none : n - k ≡ 0 = omega arith in
    let all : bs ≡ part xs a n = e ∙ ap (λ z. part xs a k ++ replicate z 0) none ∙ append-nil (part xs a k) ∙ ap (part xs a) done in
    let cs = bs ++ drop n (0 ∷ 0 ∷ 0 ∷ 0 ∷ 0 ∷ 0 ∷ 0 ∷ 0 ∷ []) in
    let is : cs ≡ part xs a n ++ replicate (8 - n) 0 = ap (λ b. b ++ drop n (replicate 8 0)) all ∙ ap (λ z. part xs a n ++ z) (drop-replicate n 8 0) in
    let long : length cs ≡ 8 = ap length is ∙ simp (length-append, length_part, length-replicate) (omega arith) in
    total_eight cs long ∙ ap total is ∙ total_part xs a n (8 - n)
