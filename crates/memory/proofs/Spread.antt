use Rattle.std.proofs.Common.{◌≡◌, ℕ, zero, suc, ◌+◌, ◌*◌, ◌/◌, ◌%◌, ◌<◌, List, [], ◌∷◌, ◌++◌, length, get_or, set, sym, refl, ap, ◌∙◌, arith}
use Rattle.std.proofs.lemmas.List.{get_or_default, get_or-append-add, get_or_append_left, length-append, set-append_left, get_or_read}
use Rattle.memory.specs.Bytes.{AllBytes}
use Rattle.memory.specs.Words.{four, spread}

pub length_spread : (ws : List ℕ) → length (spread ws) ≡ 4 * length ws
unfolding spread
length_spread [] = refl
length_spread (w ∷ ws) = omega (arith, length-append (four w) (spread ws), length_spread ws)

pub getD_spread : (ws : List ℕ) (q r d : ℕ) → q < length ws → r < 4 → get_or (spread ws) (4 * q + r) d ≡ get_or (four (get_or ws q 0)) r d
unfolding spread
getD_spread [] q r d h l = absurd (omega arith)
getD_spread (w ∷ ws) zero r d h l =
    let e : 0 + r ≡ r = omega arith in rw e (get_or_append_left (four w) (spread ws) d r l)
getD_spread (w ∷ ws) (suc q) r d h l =
    let e : 4 * suc q + r ≡ 4 + (4 * q + r) = omega arith in
    rw e (get_or-append-add (four w) (spread ws) (4 * q + r) d ∙ getD_spread ws q r d (omega arith) l)

-- the word of four bytes, least significant first
abbrev pub word : List ℕ → ℕ
word bs = get_or bs 0 0 + get_or bs 1 0 * 256 + get_or bs 2 0 * 65536 + get_or bs 3 0 * 16777216

four_word : (x y z w : ℕ) → x < 256 → y < 256 → z < 256 → w < 256 → four (x + y * 256 + z * 65536 + w * 16777216) ≡ x ∷ y ∷ z ∷ w ∷ []
four_word x y z w a b c d =
    let p : (x + y * 256 + z * 65536 + w * 16777216) / 256 ≡ y + z * 256 + w * 65536 = omega arith in
    let q : (x + y * 256 + z * 65536 + w * 16777216) / 65536 ≡ z + w * 256 = omega arith in
    let r : (x + y * 256 + z * 65536 + w * 16777216) / 16777216 ≡ w = omega arith in
    let e : (x + y * 256 + z * 65536 + w * 16777216) % 256 ≡ x = omega arith in
    let f : (x + y * 256 + z * 65536 + w * 16777216) / 256 % 256 ≡ y = rw p (omega arith) in
    let g : (x + y * 256 + z * 65536 + w * 16777216) / 65536 % 256 ≡ z = rw q (omega arith) in
    let h : (x + y * 256 + z * 65536 + w * 16777216) / 16777216 % 256 ≡ w = rw r (omega arith) in
    cc

four_set : (w r b : ℕ) → r < 4 → b < 256 → four (word (set (four w) r b)) ≡ set (four w) r b
four_set w zero b h l = four_word _ _ _ _ (omega arith) (omega arith) (omega arith) (omega arith)
four_set w (suc zero) b h l = four_word _ _ _ _ (omega arith) (omega arith) (omega arith) (omega arith)
four_set w (suc (suc zero)) b h l = four_word _ _ _ _ (omega arith) (omega arith) (omega arith) (omega arith)
four_set w (suc (suc (suc zero))) b h l = four_word _ _ _ _ (omega arith) (omega arith) (omega arith) (omega arith)
four_set w (suc (suc (suc (suc r)))) b h l = absurd (omega arith)

pub set_spread : (ws : List ℕ) (q r b : ℕ) → q < length ws → r < 4 → b < 256 → set (spread ws) (4 * q + r) b ≡ spread (set ws q (word (set (four (get_or ws q 0)) r b)))
unfolding spread
set_spread [] q r b h l m = absurd (omega arith)
set_spread (w ∷ ws) zero r b h l m =
    let e : 0 + r ≡ r = omega arith in
    rw e (set-append_left (four w) (spread ws) r b l ∙ ap (λ zs. zs ++ spread ws) (sym (four_set w r b l m)))
set_spread (w ∷ ws) (suc q) r b h l m =
    let e : 4 * suc q + r ≡ suc (suc (suc (suc (4 * q + r)))) = omega arith in
    rw e (ap (λ zs. four w ++ zs) (set_spread ws q r b (omega arith) l m))

pub small_spread : (ws : List ℕ) → AllBytes (spread ws)
unfolding spread
small_spread [] k = omega arith
small_spread (w ∷ ws) zero = omega arith
small_spread (w ∷ ws) (suc zero) = omega arith
small_spread (w ∷ ws) (suc (suc zero)) = omega arith
small_spread (w ∷ ws) (suc (suc (suc zero))) = omega arith
small_spread (w ∷ ws) (suc (suc (suc (suc k)))) = small_spread ws k

-- what a read of the words gives, and what a write leaves
module _ (ws : List ℕ) (p : ℕ) (inside : p / 4 < length ws) where
  pub spread_read : get_or (spread ws) p 0 ≡ get_or (four (get_or ws (p / 4) 0)) (p % 4) 0
  spread_read =
      let e : 4 * (p / 4) + p % 4 ≡ p = omega arith in
      ap (λ n. get_or (spread ws) n 0) (sym e) ∙ getD_spread ws (p / 4) (p % 4) 0 inside (omega arith)

  -- w is the word there, and l its bytes
  module _ (w : ℕ) (is : w ≡ get_or ws (p / 4) w) (l : List ℕ) (bytes : l ≡ four w) where
    here : l ≡ four (get_or ws (p / 4) 0)
    here = bytes ∙ ap four (get_or_read ws (p / 4) w inside is 0)

    -- r is the word with byte b in its place
    pub spread_set : (b r : ℕ) → b < 256 → r ≡ word (set l (p % 4) b) → spread (set ws (p / 4) r) ≡ set (spread ws) p b
    spread_set b r small made =
        let e : 4 * (p / 4) + p % 4 ≡ p = omega arith in
        ap (λ n. spread (set ws (p / 4) n)) (made ∙ ap (λ m. word (set m (p % 4) b)) here)
        ∙ sym (set_spread ws (p / 4) (p % 4) b inside (omega arith) small)
        ∙ ap (λ n. set (spread ws) n b) e

pub ruleset spreads = (length_spread, small_spread, spread_read, spread_set, get_or_default)
