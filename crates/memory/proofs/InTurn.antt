use Rattle.std.proofs.Common.{◌≡◌, ℕ, zero, suc, ◌+◌, ◌*◌, ◌/◌, ◌%◌, ◌^◌, ◌<◌, min, List, [], ◌∷◌, length, drop, set, sym, refl, ap, ◌∙◌, arith, length-set}
use Rattle.std.specs.List.{slice_get}
use Rattle.std.proofs.lemmas.List.{drop-set-lt}
use Rattle.memory.proofs.Front.{front_set, length_front, nth_front, rest_set, small_front}
use Rattle.memory.specs.Meaning.{joined_beyond, joined_bytes}
use Rattle.memory.specs.Bytes.{AllBytes, front, rest}
use Rattle.memory.specs.Turns.{turns, unturned}

pub length_turns : (xs ys : List ℕ) → length (turns xs ys) ≡ 2 * min (length xs) (length ys)
unfolding turns
length_turns [] ys = omega arith
length_turns (x ∷ xs) [] = omega arith
length_turns (x ∷ xs) (y ∷ ys) = omega (arith, length_turns xs ys)

pub nth_turns_even : (xs ys : List ℕ) (q : ℕ) → q < length ys → slice_get (turns xs ys) (2 * q) ≡ slice_get xs q
unfolding turns
nth_turns_even [] ys q h = refl
nth_turns_even (x ∷ xs) [] q h = absurd (omega arith)
nth_turns_even (x ∷ xs) (y ∷ ys) zero h = refl
nth_turns_even (x ∷ xs) (y ∷ ys) (suc q) h =
    let e : 2 * suc q ≡ suc (suc (2 * q)) = omega arith in rw e (nth_turns_even xs ys q (omega arith))

pub nth_turns_odd : (xs ys : List ℕ) (q : ℕ) → q < length xs → slice_get (turns xs ys) (2 * q + 1) ≡ slice_get ys q
unfolding turns
nth_turns_odd [] ys q h = absurd (omega arith)
nth_turns_odd (x ∷ xs) [] q h = refl
nth_turns_odd (x ∷ xs) (y ∷ ys) zero h = refl
nth_turns_odd (x ∷ xs) (y ∷ ys) (suc q) h =
    let e : 2 * suc q + 1 ≡ suc (suc (2 * q + 1)) = omega arith in rw e (nth_turns_odd xs ys q (omega arith))

pub set_turns_even : (xs ys : List ℕ) (q b : ℕ) → set (turns xs ys) (2 * q) b ≡ turns (set xs q b) ys
unfolding turns
set_turns_even [] ys q b = refl
set_turns_even (x ∷ xs) [] zero b = refl
set_turns_even (x ∷ xs) [] (suc q) b = refl
set_turns_even (x ∷ xs) (y ∷ ys) zero b = refl
set_turns_even (x ∷ xs) (y ∷ ys) (suc q) b =
    let e : 2 * suc q ≡ suc (suc (2 * q)) = omega arith in
    rw e (ap (λ zs. x ∷ y ∷ zs) (set_turns_even xs ys q b))

pub set_turns_odd : (xs ys : List ℕ) (q b : ℕ) → set (turns xs ys) (2 * q + 1) b ≡ turns xs (set ys q b)
unfolding turns
set_turns_odd [] ys q b = refl
set_turns_odd (x ∷ xs) [] q b = refl
set_turns_odd (x ∷ xs) (y ∷ ys) zero b = refl
set_turns_odd (x ∷ xs) (y ∷ ys) (suc q) b =
    let e : 2 * suc q + 1 ≡ suc (suc (2 * q + 1)) = omega arith in
    rw e (ap (λ zs. x ∷ y ∷ zs) (set_turns_odd xs ys q b))

small_turns : (xs ys : List ℕ) → AllBytes xs → AllBytes ys → AllBytes (turns xs ys)
unfolding turns
small_turns [] ys h g k = omega arith
small_turns (x ∷ xs) [] h g k = omega arith
small_turns (x ∷ xs) (y ∷ ys) h g zero = h 0
small_turns (x ∷ xs) (y ∷ ys) h g (suc zero) = g 0
small_turns (x ∷ xs) (y ∷ ys) h g (suc (suc k)) = small_turns xs ys (λ j. h (suc j)) (λ j. g (suc j)) k

pub small_joined : (xs ys : List ℕ) → AllBytes xs → AllBytes ys → AllBytes (joined_bytes xs ys)
small_joined xs ys h g = small_front (turns xs ys) (small_turns xs ys h g)

pub both_within : (xs ys : List ℕ) (p : ℕ) → p < length (joined_bytes xs ys) → (p / 2 < length xs) × (p / 2 < length ys)
both_within xs ys p h =
    (omega (arith, length_front (turns xs ys), length_turns xs ys), omega (arith, length_front (turns xs ys), length_turns xs ys))

pub length_joined : (xs ys : List ℕ) → length (joined_bytes xs ys) ≡ min (2 ^ 34) (2 * min (length xs) (length ys))
length_joined xs ys = omega (arith, length_front (turns xs ys), length_turns xs ys)

-- a read of one of the two, and what a write to it leaves
module _ (xs ys : List ℕ) (p : ℕ) (within : p < length (joined_bytes xs ys)) where
  cut : p < 2 ^ 34
  cut = omega (arith, length_front (turns xs ys))

  pub even_read : p % 2 ≡ 0 → slice_get (joined_bytes xs ys) p ≡ slice_get xs (p / 2)
  even_read h =
      let k : 2 * (p / 2) ≡ p = omega arith in
      nth_front (turns xs ys) p cut
      ∙ ap (slice_get (turns xs ys)) (sym k)
      ∙ nth_turns_even xs ys (p / 2) (both_within xs ys p within).1

  pub odd_read : p % 2 ≡ 1 → slice_get (joined_bytes xs ys) p ≡ slice_get ys (p / 2)
  odd_read h =
      let k : 2 * (p / 2) + 1 ≡ p = omega arith in
      nth_front (turns xs ys) p cut
      ∙ ap (slice_get (turns xs ys)) (sym k)
      ∙ nth_turns_odd xs ys (p / 2) (both_within xs ys p within).0

  module _ (b : ℕ) where
    even_turns : p % 2 ≡ 0 → turns (set xs (p / 2) b) ys ≡ set (turns xs ys) p b
    even_turns h =
        let k : 2 * (p / 2) ≡ p = omega arith in
        sym (set_turns_even xs ys (p / 2) b) ∙ ap (λ i. set (turns xs ys) i b) k

    pub even_write : p % 2 ≡ 0 → joined_bytes (set xs (p / 2) b) ys ≡ set (joined_bytes xs ys) p b
    even_write h = ap front (even_turns h) ∙ front_set (turns xs ys) p b

    pub even_beyond : p % 2 ≡ 0 → joined_beyond (set xs (p / 2) b) ys ≡ joined_beyond xs ys
    unfolding unturned
    even_beyond h =
        let past : rest (turns (set xs (p / 2) b) ys) ≡ rest (turns xs ys) = ap rest (even_turns h) ∙ rest_set (turns xs ys) p b cut in
        let tail : drop (length ys) (set xs (p / 2) b) ≡ drop (length ys) xs =
        drop-set-lt (length ys) xs (p / 2) b (both_within xs ys p within).1
        in
        simp (past, length-set, tail)

    odd_turns : p % 2 ≡ 1 → turns xs (set ys (p / 2) b) ≡ set (turns xs ys) p b
    odd_turns h =
        let k : 2 * (p / 2) + 1 ≡ p = omega arith in
        sym (set_turns_odd xs ys (p / 2) b) ∙ ap (λ i. set (turns xs ys) i b) k

    pub odd_write : p % 2 ≡ 1 → joined_bytes xs (set ys (p / 2) b) ≡ set (joined_bytes xs ys) p b
    odd_write h = ap front (odd_turns h) ∙ front_set (turns xs ys) p b

    pub odd_beyond : p % 2 ≡ 1 → joined_beyond xs (set ys (p / 2) b) ≡ joined_beyond xs ys
    unfolding unturned
    odd_beyond h =
        let past : rest (turns xs (set ys (p / 2) b)) ≡ rest (turns xs ys) = ap rest (odd_turns h) ∙ rest_set (turns xs ys) p b cut in
        let tail : drop (length xs) (set ys (p / 2) b) ≡ drop (length xs) ys =
        drop-set-lt (length xs) ys (p / 2) b (both_within xs ys p within).0
        in
        simp (past, length-set, tail)

pub ruleset joins = (length_joined, small_joined, even_read, odd_read, even_write, odd_write, even_beyond, odd_beyond)
