-- the front of a list and its rest
use Rattle.std.proofs.Common.{◌≡◌, ℕ, zero, suc, ◌^◌, ◌<◌, min, List, [], ◌∷◌, ◌++◌, length, get_or, take, set, Some, refl, ap, ◌∙◌, arith}
use Rattle.std.specs.List.{slice_get}
use Rattle.std.proofs.lemmas.List.{drop-set-lt, get_or-take, get_or_past, length-take, take-append-drop}
use Rattle.std.proofs.lemmas.Option.{gets, slice_get-get_or}
use Rattle.memory.specs.Bytes.{AllBytes, front, rest}

pub length_front : (xs : List ℕ) → length (front xs) ≡ min (2 ^ 34) (length xs)
unfolding front
length_front xs = length-take (2 ^ 34) xs

pub get_d_front : (xs : List ℕ) (i d : ℕ) → i < length (front xs) → get_or (front xs) i d ≡ get_or xs i d
unfolding front
get_d_front xs i d h = get_or-take (2 ^ 34) xs i d (omega (arith, length-take (2 ^ 34) xs))

take_set : (n : ℕ) (xs : List ℕ) (i y : ℕ) → take n (set xs i y) ≡ set (take n xs) i y
take_set zero xs i y = refl
take_set (suc n) [] i y = refl
take_set (suc n) (x ∷ xs) zero y = refl
take_set (suc n) (x ∷ xs) (suc i) y = ap (λ zs. x ∷ zs) (take_set n xs i y)

-- a write anywhere: past the end of the front it is none on either side
pub front_set : (xs : List ℕ) (i y : ℕ) → front (set xs i y) ≡ set (front xs) i y
unfolding front
front_set xs i y = take_set (2 ^ 34) xs i y

pub rest_set : (xs : List ℕ) (i y : ℕ) → i < 2 ^ 34 → rest (set xs i y) ≡ rest xs
unfolding rest
rest_set xs i y h = drop-set-lt (2 ^ 34) xs i y h

pub front_rest : (xs : List ℕ) → front xs ++ rest xs ≡ xs
unfolding front rest
front_rest xs = take-append-drop (2 ^ 34) xs

nth_take : (n : ℕ) (xs : List ℕ) (i : ℕ) → i < n → slice_get (take n xs) i ≡ slice_get xs i
nth_take n xs i h = grind (gets, arith, get_or-take, length-take)

pub nth_front : (xs : List ℕ) (i : ℕ) → i < 2 ^ 34 → slice_get (front xs) i ≡ slice_get xs i
unfolding front
nth_front xs i h = nth_take (2 ^ 34) xs i h

pub read_front : (xs : List ℕ) (i : ℕ) → i < length (front xs) → slice_get (front xs) i ≡ Some (get_or xs i 0)
read_front xs i h =
    nth_front xs i (omega (arith, length_front xs)) ∙ slice_get-get_or xs i 0 (omega (arith, length_front xs))

small_take : (n : ℕ) (xs : List ℕ) → AllBytes xs → AllBytes (take n xs)
small_take n xs h = λ k. let small = h k in grind (arith, get_or-take, get_or_past, length-take)

pub small_front : (xs : List ℕ) → AllBytes xs → AllBytes (front xs)
unfolding front
small_front xs h = small_take (2 ^ 34) xs h

pub ruleset fronts = (length_front, small_front, read_front, front_set, rest_set)
