-- a list that is made one part after another, or refused at an index
use Rattle.std.specs.Prelude.{ℕ, ◌+◌, List, [], ◌∷◌, ◌++◌, length, drop, Ok, Err, Result}
use Rattle.refusals.specs.declared.Refusal.{Refusal}
use Rattle.tape.specs.declared.refusal.TapeRefusal.{TapeRefusal}

abbrev pub refused_at : Refusal → ℕ → TapeRefusal
refused_at e i = record { refusal = e; index = i }

module _ {X : Type 0} where
  -- a list in front of what follows, unless that is refused
  abbrev pub prepend : List X → Result (List X) TapeRefusal → Result (List X) TapeRefusal
  prepend xs (Ok ys) = Ok (xs ++ ys)
  prepend xs (Err e) = Err e

  -- the part of index i, and what follows: the first refusal counts
  abbrev pub after : {Y : Type 0} → (Y → List X) → Result Y Refusal → ℕ → Result (List X) TapeRefusal → Result (List X) TapeRefusal
  after f (Ok y) i rest = prepend (f y) rest
  after f (Err e) i rest = Err (refused_at e i)

  -- whether the list is refused
  abbrev pub verdict : Result (List X) TapeRefusal → Result (Unit {0}) TapeRefusal
  verdict (Ok xs) = Ok tt
  verdict (Err e) = Err e

  -- a given count, or the refusal
  abbrev pub counted : ℕ → Result (List X) TapeRefusal → Result ℕ TapeRefusal
  counted n (Ok xs) = Ok n
  counted n (Err e) = Err e

  -- how long the list is, or the refusal
  abbrev pub measured : Result (List X) TapeRefusal → Result ℕ TapeRefusal
  measured (Ok xs) = Ok (length xs)
  measured (Err e) = Err e

  -- a buffer with the list at its front; a refusal leaves it as it was
  abbrev pub placed : Result (List X) TapeRefusal → List X → List X
  placed (Ok xs) old = xs ++ drop (length xs) old
  placed (Err e) old = old

-- the parts that the members of a list make, one after another, the first of index i
abbrev pub each : {X Y Z : Type 0} → (X → Result Y Refusal) → (Y → List Z) → ℕ → List X → Result (List Z) TapeRefusal
each f g i [] = Ok []
each f g i (x ∷ xs) = after g (f x) i (each f g (i + 1) xs)
