-- laws of the memories, in the subject's words; the constructors' contracts carry them
use Rattle.std.specs.Prelude.{◌≡◌, ℕ, ◌*◌, ◌/◌, ◌%◌, ◌^◌, ◌<◌, ◌≤◌, min, ◌≢◌, List, ◌++◌, length, Some, slice_index, slice_set}
use Rattle.memory.specs.Bytes.{front, rest}
use Rattle.memory.specs.Meaning.{joined_bytes}
use Rattle.memory.specs.Words.{spread}
use Rattle.std.specs.List.{slice_get}

-- What is written is read back, every other place stays, and past the end nothing is written.
pub record ReadsBack : Type 0 where
  pub here : (bs : List ℕ) (p b : ℕ) → p < length bs → slice_get (slice_set bs p b) p ≡ Some b
  pub others : (bs : List ℕ) (p q b : ℕ) → q ≢ p → slice_get (slice_set bs p b) q ≡ slice_get bs q
  pub past : (bs : List ℕ) (p b : ℕ) → length bs ≤ p → slice_set bs p b ≡ bs
  pub long : (bs : List ℕ) (p b : ℕ) → length (slice_set bs p b) ≡ length bs

-- A buffer of bytes: as many as it has, at most 2 ^ 34, each at its own place; what is left over follows them.
pub record BytesInPlace : Type 0 where
  pub long : (xs : List ℕ) → length (front xs) ≡ min (2 ^ 34) (length xs)
  pub place : (xs : List ℕ) (p : ℕ) → p < length (front xs) → slice_get (front xs) p ≡ slice_get xs p
  pub whole : (xs : List ℕ) → front xs ++ rest xs ≡ xs

-- Words: place p is byte p % 4 of word p / 4, and byte 0 of a word is its least significant.
pub record WordsInPlace : Type 0 where
  pub long : (ws : List ℕ) → length (front (spread ws)) ≡ min (2 ^ 34) (4 * length ws)
  pub place : (ws : List ℕ) (p : ℕ) → p < length (front (spread ws)) → slice_get (front (spread ws)) p ≡ Some (slice_index ws (p / 4) / 256 ^ (p % 4) % 256)

-- A pair: place p is place p / 2 of the first where p is even, of the second where it is odd.
pub record HalvesInTurn : Type 0 where
  pub long : (xs ys : List ℕ) → length (joined_bytes xs ys) ≡ min (2 ^ 34) (2 * min (length xs) (length ys))
  pub even : (xs ys : List ℕ) (p : ℕ) → p < length (joined_bytes xs ys) → p % 2 ≡ 0 → slice_get (joined_bytes xs ys) p ≡ slice_get xs (p / 2)
  pub odd : (xs ys : List ℕ) (p : ℕ) → p < length (joined_bytes xs ys) → p % 2 ≡ 1 → slice_get (joined_bytes xs ys) p ≡ slice_get ys (p / 2)
