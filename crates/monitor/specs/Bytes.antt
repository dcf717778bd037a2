-- what loads read and stores write, in a list of bytes, least significant byte first
use Rattle.std.specs.Prelude.{ℕ, zero, suc, ◌+◌, ◌*◌, ◌/◌, ◌%◌, cond, List, [], ◌∷◌, ◌==◌, slice_index}
use Rattle.std.proofs.lemmas.List.Edits.{sets}

-- the number that stands in the n bytes from a on
abbrev pub number : List ℕ → ℕ → ℕ → ℕ
number bs a zero = 0
number bs a (suc n) = slice_index bs a + 256 * number bs (suc a) n

-- the n low bytes of a number
abbrev pub low_bytes : ℕ → ℕ → List ℕ
low_bytes zero v = []
low_bytes (suc n) v = (v % 256) ∷ low_bytes n (v / 256)

-- what an access answers that is carried out, and what it leaves: a store (kind 2), or a load or fetch
abbrev pub accessed : List ℕ → ℕ → ℕ → ℕ → ℕ
accessed bs kind a n = cond (kind == 2) 0 (number bs a n)

abbrev pub stored : List ℕ → ℕ → ℕ → ℕ → ℕ → List ℕ
stored bs kind a n v = cond (kind == 2) (sets bs a (low_bytes n v)) bs
