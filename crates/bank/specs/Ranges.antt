-- ranges: the first byte, and the byte after the last
use Rattle.std.specs.Prelude.{◌≡◌, ℕ, zero, suc, ◌+◌, ◌-◌, ◌*◌, ◌/◌, ◌%◌, ◌^◌, min, Bool, cond, List, [], ◌∷◌, Some, None, Ok, Err, Option, Result, ◌==◌, bit_and, nat_le, nat_lt, ◌<◌, slice_index_or}
use Rattle.bank.specs.Content.{between, count, entry_of}
use Rattle.bank.specs.declared.entry.Entry.{Entry}
use Rattle.refusals.specs.Questions.{ruled, ruling}
use Rattle.refusals.specs.declared.Refusal.{Refusal}
use Rattle.refusals.specs.declared.Refusal.TheVariants.{Alignment, Exponent, Span}

-- the byte after the last that can be named
abbrev pub end : ℕ
end = 2 ^ 34

-- how many of the k lowest bits of a are ones below the lowest zero
unfoldable pub trailing_ones : ℕ → ℕ → ℕ
trailing_ones zero a = zero
trailing_ones (suc k) a = cond (a % 2 == 1) (suc (trailing_ones k (a / 2))) zero

-- NAPOT with n trailing one bits in a: 2 ^ (n + 3) bytes, cut off at the end
abbrev pub napot_with : ℕ → ℕ → ℕ × ℕ
napot_with n a = (4 * (a - (2 ^ n - 1)), min (4 * (a - (2 ^ n - 1)) + 2 ^ (n + 3)) end)

abbrev pub napot_range : ℕ → ℕ × ℕ
napot_range a = napot_with (trailing_ones 32 a) a

-- TOR: from one word to another, empty unless the first is smaller
abbrev pub tor_range : ℕ → ℕ → Option (ℕ × ℕ)
tor_range low a = cond (nat_lt low a) (Some (4 * low, 4 * a)) None

-- by mode (bits 4 and 3 of the byte): OFF, TOR, NA4, NAPOT
abbrev pub range_by : ℕ → ℕ → ℕ → Option (ℕ × ℕ)
range_by mode low a =
    cond (mode == 0) None
    (cond (mode == 0x08) (tor_range low a) (cond (mode == 0x10) (Some (4 * a, 4 * a + 4)) (Some (napot_range a))))

-- the word below entry i, or 0 for entry 0
abbrev pub word_below : List Entry → ℕ → ℕ
word_below l i = cond (i == 0) 0 (entry_of l (i - 1)).word

abbrev pub range_of : List Entry → ℕ → Option (ℕ × ℕ)
range_of l i = range_by (bit_and (entry_of l i).config 0x18) (word_below l i) (entry_of l i).word

-- the range of an entry by any number
abbrev pub range_at : List Entry → ℕ → Option (ℕ × ℕ)
range_at l i = cond (nat_lt i count) (range_of l i) None

-- the list has the range of each entry
abbrev pub Keeps : List Entry → List (Option (ℕ × ℕ)) → Type 0
Keeps l rs = (i : ℕ) → i < count → slice_index_or rs i None ≡ range_of l i

-- the word of a range of 2 ^ k bytes from base on
abbrev pub word_questions : ℕ → ℕ → List (Bool × Refusal)
word_questions base k =
    (between 3 k 34, Exponent) ∷ ((base % 2 ^ k == 0), Alignment) ∷ (nat_le (base + 2 ^ k) end, Span) ∷ []

abbrev pub range_word : ℕ → ℕ → Result ℕ Refusal
range_word base k = ruled (ruling (word_questions base k)) (Ok (base / 4 + 2 ^ (k - 3) - 1)) Err
