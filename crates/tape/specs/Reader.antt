-- a tape, read whole
use Rattle.std.specs.Prelude.{ℕ, zero, suc, ◌+◌, ◌/◌, ◌%◌, cond, List, [], ◌∷◌, length, take, drop, Some, None, Ok, Err, Option, Result, ◌==◌, nat_le}
use Rattle.refusals.specs.declared.Refusal.TheVariants.{PartialRecord, NoPlace}
use Rattle.tape.specs.Record.{decoded}
use Rattle.tape.specs.Refusal.{after, each, refused_at}
use Rattle.tape.specs.declared.item.Item.{Item}
use Rattle.tape.specs.declared.refusal.TapeRefusal.{TapeRefusal}

-- the items of n records, the first of index i
abbrev pub reading : ℕ → ℕ → List ℕ → Result (List Item) TapeRefusal
reading zero i bytes = Ok []
reading (suc n) i bytes = after (λ x. x ∷ []) (decoded (take 16 bytes)) i (reading n (i + 1) (drop 16 bytes))

-- the same of a list of records, the first of index i
abbrev pub decoding : ℕ → List (List ℕ) → Result (List Item) TapeRefusal
decoding i records = each decoded (λ x. x ∷ []) i records

-- how many records so many bytes are, where they are whole ones
abbrev pub whole_records : ℕ → Option ℕ
whole_records n = cond (n % 16 == 0) (Some (n / 16)) None

-- the items of a tape that has some number of records, if any, read into so many places
abbrev pub read_whole : Option ℕ → List ℕ → ℕ → Result (List Item) TapeRefusal
read_whole None bytes places = Err (refused_at PartialRecord (length bytes / 16))
read_whole (Some n) bytes places = cond (nat_le n places) (reading n 0 bytes) (Err (refused_at NoPlace places))

abbrev pub read_tape : List ℕ → ℕ → Result (List Item) TapeRefusal
read_tape bytes places = read_whole (whole_records (length bytes)) bytes places
