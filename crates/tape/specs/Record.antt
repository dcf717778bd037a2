-- a record: 16 bytes, the fields of an item packed one after another, most significant bit first
use Rattle.std.specs.Prelude.{ℕ, zero, suc, ◌+◌, ◌*◌, ◌/◌, ◌%◌, ◌^◌, Bool, List, [], ◌∷◌, Ok, Err, Result, ◌==◌}
use Rattle.refusals.specs.Questions.{ruled, ruling}
use Rattle.refusals.specs.declared.Refusal.{Refusal}
use Rattle.refusals.specs.declared.Refusal.TheVariants.{Operation, Fields}
use Rattle.std.specs.Int.Digits.{number_from_digits}
use Rattle.tape.specs.Item.{is_operation, item, item_questions, largest_of, within}
use Rattle.tape.specs.declared.item.Item.{Item}
use Rattle.tape.specs.declared.record.Unpacked.{Unpacked}

-- what a number of 128 bits holds: operation 4 bits, slot 4, width 2, spare 20, address 34, value 64
abbrev pub split : ℕ → Unpacked
split n = record {
  spare = n / 2 ^ 98 % 2 ^ 20;
  item = item (n / 2 ^ 124) (n / 2 ^ 120 % 16) (n / 2 ^ 118 % 4) (n / 2 ^ 64 % 2 ^ 34) (n % 2 ^ 64);
}

-- the number that an item makes, its spare bits zero
abbrev pub packed : Item → ℕ
packed i = (((i.operation * 16 + i.slot) * 4 + i.width) * 2 ^ 54 + i.address) * 2 ^ 64 + i.value

-- the lowest k bytes of a number, most significant first
abbrev pub bytes_of : ℕ → ℕ → List ℕ
bytes_of zero n = []
bytes_of (suc k) n = (n / 256 ^ k % 256) ∷ bytes_of k n

-- the questions of its item, and whether the spare bits are zero
abbrev pub record_questions : Unpacked → List (Bool × Refusal)
record_questions u =
    (is_operation u.item.operation, Operation) ∷ (within u.item (largest_of u.item.operation), Fields) ∷ ((u.spare == 0), Fields) ∷ []

-- the item of a record
abbrev pub decoded : List ℕ → Result Item Refusal
decoded bytes = let u = split (number_from_digits 256 bytes) in ruled (ruling (record_questions u)) (Ok u.item) Err

-- the record of an item
abbrev pub encoded : Item → Result (List ℕ) Refusal
encoded i = ruled (ruling (item_questions i)) (Ok (bytes_of 16 (packed i))) Err
