-- items, written whole as a tape
use Rattle.std.specs.Prelude.{ℕ, ◌/◌, cond, List, length, Err, Result, nat_le}
use Rattle.refusals.specs.declared.Refusal.TheVariants.{NoPlace}
use Rattle.tape.specs.Record.{encoded}
use Rattle.tape.specs.Refusal.{each, refused_at}
use Rattle.tape.specs.declared.item.Item.{Item}
use Rattle.tape.specs.declared.refusal.TapeRefusal.{TapeRefusal}

-- the records of items, the first of index i
abbrev pub writing : ℕ → List Item → Result (List ℕ) TapeRefusal
writing i items = each encoded (λ bytes. bytes) i items

-- the tape of items, written into so many bytes
abbrev pub write_tape : List Item → ℕ → Result (List ℕ) TapeRefusal
write_tape items room = cond (nat_le (length items) (room / 16)) (writing 0 items) (Err (refused_at NoPlace (room / 16)))
