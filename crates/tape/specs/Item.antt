-- an item's questions: whether its numbers are a call
use Rattle.std.specs.Prelude.{ℕ, ◌-◌, ◌^◌, ◌<◌, Bool, cond, ◌&&◌, List, [], ◌∷◌, ◌==◌, nat_le}
use Rattle.refusals.specs.declared.Refusal.{Refusal}
use Rattle.refusals.specs.declared.Refusal.TheVariants.{Operation, Fields}
use Rattle.tape.specs.declared.item.Item.{Item}

abbrev pub item : ℕ → ℕ → ℕ → ℕ → ℕ → Item
item operation slot width address value = record { operation = operation; slot = slot; width = width; address = address; value = value }

-- one of the nine operations?
abbrev pub is_operation : ℕ → Bool
is_operation n = nat_le 1 n && nat_le n 9

-- the largest number that each field of an operation may hold: zero where the field is not used, and else what fits its
-- bits; a register's word has 32
unfoldable pub largest_of : ℕ → Item
largest_of n =
    cond (n == 1) (item n 15 0 (2 ^ 34 - 1) (2 ^ 64 - 1))
    (cond (n == 2) (item n 15 0 0 0)
    (cond (n == 3) (item n 0 0 0 0)
    (cond (n == 4) (item n 0 0 0 (2 ^ 64 - 1))
    (cond (n == 5) (item n 15 0 0 0)
    (cond (n == 6) (item n 0 3 (2 ^ 34 - 1) 0)
    (cond (n == 7) (item n 0 3 (2 ^ 34 - 1) (2 ^ 64 - 1))
    (cond (n == 8) (item n 0 3 (2 ^ 34 - 1) 0)
    (item n 0 0 (2 ^ 34 - 1) (2 ^ 32 - 1)))))))))

-- no field larger than in another item?
abbrev pub within : Item → Item → Bool
within i most = nat_le i.slot most.slot && nat_le i.width most.width && nat_le i.address most.address && nat_le i.value most.value

abbrev pub item_questions : Item → List (Bool × Refusal)
item_questions i = (is_operation i.operation, Operation) ∷ (within i (largest_of i.operation), Fields) ∷ []

-- each field fits its bits
pub record Fitting (i : Item) : Type 0 where
  pub operation_fits : i.operation < 16
  pub slot_fits : i.slot < 16
  pub width_fits : i.width < 4
  pub address_fits : i.address < 2 ^ 34
