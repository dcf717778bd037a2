-- the operations of a tape, and their numbers
use Rattle.std.specs.Prelude.{◌≡◌, ℕ, false, cond, Some, None, Ok, Err, Option, Result, ◌==◌}
use Rattle.refusals.specs.declared.Refusal.{Refusal}
use Rattle.refusals.specs.declared.Refusal.TheVariants.{Operation as NoOperation}
use Rattle.tape.specs.Item.{is_operation}
use Rattle.tape.specs.declared.operation.Operation.{Operation}
use Rattle.tape.specs.declared.operation.Operation.TheVariants.{Create, Enter, Pause, Finish, Destroy, Load, Store, Fetch, Register}

abbrev pub operation_number : Operation → ℕ
operation_number Create = 1
operation_number Enter = 2
operation_number Pause = 3
operation_number Finish = 4
operation_number Destroy = 5
operation_number Load = 6
operation_number Store = 7
operation_number Fetch = 8
operation_number Register = 9

-- the operation of a number, or the refusal of a number that is none
abbrev pub Decodes : ℕ → Result Operation Refusal → Type 0
Decodes n (Ok o) = operation_number o ≡ n
Decodes n (Err e) = (is_operation n ≡ false) × (e ≡ NoOperation)

-- the operation of a kind of access
abbrev pub access_operation : ℕ → Option Operation
access_operation kind = cond (kind == 0) (Some Fetch) (cond (kind == 1) (Some Load) (cond (kind == 2) (Some Store) None))
