-- items and the machine's calls
use Rattle.std.specs.Prelude.{ℕ, ◌^◌, cond, List, [], ◌∷◌, Ok, Err, Result, ◌==◌}
use Rattle.monitor.specs.declared.call.Call.{Call}
use Rattle.monitor.specs.declared.call.Call.TheVariants.{Create, Enter, Pause, Finish, Destroy, Access, Register}
use Rattle.refusals.specs.Questions.{ruled, ruling}
use Rattle.refusals.specs.declared.Refusal.{Refusal}
use Rattle.std.specs.List.{flat_map}
use Rattle.tape.specs.Item.{item, item_questions}
use Rattle.tape.specs.declared.item.Item.{Item}

-- the call that each operation is, with the fields that it uses; a fetch is an access of kind 0, a load of kind 1 and a
-- store of kind 2
abbrev pub meaning : Item → Call
meaning i =
    cond (i.operation == 1) (Create i.slot i.address i.value)
    (cond (i.operation == 2) (Enter i.slot)
    (cond (i.operation == 3) Pause
    (cond (i.operation == 4) (Finish i.value)
    (cond (i.operation == 5) (Destroy i.slot)
    (cond (i.operation == 6) (Access 1 i.address (2 ^ i.width) i.value)
    (cond (i.operation == 7) (Access 2 i.address (2 ^ i.width) i.value)
    (cond (i.operation == 8) (Access 0 i.address (2 ^ i.width) i.value)
    (Register i.address i.value))))))))

-- the call that an item is, where it is accepted
abbrev pub call_of : Item → Result Call Refusal
call_of i = ruled (ruling (item_questions i)) (Ok (meaning i)) Err

-- the operation of a kind of access, and 0 where it is none
abbrev pub operation_of : ℕ → ℕ
operation_of kind = cond (kind == 0) 8 (cond (kind == 1) 6 (cond (kind == 2) 7 0))

-- the width of a size 2 ^ width, and 4 where no record has it
abbrev pub width_of : ℕ → ℕ
width_of size = cond (size == 1) 0 (cond (size == 2) 1 (cond (size == 4) 2 (cond (size == 8) 3 4)))

-- the numbers of a call
abbrev pub numbers : Call → Item
numbers (Create s b k) = item 1 s 0 b k
numbers (Enter s) = item 2 s 0 0 0
numbers Pause = item 3 0 0 0 0
numbers (Finish w) = item 4 0 0 0 w
numbers (Destroy s) = item 5 s 0 0 0
numbers (Access kind a n v) = item (operation_of kind) 0 (width_of n) a v
numbers (Register n w) = item 9 0 0 n w

-- the item that is a call, where it is accepted
abbrev pub item_of : Call → Result Item Refusal
item_of c = ruled (ruling (item_questions (numbers c))) (Ok (numbers c)) Err

-- the calls of items, in their order; an item that is refused is none
abbrev pub one_call : Result Call Refusal → List Call
one_call (Ok c) = c ∷ []
one_call (Err e) = []

abbrev pub calls_of : List Item → List Call
calls_of items = flat_map (λ i. one_call (call_of i)) items
