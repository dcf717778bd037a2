-- the words that name operations
use Rattle.std.specs.Prelude.{ℕ, cond, List, Some, None, codes, Option}
use Rattle.std.specs.Str.{bytes_eq}
use Rattle.tape.specs.declared.operation.Operation.{Operation}
use Rattle.tape.specs.declared.operation.Operation.TheVariants.{Create, Enter, Pause, Finish, Destroy, Load, Store, Fetch, Register}

abbrev pub operation_named : List ℕ → Option Operation
operation_named w =
    cond (bytes_eq w (codes "create")) (Some Create)
    (cond (bytes_eq w (codes "enter")) (Some Enter)
    (cond (bytes_eq w (codes "pause")) (Some Pause)
    (cond (bytes_eq w (codes "finish")) (Some Finish)
    (cond (bytes_eq w (codes "destroy")) (Some Destroy)
    (cond (bytes_eq w (codes "load")) (Some Load)
    (cond (bytes_eq w (codes "store")) (Some Store)
    (cond (bytes_eq w (codes "fetch")) (Some Fetch) (cond (bytes_eq w (codes "register")) (Some Register) None))))))))
