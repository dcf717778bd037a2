-- an access of a size that no width stands for
use Rattle.std.proofs.Common.{sym, ap, ◌∙◌, arith}
use Rattle.std.proofs.lemmas.Result.{err_from_is_err_and}
use Rattle.tape.proofs.CallLaws.{no_width}
use Rattle.tape.proofs.calls.ItemTryFromCall.try_from.Goals as goal
use Rattle.tape.specs.Calls.{item_of}

pub returns-in_err-width-in-Access-clause-answer : goal.returns-in_err-width-in-Access-clause-answer
returns-in_err-width-in-Access-clause-answer c =
    let a = c.in-Access in
    let p = err_from_is_err_and c.from_residual-in_err-width-in-Access.result c.from_residual-in_err-width-in-Access.ensures.1 in
    let none = no_width a.kind a.address a.size a.value c.in_ok-operation-in-Access.operation (sym c.in_ok-operation-in-Access.ensures.ok_part ∙ c.operation.ensures) (sym c.in_err-width-in-Access.ensures.ok_part ∙ c.width.ensures) in
    let told = c.in_err-width-in-Access.ensures.value in
    let calls = ap item_of a.is in
    rw (p.1, p.2, calls, none) (grind arith)
