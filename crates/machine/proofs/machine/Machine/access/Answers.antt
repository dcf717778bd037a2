use Rattle.std.proofs.Common.{Err, sym, ap, ◌∙◌}
use Rattle.std.proofs.lemmas.Result.{err_from_is_err_and}
use Rattle.bank.specs.Verdicts.{verdict_of}
use Rattle.monitor.specs.Content.{reply, roll_of}
use Rattle.monitor.specs.declared.answer.Denial.TheVariants.{Refused}
use Rattle.monitor.specs.declared.call.Call.TheVariants.{Access}
use Rattle.refusals.specs.Questions.{ruled}
use Rattle.machine.proofs.Refused.{access_refused}
use Rattle.machine.proofs.machine.Machine.access.Goals as goal

pub returns-in_err-verdict-clause-answer : goal.returns-in_err-verdict-clause-answer
returns-in_err-verdict-clause-answer g c =
    let a = c.args in
    let m = c.self.inside in
    let s = a.self.now.content in
    let p = err_from_is_err_and c.from_residual.result c.from_residual.ensures.1 in
    let refused =
    access_refused (roll_of s) (sym c.started.ensures ∙ c.if-not-started.false) m.bank m.hart.privilege a.kind a.address a.size a.value
    c.in_err-verdict.field-0.0 (c.in_err-verdict.ensures.answer ∙ ap (λ n. verdict_of m.bank n a.kind a.address a.size) c.into-2.ensures) in
    p.1 ∙ ap Err p.2 ∙ sym (ap (λ j. ruled j (reply s (Access a.kind a.address a.size a.value)) (λ e. Err (Refused e))) refused)
