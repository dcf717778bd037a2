use Rattle.std.proofs.Common.{◌≡◌, length, take, Ok, vec_len, sym, ap, ◌∙◌, arith}
use Rattle.std.proofs.lemmas.List.{take_at}
use Rattle.std.proofs.lemmas.Result.{IfOk-weaker}
use Rattle.tape.proofs.Reporting.{left_alone}
use Rattle.tape.proofs.reports.report.Goals as goal
use Rattle.tape.specs.Reports.{run_after, run_text}

pub returns-in-Ok-clause-text : goal.returns-in-Ok-clause-text
returns-in-Ok-clause-text g c =
    let m = c.args.machine.now.content in
    let long : length c.read_short.new.places ≡ vec_len c.in_ok-items.items = omega (arith, c.read_short.auto.places, c.as_mut_slice.ensures.len) in
    let items = c.as_slice.ensures.value ∙ c.truncate.ensures.items ∙ ap (take c.in-Ok.count) (take_at c.read_short.new.places _ (vec_len c.in_ok-items.items) long) in
    IfOk-weaker c.run.result _ _ (λ t h. h ∙ ap (run_text m) (ap Ok items ∙ sym c.in-Ok.ensures.1)) c.run.ensures.text

pub returns-clause-text : goal.returns-clause-text
returns-clause-text g c =
    let m = c.args.machine.now.content in
    IfOk-weaker c.refused.result _ _ (λ t h. h ∙ ap (run_text m) (sym c.in-Err.ensures)) c.refused.ensures

pub returns-clause-after : goal.returns-clause-after
returns-clause-after g c =
    let m = c.args.machine.now.content in
    left_alone c.refused.result m _ (ap (run_after m) c.in-Err.ensures)
