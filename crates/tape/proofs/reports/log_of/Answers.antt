use Rattle.monitor.specs.Theorem.{calls}
use Rattle.tape.proofs.Lines.{call_pushed, call_refused}
use Rattle.tape.proofs.reports.log_of.Goals as goal
use Rattle.tape.proofs.reports.log_of.Goals.{in-Ok+in_ok-push, in_default}
use Rattle.std.proofs.Common.{vec_items, ap, ◌∙◌, Ok}
use Rattle.tape.specs.Item.{item}

pub loop-item-preserved : goal.loop-item-preserved
loop-item-preserved c =
    elim c.match-try_from.branch [
      | in-Ok+in_ok-push w ↦ call_pushed (vec_items c.loop-item.log) (vec_items c.match-try_from.log) c.args.items.now c.loop-item.item-index (item 0 0 0 0 0) w.in-Ok.call (Ok 0)
          c.loop-item-test.true c.loop-item.invariant w.in-Ok.ensures.answer (ap vec_items w.log-is ∙ w.in_ok-push.ensures.items)
      | in_default w ↦ ap (λ v. calls (vec_items v)) w.log-is ∙ call_refused (vec_items c.loop-item.log) c.args.items.now c.loop-item.item-index (item 0 0 0 0 0) w.in_default.field-0
          c.loop-item-test.true c.loop-item.invariant w.in_default.ensures.answer
    ]
