use Rattle.monitor.specs.Theorem.{calls}
use Rattle.std.proofs.Common.{◌≡◌, take, vec_items}
use Rattle.tape.proofs.reports.log_of.Given as goal
use Rattle.tape.specs.Calls.{calls_of}

abbrev pub invariant-loop-item : goal.invariant-loop-item
invariant-loop-item l = calls (vec_items l.log) ≡ calls_of (take l.item-index l.items)
