use Rattle.std.proofs.Common.{◌≡◌, ◌++◌, take, drop}
use Rattle.monitor.specs.Content.{banked}
use Rattle.monitor.specs.Theorem.{calls, log, ran}
use Rattle.machine.proofs.machine.Machine.run_through.Given as goal

abbrev pub invariant-loop-step : goal.invariant-loop-step
invariant-loop-step g l =
    (ran banked l.self.content (calls (drop l.step-index l.initial.log)) ≡ ran banked l.initial.self.content (calls l.initial.log))
    × (take l.step-index l.log ++ log banked l.self.content (calls (drop l.step-index l.initial.log))
    ≡ log banked l.initial.self.content (calls l.initial.log))
    × (drop l.step-index l.log ≡ drop l.step-index l.initial.log)
    × (l.self.beyond ≡ l.initial.self.beyond)
