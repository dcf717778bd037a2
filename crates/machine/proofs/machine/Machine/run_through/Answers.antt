use Rattle.std.proofs.Common.{sym, ◌∙◌, arith, Ok}
use Rattle.monitor.specs.declared.call.Call.TheVariants.{Pause}
use Rattle.machine.proofs.Logs.{log_all, log_more, ran_all, ran_more, rest_more}
use Rattle.machine.proofs.machine.Machine.run_through.Goals as goal

pub loop-step-preserved : goal.loop-step-preserved
loop-step-preserved g c =
    let es = c.args.log.now in
    let os = c.loop-step.log in
    let i = c.loop-step.step-index in
    let m = c.loop-step.self.content in
    let n = c.call-step.new.self.content in
    let inv = c.loop-step.invariant in (
      ran_more es os i _ m inv.2 n c.call-step.result (omega arith) (omega arith) c.call-step.ensures.answer c.call-step.ensures.after ∙ inv.0,
      log_more es os i _ m inv.2 n c.call-step.result (omega arith) (omega arith) c.call-step.ensures.answer c.call-step.ensures.after ∙ inv.1,
      rest_more es os i (Pause, Ok 0) m inv.2 _,
      c.call-step.ensures.beyond ∙ inv.3,
    )

pub returns : goal.returns
returns g c =
    let es = c.args.log.now in
    let os = c.loop-step.log in
    let i = c.loop-step.step-index in
    let m = c.loop-step.self.content in
    let inv = c.loop-step.invariant in
    record {
      log = sym (log_all es os i m (omega arith) (omega arith)) ∙ inv.1;
      after = sym (ran_all es i m (omega arith)) ∙ inv.0;
      beyond = inv.3;
    }
