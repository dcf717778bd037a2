use Rattle.std.proofs.Common.{◌+◌, ◌-◌, ◌*◌, ◌/◌, sym, ◌∙◌, arith}
use Rattle.machine.proofs.Wiping.{wiped_done, wiped_more}
use Rattle.machine.proofs.bytes.wipe.Goals as goal

pub loop-i-preserved : goal.loop-i-preserved
loop-i-preserved g c =
    let i = c.loop-i.i in
    let n = (c.args.range.1 - c.args.range.0) / 8 in
    let more =
    wiped_more c.args.bank.now (g.M.Memory.bytes c.loop-i.memory) _ (c.args.range.0 + 8 * i) (c.args.range.0 + 8 * (i + 1)) (n - i) (n - (i + 1))
    (omega arith) (omega arith) c.wipe_eight.ensures.after in
    (more ∙ c.loop-i.invariant.0, c.wipe_eight.ensures.beyond ∙ c.loop-i.invariant.1)

pub returns : goal.returns
returns g c =
    record {
      after = sym (wiped_done c.args.bank.now (g.M.Memory.bytes c.loop-i.memory) _ _ (omega arith)) ∙ c.loop-i.invariant.0;
      beyond = c.loop-i.invariant.1;
    }
