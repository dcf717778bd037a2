use Rattle.monitor.proofs.Bridge.{closed_off}
use Rattle.machine.proofs.laws.closed_off.Goals as goal

pub returns : goal.returns
returns c = closed_off
