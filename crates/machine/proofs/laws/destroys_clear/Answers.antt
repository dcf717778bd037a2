use Rattle.monitor.proofs.Worked.{destroys_clear}
use Rattle.machine.proofs.laws.destroys_clear.Goals as goal

pub returns : goal.returns
returns c = destroys_clear
