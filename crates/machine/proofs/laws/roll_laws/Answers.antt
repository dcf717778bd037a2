use Rattle.monitor.proofs.RollLaws.{roll_laws}
use Rattle.machine.proofs.laws.roll_laws.Goals as goal

pub returns : goal.returns
returns c = roll_laws
