use Rattle.monitor.proofs.Worked.{machine_examples}
use Rattle.machine.proofs.laws.machine_examples.Goals as goal

pub returns : goal.returns
returns c = machine_examples
