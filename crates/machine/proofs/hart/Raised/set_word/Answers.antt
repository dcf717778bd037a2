use Rattle.std.proofs.Common.{rules}
use Rattle.monitor.specs.Content.{address}
use Rattle.machine.proofs.hart.Raised.set_word.Goals as goal

pub returns : goal.returns
unfolding address
returns c = search rules
