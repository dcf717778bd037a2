use Rattle.monitor.specs.Content.{new_bank}
use Rattle.machine.proofs.hart.Raised.set_up.Goals as goal

pub returns : goal.returns
unfolding new_bank
returns c = simp (c.write-5.ensures, c.write-4.ensures, c.write-3.ensures, c.write-2.ensures, c.write.ensures, c.requires.new)
