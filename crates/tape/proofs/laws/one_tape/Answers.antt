use Rattle.tape.proofs.Trips.{one_tape}
use Rattle.tape.proofs.laws.one_tape.Goals as goal

pub returns : goal.returns
returns c = one_tape
