use Rattle.tape.proofs.Trips.{reads_back}
use Rattle.tape.proofs.laws.reads_back.Goals as goal

pub returns : goal.returns
returns c = reads_back
