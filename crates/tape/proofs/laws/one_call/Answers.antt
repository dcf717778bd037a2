use Rattle.tape.proofs.CallLaws.{one_call}
use Rattle.tape.proofs.laws.one_call.Goals as goal

pub returns : goal.returns
returns c = one_call
