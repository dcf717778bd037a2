use Rattle.tape.proofs.Reporting.{same_text}
use Rattle.tape.proofs.laws.same_text.Goals as goal

pub returns : goal.returns
returns c = same_text
