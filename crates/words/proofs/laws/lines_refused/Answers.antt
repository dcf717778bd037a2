use Rattle.words.proofs.Refusing.{lines_refused}
use Rattle.words.proofs.laws.lines_refused.Goals as goal

pub returns : goal.returns
returns c = lines_refused
