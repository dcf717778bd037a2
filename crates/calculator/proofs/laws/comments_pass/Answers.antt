-- blank lines and comments
use Rattle.calculator.proofs.Standing.{comments_pass}
use Rattle.calculator.proofs.laws.comments_pass.Goals as goal

pub returns : goal.returns
returns c = comments_pass
