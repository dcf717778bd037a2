-- one line answers one line
use Rattle.calculator.proofs.Answered.{lines_answered}
use Rattle.calculator.proofs.laws.lines_answered.Goals as goal

pub returns : goal.returns
returns c = lines_answered
