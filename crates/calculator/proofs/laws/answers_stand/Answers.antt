-- the answers to some lines stand
use Rattle.calculator.proofs.Standing.{answers_stand}
use Rattle.calculator.proofs.laws.answers_stand.Goals as goal

pub returns : goal.returns
returns c = answers_stand
