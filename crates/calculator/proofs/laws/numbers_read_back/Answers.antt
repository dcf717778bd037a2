-- printed digits, read
use Rattle.calculator.proofs.Back.{read_back}
use Rattle.calculator.proofs.laws.numbers_read_back.Goals as goal

pub returns : goal.returns
returns c = read_back
