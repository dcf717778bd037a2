-- a read after a write
use Rattle.calculator.proofs.Written.{writes_read_back}
use Rattle.calculator.proofs.laws.writes_read_back.Goals as goal

pub returns : goal.returns
returns c = writes_read_back
