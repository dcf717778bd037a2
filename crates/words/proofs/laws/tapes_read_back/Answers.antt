-- the text of a tape, read
use Rattle.words.proofs.Whole.{tapes_read_back}
use Rattle.words.proofs.laws.tapes_read_back.Goals as goal

pub returns : goal.returns
returns c = tapes_read_back
