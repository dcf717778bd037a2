-- an item's line, read
use Rattle.words.proofs.Back.{items_read_back}
use Rattle.words.proofs.laws.items_read_back.Goals as goal

pub returns : goal.returns
returns c = items_read_back
