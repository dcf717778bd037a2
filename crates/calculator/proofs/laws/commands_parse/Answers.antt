-- every command can be written
use Rattle.calculator.proofs.Spelling.{commands_parse}
use Rattle.calculator.proofs.laws.commands_parse.Goals as goal

pub returns : goal.returns
returns c = commands_parse
