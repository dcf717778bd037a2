-- the lines of a text are its first line and those after it
use Rattle.std.proofs.Common.{◌<◌, length, refl, ap, ◌∙◌, rules}
use Rattle.tokens.proofs.Firsts.{first_line}
use Rattle.tokens.proofs.lines.first_line.Goals as goal
use Rattle.tokens.specs.Lines.{without_return}

pub returns-clause-cases : goal.returns-clause-cases
returns-clause-cases c =
    let some : 0 < length c.args.text.now = search rules in
    first_line c.args.text.now c.without_return.result.now c.cut.result.1 _ c.unwrap_or.result some
    (c.without_return.ensures ∙ ap without_return c.cut.ensures.front) c.cut.ensures.rest refl c.unwrap_or.ensures
