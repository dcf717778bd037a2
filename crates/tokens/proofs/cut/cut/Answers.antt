-- where the byte is found, and where it is not
use Rattle.std.proofs.Common.{◌+◌, Some, ap, sym, ◌∙◌}
use Rattle.std.proofs.lemmas.List.{take_rest}
use Rattle.tokens.proofs.Cuts.{cut_none, cut_some}
use Rattle.tokens.proofs.cut.cut.Goals as goal

pub returns-in-Some-clause-front : goal.returns-in-Some-clause-front
returns-in-Some-clause-front c = (cut_some c.args.byte c.args.text.now c.in-Some.i (sym c.in-Some.is ∙ c.place.ensures)).0

pub returns-in-Some-clause-rest : goal.returns-in-Some-clause-rest
returns-in-Some-clause-rest c = ap Some (take_rest c.args.text.now (c.in-Some.i + 1)) ∙ (cut_some c.args.byte c.args.text.now c.in-Some.i (sym c.in-Some.is ∙ c.place.ensures)).1

pub returns-in-None-clause-front : goal.returns-in-None-clause-front
returns-in-None-clause-front c = (cut_none c.args.byte c.args.text.now (sym c.in-None.is ∙ c.place.ensures)).0

pub returns-in-None-clause-rest : goal.returns-in-None-clause-rest
returns-in-None-clause-rest c = (cut_none c.args.byte c.args.text.now (sym c.in-None.is ∙ c.place.ensures)).1
