use Rattle.std.proofs.Common.{◌≡◌, ◌∙◌, ap, rules, length}
use Rattle.bank.specs.Content.{count}
use Rattle.bank.specs.Verdicts.{deciding}
use Rattle.bank.proofs.Lowest.{deciding_kept}
use Rattle.bank.proofs.bank.Bank.decider.Goals as goal

pub returns-clause-answer : goal.returns-clause-answer
returns-clause-answer c =
    let long : length c.self.inside.ranges ≡ count = search rules in
    c.first_met.ensures.at ∙ deciding_kept c.self.inside.entries c.args.span c.self.inside.ranges c.self.invariant long
    ∙ ap (λ l. deciding l c.args.span) c.self.view_is
