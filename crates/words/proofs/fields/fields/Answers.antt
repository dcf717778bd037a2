-- words that are missing, and one field more
use Rattle.std.proofs.Common.{◌<◌, [], length, take, refl, ◌∙◌, rules}
use Rattle.std.proofs.lemmas.List.{length-set}
use Rattle.words.proofs.Labels.{fields_few, fields_more}
use Rattle.words.proofs.fields.fields.Goals as goal

pub returns-in_err-next : goal.returns-in_err-next
returns-in_err-next g c = c.from_residual.ensures ∙ fields_few _ (take c.loop-i.i c.loop-i.numbers) c.args.labels.now c.loop-i.i c.loop-i.words c.loop-i.invariant.3 record { ref_ptr = (0, 0); now = [] } (search rules) c.in_err-next.ensures.steps.0

pub loop-i-preserved : goal.loop-i-preserved
loop-i-preserved g c =
    let fits : c.loop-i.i < length c.loop-i.numbers = search rules in (
      c.loop-i.invariant.0,
      c.loop-i.invariant.1,
      search (rules, length-set),
      fields_more _ (take c.loop-i.i c.loop-i.numbers) c.args.labels.now c.loop-i.i c.loop-i.words c.loop-i.invariant.3 _ (search rules) _ _ c.in_ok-next.ensures.steps _ c.is.ensures (search rules) _ _ c.in_ok-next-2.ensures.steps c.loop-i.numbers c.in_ok-numbers.field-0 refl fits c.in_ok-numbers.ensures,
    )
