use Rattle.std.proofs.Common.{sym, ◌∙◌, ap}
use Rattle.monitor.specs.Content.{slot_of}
use Rattle.monitor.specs.Roll.{apart_below}
use Rattle.machine.proofs.Spaced.{apart_below-all}
use Rattle.machine.proofs.slots.Slots.apart.Goals as goal

pub returns : goal.returns
returns c =
    let r = c.args.range in
    c.all_apart.ensures ∙ sym (apart_below-all c.self.inside.list r.0 r.1 15) ∙ ap (λ l. apart_below (slot_of l) r.0 r.1 15) c.self.view_is
