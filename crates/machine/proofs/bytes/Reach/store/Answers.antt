use Rattle.std.proofs.Common.{take, ap, ◌∙◌}
use lib.Seq.{sets}
use Rattle.monitor.specs.Bytes.{low_bytes}
use Rattle.std.proofs.lemmas.List.{take_all}
use Rattle.machine.proofs.Stores.{sets_more, take_eight}
use Rattle.machine.proofs.bytes.Reach.store.Goals as goal

pub loop-i-preserved : goal.loop-i-preserved
loop-i-preserved g c =
    let i = c.loop-i.i in
    let bs = take c.self.inside.size c.to_le_bytes-bytes.result in
    let more = sets_more (g.M.Memory.bytes c.args.memory.now) c.self.inside.address bs i c.loop-i-test.true in
    let one = c.write.ensures.after in
    let inv = c.loop-i.invariant.0 in
    let kept = c.write.ensures.beyond in
    let was = c.loop-i.invariant.1 in
    (cc, cc)

pub returns-clause-after : goal.returns-clause-after
returns-clause-after g c =
    let bs = take c.self.inside.size c.to_le_bytes-bytes.result in
    c.loop-i.invariant.0
    ∙ ap (sets (g.M.Memory.bytes c.args.memory.now) c.self.inside.address)
    (take_all c.loop-i.i bs c.loop-i-test.false ∙ ap (take c.self.inside.size) c.to_le_bytes-bytes.ensures
    ∙ take_eight c.self.inside.size c.args.value c.self.invariant.0)
    ∙ ap (λ r. sets (g.M.Memory.bytes c.args.memory.now) r.0 (low_bytes r.1 c.args.value)) c.self.view_is

pub returns-clause-beyond : goal.returns-clause-beyond
returns-clause-beyond g c = c.loop-i.invariant.1
