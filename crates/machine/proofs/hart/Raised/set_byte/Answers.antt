use Rattle.std.proofs.Common.{ap, ◌∙◌}
use Rattle.bank.specs.Privilege.{privilege_number}
use Rattle.monitor.specs.Content.{configure}
use Rattle.machine.proofs.Ports.{configured}
use Rattle.machine.proofs.hart.Raised.set_byte.Goals as goal

pub returns-in-Ok : goal.returns-in-Ok
returns-in-Ok c =
    configured c.args.bank.now c.into.result c.entry.inside.number c.args.byte (c.into.ensures ∙ ap privilege_number c.requires) c.entry.invariant c.in-Ok.word _ _ _
    c.in-Ok.ensures c.to_le_bytes-bytes.ensures c.from_le_bytes.ensures c.write.ensures
    ∙ ap (λ s. configure c.args.bank.now s c.args.byte) c.entry.view_is
