use Rattle.std.proofs.Common.{◌≡◌, ◌+◌, ◌-◌, ◌*◌, ◌/◌}
use Rattle.monitor.specs.Content.{wiped}
use Rattle.machine.proofs.bytes.wipe.Given as goal

abbrev pub invariant-loop-i : goal.invariant-loop-i
invariant-loop-i g l =
    (wiped l.bank (g.M.Memory.bytes l.memory) (l.first + 8 * l.i) ((l.past - l.first) / 8 - l.i)
    ≡ wiped l.bank (g.M.Memory.bytes l.initial.memory) l.first ((l.past - l.first) / 8))
    × (g.M.Memory.beyond l.memory ≡ g.M.Memory.beyond l.initial.memory)
