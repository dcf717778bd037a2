use Rattle.std.proofs.Common.{◌≡◌, ◌-◌, ◌++◌, replicate}
use Rattle.machine.proofs.Stores.{part}
use Rattle.machine.proofs.bytes.Reach.load.Given as goal

abbrev pub invariant-loop-i : goal.invariant-loop-i
invariant-loop-i g l =
    l.byte-items ≡ part (g.M.Memory.bytes l.memory) l.self-inside.address l.i ++ replicate (l.self-inside.size - l.i) 0
