use Rattle.std.proofs.Common.{◌≡◌, take}
use lib.Seq.{sets}
use Rattle.machine.proofs.bytes.Reach.store.Given as goal

abbrev pub invariant-loop-i : goal.invariant-loop-i
invariant-loop-i g l =
    (g.M.Memory.bytes l.memory ≡ sets (g.M.Memory.bytes l.initial.memory) l.self-inside.address (take l.i l.byte-items))
    × (g.M.Memory.beyond l.memory ≡ g.M.Memory.beyond l.initial.memory)
