use Rattle.std.proofs.Common.{◌≡◌, ◌*◌, take, drop}
use Rattle.tape.proofs.writer.put_records.Given as goal
use Rattle.tape.specs.Refusal.{prepend}
use Rattle.tape.specs.Writer.{writing}

abbrev pub invariant-loop-i : goal.invariant-loop-i
invariant-loop-i l = (writing 0 l.items ≡ prepend (take (16 * l.i) l.tape) (writing l.i (drop l.i l.items)))
    × (drop (16 * l.i) l.tape ≡ drop (16 * l.i) l.initial.tape)
