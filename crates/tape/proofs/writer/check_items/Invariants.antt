use Rattle.tape.proofs.writer.check_items.Given as goal
use Rattle.tape.specs.Refusal.{verdict}
use Rattle.tape.specs.Writer.{writing}
use Rattle.std.proofs.Common.{◌≡◌, drop}

abbrev pub invariant-loop-index : goal.invariant-loop-index
invariant-loop-index l = verdict (writing 0 l.items) ≡ verdict (writing l.index-counter (drop l.index-counter l.items))
