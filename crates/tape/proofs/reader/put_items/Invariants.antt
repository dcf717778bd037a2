use Rattle.std.proofs.Common.{◌≡◌, take, drop}
use Rattle.tape.proofs.reader.put_items.Given as goal
use Rattle.tape.specs.Reader.{decoding}
use Rattle.tape.specs.Refusal.{prepend}

abbrev pub invariant-loop-i : goal.invariant-loop-i
invariant-loop-i l = (decoding 0 l.records ≡ prepend (take l.i l.items) (decoding l.i (drop l.i l.records))) × (drop l.i l.items ≡ drop l.i l.initial.items)
