use Rattle.std.proofs.Common.{◌≡◌, drop}
use Rattle.tape.proofs.reader.check_records.Given as goal
use Rattle.tape.specs.Reader.{decoding}
use Rattle.tape.specs.Refusal.{verdict}

abbrev pub invariant-loop-index : goal.invariant-loop-index
invariant-loop-index l = verdict (decoding 0 l.records) ≡ verdict (decoding l.index-counter (drop l.index-counter l.records))
