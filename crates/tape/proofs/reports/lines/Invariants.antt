use Rattle.std.proofs.Common.{◌≡◌, ◌++◌, drop, string_bytes}
use Rattle.tape.proofs.reports.lines.Given as goal
use Rattle.tape.specs.Reports.{lines_from}

abbrev pub invariant-loop-i : goal.invariant-loop-i
invariant-loop-i l = string_bytes l.text ++ lines_from l.i (drop l.i l.log) ≡ lines_from 0 l.log
