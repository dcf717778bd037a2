-- what is left to read gives the number of the whole
use Rattle.words.proofs.numbers.read.Given as goal
use Rattle.words.specs.Numbers.{digits_value}
use Rattle.std.proofs.Common.{◌≡◌, drop}

abbrev pub invariant-loop-byte : goal.invariant-loop-byte
invariant-loop-byte l = digits_value l.base l.n (drop l.byte-index l.digits) ≡ digits_value l.base 0 l.digits
