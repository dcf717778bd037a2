-- what is left to read gives the number of the whole
use Rattle.std.proofs.Common.{◌≡◌, ◌^◌, ◌<◌, drop}
use Rattle.calculator.proofs.numbers.read.Given as goal
use Rattle.calculator.specs.Numbers.{digits_value}

abbrev pub invariant-loop-byte : goal.invariant-loop-byte
invariant-loop-byte l = (l.n < 16 ^ l.byte-index) × (digits_value l.n (drop l.byte-index l.digits) ≡ digits_value 0 l.digits)
