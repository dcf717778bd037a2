-- the number fits
use Rattle.calculator.proofs.Reading.{room}
use Rattle.calculator.proofs.numbers.read.Goals as goal
use Rattle.std.proofs.Common.{arith}

pub overflow_mul-n : goal.overflow_mul-n
overflow_mul-n c = omega (arith, room c.loop-byte.n c.loop-byte.byte-index c.loop-byte.invariant.0 (omega arith))

pub overflow_add-n : goal.overflow_add-n
overflow_add-n c = omega (arith, room c.loop-byte.n c.loop-byte.byte-index c.loop-byte.invariant.0 (omega arith), c.in_ok-n.ensures.below)
