use Rattle.std.proofs.Common.{◌+◌, arith}
use Rattle.std.proofs.lemmas.Nat.{one_shl}
use Rattle.bank.proofs.Ones.{ones_few, ones_fit, ones_is}
use Rattle.bank.proofs.ranges.napot.Goals as goal

pub overflow_sub-first : goal.overflow_sub-first
overflow_sub-first c =
    let n = c.trailing_ones-n.result in
    let few = ones_few c.args.word n (omega arith) c.trailing_ones-n.ensures in
    omega (arith, ones_fit c.args.word n (omega arith) c.trailing_ones-n.ensures, one_shl n 64 (omega arith))

pub returns-clause-answer : goal.returns-clause-answer
returns-clause-answer c =
    let n = c.trailing_ones-n.result in
    let few = ones_few c.args.word n (omega arith) c.trailing_ones-n.ensures in
    simp (c.min.ensures, one_shl n 64 (omega arith), one_shl (n + 3) 64 (omega arith))
    (simp (ones_is c.args.word n (omega arith) c.trailing_ones-n.ensures))
