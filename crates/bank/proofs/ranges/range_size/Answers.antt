use Rattle.std.proofs.Common.{◌-◌, arith, pow_pos}
use Rattle.std.proofs.lemmas.Nat.{one_shl}
use Rattle.bank.proofs.Words.{size_few, size_steps}
use Rattle.bank.proofs.ranges.range_size.Goals as goal

pub returns-clause-eighth : goal.returns-clause-eighth
returns-clause-eighth c =
    omega (arith, one_shl c.args.exponent 64 (omega arith), size_steps c.args.exponent c.requires.0 c.requires.1)

pub returns-clause-within : goal.returns-clause-within
returns-clause-within c =
    let shl = one_shl c.args.exponent 64 (omega arith) in
    let few = size_few c.args.exponent c.requires.0 c.requires.1 in
    let steps = size_steps c.args.exponent c.requires.0 c.requires.1 in
    let some = pow_pos (c.args.exponent - 3) in
    (omega arith, omega arith)
