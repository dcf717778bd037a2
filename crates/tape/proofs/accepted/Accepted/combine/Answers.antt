use Rattle.tape.proofs.Packing.{all_joined}
use Rattle.tape.proofs.accepted.Accepted.combine.Goals as goal
use Rattle.std.proofs.Common.{◌∙◌, arith}

pub returns : goal.returns
returns c =
    all_joined c.from.result c.from-2.result c.from-3.result c.from-4.result c.from-5.result
    (omega arith) (omega arith) (omega arith) (omega arith) (omega arith)
    ∙ omega arith
