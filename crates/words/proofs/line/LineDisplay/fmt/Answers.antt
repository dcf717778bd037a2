-- numbers as std writes them
use Rattle.std.proofs.Common.{◌≡◌, ◌^◌, ◌<◌, rules}
use Rattle.words.proofs.Spelling.{hex_digits}
use Rattle.words.proofs.line.LineDisplay.fmt.Goals as goal

pub returns-in-Ok-Create-clause-writes : goal.returns-in-Ok-Create-clause-writes
returns-in-Ok-Create-clause-writes g c =
    let fits : c.args.self.now.0.address < 2 ^ 64 = search rules in
    let is : c.args.self.now.0.operation ≡ 1 = search rules in
    rw (is, hex_digits c.args.self.now.0.address fits) (rw c.in_radix.ensures at c.write.ensures.writes)

pub returns-in-Ok-Register-clause-writes : goal.returns-in-Ok-Register-clause-writes
returns-in-Ok-Register-clause-writes g c =
    let fits : c.args.self.now.0.address < 2 ^ 64 = search rules in
    let room : c.args.self.now.0.value < 2 ^ 64 = search rules in
    rw (hex_digits c.args.self.now.0.address fits, hex_digits c.args.self.now.0.value room) (search rules)
