use Rattle.std.proofs.Common.{◌≡◌, ◌<◌, length, ap, pow-suc, add-one, arith}
use Rattle.std.proofs.lemmas.Int.Digits.{number_more}
use Rattle.std.proofs.lemmas.List.{take_all}
use Rattle.std.specs.Int.Digits.{number_from_digits}
use Rattle.tape.proofs.Packing.{byte_more}
use Rattle.tape.proofs.record.big_endian.Goals as goal

pub loop-b-preserved : goal.loop-b-preserved
loop-b-preserved c =
    let i = c.loop-b.b-index in
    let within : i < length c.args.bytes.now = omega arith in
    let byte : c.from.result < 256 = omega (arith, c.type_inv.bytes i) in
    let joined = byte_more c.loop-b.n c.from.result i c.loop-b.invariant.1 (omega arith) byte in
    let more = number_more 256 c.args.bytes.now i within in
    (omega (arith, joined, more, c.loop-b.invariant.0), simp add-one (omega (arith, joined, pow-suc 256 i)))

pub returns : goal.returns
returns c =
    let all = take_all c.loop-b.b-index c.args.bytes.now c.loop-b-test.false in
    let same : c.loop-b.b-index ≡ length c.args.bytes.now = omega arith in
    record { value = omega (arith, ap (number_from_digits 256) all); bound = rw same at c.loop-b.invariant.1 }
