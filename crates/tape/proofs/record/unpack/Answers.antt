use Rattle.std.proofs.Common.{◌≡◌, ◌^◌, ◌<◌, length, take, drop, ap, ◌∙◌, arith}
use Rattle.std.proofs.lemmas.List.{take_rest, length-take, length-drop}
use Rattle.tape.proofs.Packing.{drawn, number_parts}
use Rattle.tape.proofs.record.unpack.Goals as goal
use Rattle.tape.specs.Record.{split}

pub returns : goal.returns
returns c =
    let bytes = c.args.bytes.now in
    let seven : length (take 7 (drop 1 bytes)) ≡ 7 = simp (length-take, length-drop) (omega arith) in
    let small : c.big_endian-high.result < 2 ^ 56 = rw seven at (simp take_rest at c.big_endian-high.ensures.bound) in
    let high = simp take_rest at c.big_endian-high.ensures.value in
    let low = simp take_rest at c.big_endian-value.ensures.value in
    drawn c.from-first.result c.big_endian-high.result c.big_endian-value.result (omega (arith, c.type_inv.bytes 0)) small c.big_endian-value.type_inv
    ∙ ap split (omega (arith, high, low, number_parts bytes c.requires))
