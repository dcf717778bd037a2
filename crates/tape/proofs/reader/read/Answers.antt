-- a tape of whole records that there are places for
use Rattle.std.proofs.Common.{◌≡◌, ◌%◌, length, ap, sym, ◌∙◌, arith}
use Rattle.std.proofs.lemmas.Result.{err_from_is_err_and}
use Rattle.tape.proofs.Parts.{each_measured, got_front, refused}
use Rattle.tape.proofs.Reading.{read_records}
use Rattle.tape.proofs.reader.read.Goals as goal
use Rattle.tape.specs.Reader.{decoding}
use Rattle.tape.specs.Record.{decoded}
use Rattle.tape.specs.Refusal.{measured, placed}

pub returns-in_err-check_records-clause-answer : goal.returns-in_err-check_records-clause-answer
returns-in_err-check_records-clause-answer c =
    let whole : length c.args.tape.now % 16 ≡ 0 = omega (arith, c.in-Some.ensures.whole) in
    let same = read_records c.args.tape.now (length c.args.items.now) c.as_chunks.result.0.now c.as_chunks.ensures.front whole (omega (arith, c.in-Some.ensures.whole, c.as_chunks.ensures.front_len)) in
    let told = refused (decoding 0 c.as_chunks.result.0.now) c.in_err-check_records.field-0.0 c.in_err-check_records.ensures in
    let p = err_from_is_err_and c.from_residual.result c.from_residual.ensures.1 in
    rw (p.1, p.2, same, told)

pub returns-in_err-check_records-clause-after : goal.returns-in_err-check_records-clause-after
returns-in_err-check_records-clause-after c =
    let whole : length c.args.tape.now % 16 ≡ 0 = omega (arith, c.in-Some.ensures.whole) in
    let same = read_records c.args.tape.now (length c.args.items.now) c.as_chunks.result.0.now c.as_chunks.ensures.front whole (omega (arith, c.in-Some.ensures.whole, c.as_chunks.ensures.front_len)) in
    let told = refused (decoding 0 c.as_chunks.result.0.now) c.in_err-check_records.field-0.0 c.in_err-check_records.ensures in
    rw (same, told)

pub returns : goal.returns
returns c =
    let whole : length c.args.tape.now % 16 ≡ 0 = omega (arith, c.in-Some.ensures.whole) in
    let same = read_records c.args.tape.now (length c.args.items.now) c.as_chunks.result.0.now c.as_chunks.ensures.front whole (omega (arith, c.in-Some.ensures.whole, c.as_chunks.ensures.front_len)) in
    let count = each_measured decoded 0 c.as_chunks.result.0.now c.in_ok-check_records.ensures in
    let n : c.in-Some.count ≡ length c.as_chunks.result.0.now = omega (arith, c.in-Some.ensures.whole, c.as_chunks.ensures.front_len) in
    record {
      answer = rw n (count ∙ ap measured (sym same));
      after = c.put_items.ensures ∙ ap (λ r. placed r c.args.items.now) (sym same);
      bound = omega arith;
      got = rw n (same ∙ got_front (decoding 0 c.as_chunks.result.0.now) c.args.items.now c.put_items.new.items (length c.as_chunks.result.0.now) count c.put_items.ensures);
      one = c.one_tape.ensures;
    }
