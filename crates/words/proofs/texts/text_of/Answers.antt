-- a tape that is not too long: its items, or its refusal
use Rattle.std.proofs.Common.{◌≡◌, length, take, Ok, vec_len, inr, sym, ap, ◌∙◌, arith, rules}
use Rattle.std.proofs.lemmas.List.{take_at}
use Rattle.std.proofs.lemmas.Result.{err_from_is_err_and}
use Rattle.words.proofs.Following.{read_refused, short}
use Rattle.words.proofs.texts.text_of.Goals as goal
use Rattle.words.specs.Tapes.{items_text, text_or}

pub returns-in_err-count-clause-answer : goal.returns-in_err-count-clause-answer
returns-in_err-count-clause-answer c =
    let all : length c.as_mut_slice.result.now ≡ 4096 = search rules in
    let same = short c.args.tape.now (length c.as_mut_slice.result.now) (omega arith) all in
    let told = read_refused _ c.in_err-count.field-0.0 c.in_err-count.ensures.answer in
    let p = err_from_is_err_and c.from_residual-in_err-count.result c.from_residual-in_err-count.ensures.1 in
    rw (p.1, p.2) (inr (sym same ∙ told))

pub returns-clause-answer : goal.returns-clause-answer
returns-clause-answer c =
    let all : length c.as_mut_slice.result.now ≡ 4096 = search rules in
    let same = short c.args.tape.now (length c.as_mut_slice.result.now) (omega arith) all in
    let long : length c.read.new.items ≡ vec_len c.in_ok-items.items = omega (arith, c.read.auto.items, c.as_mut_slice.ensures.len) in
    let items = c.as_slice.ensures.value ∙ c.truncate.ensures.items ∙ ap (take c.in_ok-count.count) (take_at c.read.new.items _ (vec_len c.in_ok-items.items) long) in
    sym same ∙ ap text_or c.in_ok-count.ensures.got ∙ ap (λ l. Ok (items_text l)) (sym items) ∙ ap Ok (sym c.in_ok-lines.ensures)
