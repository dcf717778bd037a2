-- a line that is refused, and one more line
use Rattle.std.proofs.Common.{◌≡◌, ◌+◌, vec_items, rules}
use Rattle.std.proofs.lemmas.Result.{err_from_is_err_and}
use Rattle.words.proofs.Following.{line_fault, line_more}
use Rattle.words.proofs.tapes.records.Goals as goal

pub returns-in_err-push_record : goal.returns-in_err-push_record
returns-in_err-push_record c =
    let p = err_from_is_err_and c.from_residual.result c.from_residual.ensures.1 in
    let l = c.loop-index in
    rw (p.1, p.2) (line_fault _ (vec_items l.tape) (l.index-iterator.count + 1) l.index-iterator.iter l.invariant.2
    c.in-Some.line.now c.next.new.self.iter (search rules) _ (search rules))

pub loop-index-preserved : goal.loop-index-preserved
loop-index-preserved c =
    let l = c.loop-index in
    let count : c.next.new.self.count ≡ l.index-iterator.count + 1 = search rules in (
      search rules,
      tt,
      rw count (line_more _ (vec_items l.tape) (l.index-iterator.count + 1) l.index-iterator.iter l.invariant.2
          c.in-Some.line.now c.next.new.self.iter (search rules) (vec_items c.push_record.new.tape) (search rules)),
    )
