-- a log of calls, one answer after another
use Rattle.std.proofs.Common.{◌≡◌, ℕ, ◌+◌, ◌<◌, ◌≤◌, [], ◌∷◌, ◌++◌, length, get_or, take, drop, set, sym, ap, ◌∙◌, append_assoc, arith, Result}
use Rattle.monitor.specs.Content.{Content, after, answer, banked, call_after, call_answer}
use Rattle.monitor.specs.Theorem.{Log, calls, log, ran}
use Rattle.monitor.specs.declared.answer.Denial.{Denial}
use Rattle.monitor.specs.declared.call.Call.{Call}
use Rattle.std.proofs.lemmas.List.{at_drop_all, at_drop_more, drop-drop, drop-set-lt, get_or-drop, take-append-drop, take_more_set}

module _ (es os : Log) (i : ℕ) (d : Call × Result ℕ Denial) (m : Content) (rest : drop i os ≡ drop i es) where
  same : get_or os i d ≡ get_or es i d
  same =
      let e : i + 0 ≡ i = omega arith in
      ap (λ k. get_or os k d) (sym e) ∙ sym (get_or-drop i os 0 d) ∙ ap (λ l. get_or l 0 d) rest ∙ get_or-drop i es 0 d ∙ ap (λ k. get_or es k d) e

  -- one call more
  module _ (n : Content) (a : Result ℕ Denial) (h : i < length es) (long : i < length os) (said : a ≡ call_answer m (get_or os i d).0) (left : n ≡ call_after m (get_or os i d).0) where
    call : Call
    call = (get_or es i d).0

    said_is : a ≡ answer m (get_or es i d).0
    unfolding answer
    said_is = said ∙ ap (λ (s : Call × Result ℕ Denial). call_answer m s.0) same

    left_is : n ≡ after m (get_or es i d).0
    unfolding after
    left_is = left ∙ ap (λ (s : Call × Result ℕ Denial). call_after m s.0) same

    pub ran_more : ran banked n (calls (drop (i + 1) es)) ≡ ran banked m (calls (drop i es))
    ran_more =
        ap (λ k. ran banked k (calls (drop (i + 1) es))) left_is ∙ sym (at_drop_more (λ l. ran banked m (calls l)) es i d h)

    log_step : log banked m (calls (drop i es)) ≡ ((get_or os i d).0, a) ∷ log banked n (calls (drop (i + 1) es))
    log_step =
        at_drop_more (λ l. log banked m (calls l)) es i d h
        ∙ ap (λ x. ((get_or es i d).0, x) ∷ log banked (after m (get_or es i d).0) (calls (drop (i + 1) es))) (sym said_is)
        ∙ ap (λ k. ((get_or es i d).0, a) ∷ log banked k (calls (drop (i + 1) es))) (sym left_is)
        ∙ ap (λ (s : Call × Result ℕ Denial). (s.0, a) ∷ log banked n (calls (drop (i + 1) es))) (sym same)

    pub log_more : take (i + 1) (set os i ((get_or os i d).0, a)) ++ log banked n (calls (drop (i + 1) es)) ≡ take i os ++ log banked m (calls (drop i es))
    log_more =
        ap (λ z. z ++ log banked n (calls (drop (i + 1) es))) (take_more_set os i ((get_or os i d).0, a) long)
        ∙ append_assoc (take i os) (((get_or os i d).0, a) ∷ []) (log banked n (calls (drop (i + 1) es)))
        ∙ ap (λ z. take i os ++ z) (sym log_step)

  pub rest_more : (x : Call × Result ℕ Denial) → drop (i + 1) (set os i x) ≡ drop (i + 1) es
  rest_more x = drop-set-lt (i + 1) os i x (omega arith) ∙ sym (drop-drop 1 i os) ∙ ap (drop 1) rest ∙ drop-drop 1 i es

-- all of them
pub ran_all : (es : Log) (i : ℕ) (m : Content) → length es ≤ i → ran banked m (calls (drop i es)) ≡ m
ran_all es i m h = at_drop_all (λ l. ran banked m (calls l)) es i h

pub log_all : (es os : Log) (i : ℕ) (m : Content) → length es ≤ i → length os ≤ i → take i os ++ log banked m (calls (drop i es)) ≡ os
log_all es os i m h k =
    let none : log banked m (calls (drop i es)) ≡ [] = at_drop_all (λ l. log banked m (calls l)) es i h in
    let gone : drop i os ≡ [] = at_drop_all (λ (l : Log). l) os i k in
    ap (λ z. take i os ++ z) (none ∙ sym gone) ∙ take-append-drop i os
