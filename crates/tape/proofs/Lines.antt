-- the lines of a log, and the log of items, one after another
use Rattle.std.proofs.Common.{◌≡◌, ℕ, ◌+◌, ◌<◌, List, [], ◌∷◌, ◌++◌, length, get_or, take, Ok, Err, sym, ap, ◌∙◌, Result}
use Rattle.monitor.specs.Theorem.{Log, calls}
use Rattle.monitor.specs.declared.answer.Denial.{Denial}
use Rattle.monitor.specs.declared.call.Call.{Call}
use Rattle.refusals.specs.declared.Refusal.{Refusal}
use Rattle.std.proofs.lemmas.List.{append-nil, flat_map_more, map_push, take_more}
use Rattle.tape.specs.Calls.{call_of, calls_of, one_call}
use Rattle.tape.specs.declared.item.Item.{Item}

-- one item more
calls_more : (items : List Item) (i : ℕ) (d : Item) → i < length items
    → calls_of (take (i + 1) items) ≡ calls_of (take i items) ++ one_call (call_of (get_or items i d))
calls_more items i d h =
    ap calls_of (take_more items i d h) ∙ sym (flat_map_more (λ x. one_call (call_of x)) [] (take i items) (get_or items i d))

pub call_pushed : (log new : Log) (items : List Item) (i : ℕ) (d : Item) (c : Call) (a : Result ℕ Denial) → i < length items
    → calls log ≡ calls_of (take i items) → Ok c ≡ call_of (get_or items i d) → new ≡ log ++ ((c, a) ∷ [])
    → calls new ≡ calls_of (take (i + 1) items)
call_pushed log new items i d c a h inv told put =
    ap calls put
    ∙ map_push (λ (s : Call × Result ℕ Denial). s.0) log (c, a)
    ∙ ap (λ l. l ++ (c ∷ [])) inv
    ∙ ap (λ r. calls_of (take i items) ++ one_call r) told
    ∙ sym (calls_more items i d h)

pub call_refused : (log : Log) (items : List Item) (i : ℕ) (d : Item) (e : Refusal) → i < length items
    → calls log ≡ calls_of (take i items) → Err e ≡ call_of (get_or items i d) → calls log ≡ calls_of (take (i + 1) items)
call_refused log items i d e h inv told =
    inv ∙ sym (append-nil (calls_of (take i items))) ∙ ap (λ r. calls_of (take i items) ++ one_call r) told ∙ sym (calls_more items i d h)
