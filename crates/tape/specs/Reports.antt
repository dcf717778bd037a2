-- a report: the whole text that is printed of a tape's run, and what the run leaves
use Rattle.std.specs.Prelude.{◌≡◌, ℕ, ◌+◌, ◌/◌, cond, ◌⊎◌, List, [], ◌∷◌, ◌++◌, length, Ok, Err, codes, decimal, Result, nat_lt}
use Rattle.monitor.specs.Content.{Content, banked}
use Rattle.monitor.specs.Theorem.{Log, log, ran}
use Rattle.refusals.specs.Numbers.{refusal_number}
use Rattle.refusals.specs.declared.Refusal.TheVariants.{NoPlace}
use Rattle.tape.specs.Calls.{calls_of}
use Rattle.tape.specs.Line.{line_text}
use Rattle.tape.specs.Reader.{read_tape}
use Rattle.tape.specs.Refusal.{refused_at}
use Rattle.tape.specs.declared.item.Item.{Item}
use Rattle.tape.specs.declared.refusal.TapeRefusal.{TapeRefusal}

-- the longest tape, in bytes, and the most items that a tape has
abbrev pub limit : ℕ
limit = 65536

abbrev pub most : ℕ
most = limit / 16

-- the items of a tape that is not too long
abbrev pub short_tape : List ℕ → Result (List Item) TapeRefusal
short_tape bytes = cond (nat_lt limit (length bytes)) (Err (refused_at NoPlace most)) (read_tape bytes most)

-- a line for each answer, the first of index i
abbrev pub lines_from : ℕ → Log → List ℕ
lines_from i [] = []
lines_from i (s ∷ l) = line_text i s.1 ++ lines_from (i + 1) l

-- the refusal's number and its index
abbrev pub refusal_text : TapeRefusal → List ℕ
refusal_text e = codes "tape " ++ (decimal (refusal_number e.refusal) ++ (32 ∷ (decimal e.index ++ (10 ∷ []))))

abbrev pub run_text : Content → Result (List Item) TapeRefusal → List ℕ
run_text m (Ok items) = lines_from 0 (log banked m (calls_of items))
run_text m (Err e) = refusal_text e

abbrev pub run_after : Content → Result (List Item) TapeRefusal → Content
run_after m (Ok items) = ran banked m (calls_of items)
run_after m (Err e) = m

abbrev pub report_text : Content → List ℕ → List ℕ
report_text m tape = run_text m (short_tape tape)

abbrev pub report_after : Content → List ℕ → Content
report_after m tape = run_after m (short_tape tape)

-- what is left of a machine: what the run leaves, or, where memory was wanting, that or what there was before
abbrev pub Left : {X Y : Type 0} → Result X Y → Content → Content → Content → Type 0
Left (Ok x) before after left = left ≡ after
Left (Err y) before after left = (left ≡ before) ⊎ (left ≡ after)
