-- what is printed of an answer
use Rattle.std.specs.Prelude.{ℕ, List, ◌∷◌, ◌++◌, Some, None, Ok, Err, codes, decimal, Option, Result}
use Rattle.bank.specs.declared.verdict.Verdict.{Verdict}
use Rattle.bank.specs.declared.verdict.Verdict.TheVariants.{Allowed, Fault}
use Rattle.tokens.specs.Digits.{hex_text}
use Rattle.calculator.specs.declared.answer.Answer.{Answer}
use Rattle.calculator.specs.declared.answer.Answer.TheVariants.{Word, Verdict as VerdictIs, Range, Done}
use Rattle.refusals.specs.Numbers.{refusal_number}
use Rattle.refusals.specs.declared.Refusal.{Refusal}

-- the entry that decides on an access, if one does
abbrev pub decider_text : Option ℕ → List ℕ
decider_text (Some i) = decimal i
decider_text None = codes "none"

abbrev pub verdict_text : Verdict → List ℕ
verdict_text (Allowed d) = codes "allow " ++ decider_text d
verdict_text (Fault d cause) = codes "fault " ++ (decimal cause ++ (32 ∷ decider_text d))

abbrev pub range_text : Option (ℕ × ℕ) → List ℕ
range_text (Some r) = hex_text 9 r.0 ++ (32 ∷ hex_text 9 r.1)
range_text None = codes "none"

-- the text of an accepted call, or r and the number of the refusal
abbrev pub result_text : {X : Type 0} → (X → List ℕ) → Result X Refusal → List ℕ
result_text text (Ok x) = text x
result_text text (Err e) = 114 ∷ decimal (refusal_number e)

abbrev pub answer_text : Answer → List ℕ
answer_text (Word r) = result_text (λ w. codes "ok " ++ hex_text 8 w) r
answer_text (VerdictIs r) = result_text verdict_text r
answer_text (Range r) = range_text r
answer_text Done = codes "ok"
