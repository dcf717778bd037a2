-- what a call's questions promise: they are put, and their refusal, or what the call goes on with, is handed on
use Rattle.std.specs.Prelude.{◌≡◌, Ok, Err, Result, MatchResult}
use Rattle.refusals.specs.declared.Refusal.{Refusal}

-- the questions come to this
abbrev pub Asked : {X : Type 0} → Result X Refusal → Result (Unit {0}) Refusal → Type 0
Asked result asked = MatchResult result (λ _. asked ≡ Ok tt) (λ e. asked ≡ Err e)
