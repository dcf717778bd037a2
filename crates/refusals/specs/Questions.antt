-- questions put in order: each has its answer, yes or no, and the refusal that a "no" gives
use Rattle.std.specs.Prelude.{Bool, cond, List, [], ◌∷◌, Ok, Err, Result}
use Rattle.refusals.specs.declared.Refusal.{Refusal}

-- what the questions come to: the first that is answered no refuses
abbrev pub ruling : List (Bool × Refusal) → Result (Unit {0}) Refusal
ruling [] = Ok tt
ruling (q ∷ qs) = cond q.0 (ruling qs) (Err q.1)

-- what follows from a ruling
abbrev pub ruled : {X : Type 0} → Result (Unit {0}) Refusal → X → (Refusal → X) → X
ruled (Ok _) accepted refused = accepted
ruled (Err e) accepted refused = refused e
