-- laws of questions that are put in order
use Rattle.std.proofs.Common.{◌≡◌, ℕ, Bool, List, [], ◌∷◌, ◌++◌, Err, inl, inr, arith}
use Rattle.std.proofs.lemmas.Bool.{cases_Bool}
use Rattle.refusals.specs.Questions.{ruling}
use Rattle.refusals.specs.declared.Refusal.{Refusal}

-- a refusal by the first questions is the refusal, whatever is asked after them
pub refused_first : (qs rs : List (Bool × Refusal)) (e : Refusal) → ruling qs ≡ Err e → ruling (qs ++ rs) ≡ Err e
refused_first [] rs e h = let z : ◌≡◌ {A = ℕ} 0 1 = cc in absurd (omega arith)
refused_first (q ∷ qs) rs e h =
    elim (cases_Bool q.0) [
      | inl t ↦ rw t (refused_first qs rs e (rw t at h))
      | inr f ↦ let g = rw f at h in rw f g
    ]
