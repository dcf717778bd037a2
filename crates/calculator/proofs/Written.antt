-- a read after a write
use Rattle.std.proofs.Common.{◌≡◌, ℕ, List, Ok, Err, Result, refl}
use Rattle.bank.specs.Registers.{holds, number_questions, privilege_questions, put}
use Rattle.bank.specs.declared.entry.Entry.{Entry}
use Rattle.calculator.specs.Laws.{WritesReadBack}
use Rattle.calculator.specs.declared.answer.Answer.{Answer}
use Rattle.calculator.specs.declared.answer.Answer.TheVariants.{Word}
use Rattle.refusals.specs.Questions.{ruled, ruling}
use Rattle.refusals.specs.declared.Refusal.{Refusal}

-- whatever the two rulings are
by_rulings : (l m : List Entry) (n : ℕ) (a b : Result (Unit {0}) Refusal)
    → ◌≡◌ {A = Answer} (Word (ruled a (ruled b (Ok (holds (ruled a (ruled b m (λ _. l)) (λ _. l)) n)) Err) Err)) (Word (ruled a (ruled b (Ok (holds m n)) Err) Err))
by_rulings l m n (Ok x) (Ok y) = refl
by_rulings l m n (Ok x) (Err e) = refl
by_rulings l m n (Err e) b = refl

pub writes_read_back : WritesReadBack
writes_read_back l p n w = by_rulings l (put l n w) n (ruling (privilege_questions p)) (ruling (number_questions n))
