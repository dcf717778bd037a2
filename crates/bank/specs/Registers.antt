-- reads and writes of the registers: their questions, their answers and what they leave
use Rattle.std.specs.Prelude.{ℕ, ◌-◌, ◌*◌, Bool, true, cond, List, [], ◌∷◌, Ok, Err, Result, ◌==◌, nat_le}
use Rattle.bank.specs.Content.{between, entry_of, four_bytes, put_four, put_word}
use Rattle.bank.specs.declared.entry.Entry.{Entry}
use Rattle.refusals.specs.Questions.{ruled, ruling}
use Rattle.refusals.specs.declared.Refusal.{Refusal}
use Rattle.refusals.specs.declared.Refusal.TheVariants.{Privilege, NotMachine, NoRegister}

-- privilege 0 (user), 1 (supervisor) or 3 (machine)
abbrev pub is_privilege : ℕ → Bool
is_privilege p = cond (nat_le p 1) true (p == 3)

-- the registers of four configuration bytes, and those of one word
abbrev pub is_bytes_register : ℕ → Bool
is_bytes_register n = between 0x3A0 n 0x3A3

abbrev pub is_word_register : ℕ → Bool
is_word_register n = between 0x3B0 n 0x3BF

abbrev pub is_register : ℕ → Bool
is_register n = cond (is_bytes_register n) true (is_word_register n)

-- a read or a write at privilege p of register n: first the privilege is asked about, then the number
abbrev pub privilege_questions : ℕ → List (Bool × Refusal)
privilege_questions p = (is_privilege p, Privilege) ∷ ((p == 3), NotMachine) ∷ []

abbrev pub number_questions : ℕ → List (Bool × Refusal)
number_questions n = (is_register n, NoRegister) ∷ []

abbrev pub registers_asked : {X : Type 0} → ℕ → ℕ → X → (Refusal → X) → X
registers_asked p n accepted refused =
    ruled (ruling (privilege_questions p)) (ruled (ruling (number_questions n)) accepted refused) refused

-- what register n holds
abbrev pub holds : List Entry → ℕ → ℕ
holds l n = cond (is_bytes_register n) (four_bytes l (4 * (n - 0x3A0))) (entry_of l (n - 0x3B0)).word

-- the entries after a write of w to register n
abbrev pub put : List Entry → ℕ → ℕ → List Entry
put l n w = cond (is_bytes_register n) (put_four l (4 * (n - 0x3A0)) w) (put_word l (n - 0x3B0) w)

abbrev pub read_answer : List Entry → ℕ → ℕ → Result ℕ Refusal
read_answer l p n = registers_asked p n (Ok (holds l n)) Err

abbrev pub written : List Entry → ℕ → ℕ → ℕ → List Entry
written l p n w = registers_asked p n (put l n w) (λ _. l)

-- a write answers what the register holds afterwards
abbrev pub write_answer : List Entry → ℕ → ℕ → ℕ → Result ℕ Refusal
write_answer l p n w = registers_asked p n (Ok (holds (put l n w) n)) Err
