-- records one after another, and the lines of items
use Rattle.std.proofs.Common.{◌≡◌, ℕ, ◌+◌, ◌≤◌, ltb, ◌⊎◌, List, ◌∷◌, ◌++◌, length, Ok, Err, Result, sym, refl, ap, ◌∙◌, inl, inr, arith}
use Rattle.std.proofs.lemmas.List.{append_assoc}
use Rattle.std.proofs.lemmas.Bool.{cond-false, le-ltb}
use Rattle.tape.specs.Reader.{read_tape}
use Rattle.tape.specs.Refusal.{measured}
use Rattle.tape.specs.declared.item.Item.{Item}
use Rattle.tape.specs.declared.refusal.TapeRefusal.{TapeRefusal}
use Rattle.words.specs.Tapes.{followed, front, line_record, lines_records, tape_text, text_or}
use Rattle.words.specs.declared.fault.Fault.{Fault}
use Rattle.words.specs.declared.fault.Fault.TheVariants.{LongTape, Memory, Tape}

-- a part that is there, and one that is not
front_ok : (xs ys : List ℕ) (a b : Result (List ℕ) Fault) → front xs a ≡ Ok ys → front ys b ≡ front xs (followed a b)
front_ok xs ys (Ok zs) (Ok us) is = let e : xs ++ zs ≡ ys = cc in ap Ok (ap (λ (l : List ℕ). l ++ us) (sym e) ∙ append_assoc xs zs us)
front_ok xs ys (Ok zs) (Err f) is = refl
front_ok xs ys (Err f) b is = let z : ◌≡◌ {A = ℕ} 0 1 = cc in absurd (omega arith)

front_err : (xs : List ℕ) (a b : Result (List ℕ) Fault) (e : Fault) → front xs a ≡ Err e → front xs (followed a b) ≡ Err e
front_err xs (Ok zs) b e is = let z : ◌≡◌ {A = ℕ} 0 1 = cc in absurd (omega arith)
front_err xs (Err f) b e is = is

-- the records of the lines that are left, the first of number n
module _ (whole : Result (List ℕ) Fault) (tape : List ℕ) (n : ℕ) (ss : List (List ℕ)) (inv : front tape (lines_records n ss) ≡ whole) where
  module _ (line : List ℕ) (more : List (List ℕ)) (cut : ss ≡ line ∷ more) where
    next : front tape (followed (line_record n line) (lines_records (n + 1) more)) ≡ whole
    next = ap (λ (ls : List (List ℕ)). front tape (lines_records n ls)) (sym cut) ∙ inv

    pub line_more : (last : List ℕ) → front tape (line_record n line) ≡ Ok last → front last (lines_records (n + 1) more) ≡ whole
    line_more last is = front_ok tape last (line_record n line) (lines_records (n + 1) more) is ∙ next

    pub line_fault : (e : Fault) → (e ≡ Memory) ⊎ (front tape (line_record n line) ≡ Err e) → (e ≡ Memory) ⊎ (whole ≡ Err e)
    line_fault e (inl none) = inl none
    line_fault e (inr is) = inr (sym next ∙ front_err tape (line_record n line) (lines_records (n + 1) more) e is)

-- the text of a tape that is not too long
pub short : (tape : List ℕ) (places : ℕ) → length tape ≤ 65536 → places ≡ 4096 → text_or (read_tape tape places) ≡ tape_text tape
short tape places h is =
    ap (λ (k : ℕ). text_or (read_tape tape k)) is
    ∙ sym (cond-false (ltb 65536 (length tape)) (Err LongTape) (text_or (read_tape tape 4096)) (le-ltb 65536 (length tape) h))

-- a tape that is refused
pub read_refused : (r : Result (List Item) TapeRefusal) (e : TapeRefusal) → Err e ≡ measured r → text_or r ≡ Err (Tape e)
read_refused (Ok items) e is = let z : ◌≡◌ {A = ℕ} 0 1 = cc in absurd (omega arith)
read_refused (Err d) e is = cc
