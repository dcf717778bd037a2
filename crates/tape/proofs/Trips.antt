-- whole tapes: what is written is read back, and what is read was written
use Rattle.std.proofs.Common.{◌≡◌, ℕ, zero, suc, ◌+◌, ◌*◌, ◌/◌, ◌%◌, ◌≤◌, Bool, true, false, cond, eqb, leb, List, [], ◌∷◌, length, take, drop, Some, None, Ok, Err, Result, sym, refl, ap, ◌∙◌, arith}
use Rattle.std.proofs.ByRecursion.{All-take, All-drop}
use Rattle.std.proofs.lemmas.List.{take_at, drop_at, length-append, length-drop, length-take-le, take-append-drop, nil_from_length}
use Rattle.std.proofs.lemmas.Bool.{le-leb, eq-eqb, eqb-true}
use Rattle.std.specs.Int.Digits.{AllBelowBase}
use Rattle.tape.proofs.Parts.{parts}
use Rattle.tape.proofs.Records.{decode_encode, encode_decode, encoded_length}
use Rattle.refusals.specs.declared.Refusal.TheVariants.{Operation}
use Rattle.tape.specs.Item.{item, largest_of}
use Rattle.tape.specs.Refusal.{refused_at}
use Rattle.tape.specs.Laws.{OneTape, ReadsBack}
use Rattle.tape.specs.Reader.{read_tape, read_whole, reading}
use Rattle.tape.specs.Record.{decoded, encoded}
use Rattle.tape.specs.Writer.{write_tape, writing}
use Rattle.tape.specs.declared.item.Item.{Item}
use Rattle.tape.specs.declared.refusal.TapeRefusal.{TapeRefusal}

read_written : (i : ℕ) (items : List Item) (bytes : List ℕ) → writing i items ≡ Ok bytes → reading (length items) i bytes ≡ Ok items
read_written i [] bytes h = refl
read_written i (x ∷ xs) bytes h =
    let p = parts (λ bs. bs) (encoded x) i (writing (i + 1) xs) bytes h in
    let own = decode_encode x p.0 p.2 in
    let long = encoded_length x p.0 (sym p.2) in
    let next = read_written (i + 1) xs p.1 p.3 in
    rw (p.4, take_at p.0 p.1 16 long, drop_at p.0 p.1 16 long, own, next)

written_read : (n i : ℕ) (bytes : List ℕ) (items : List Item) → length bytes ≡ 16 * n → AllBelowBase 256 bytes → reading n i bytes ≡ Ok items → writing i items ≡ Ok bytes
written_read zero i bytes items len u h =
    let none : [] ≡ items = cc in
    let empty : bytes ≡ [] = nil_from_length bytes (omega arith) in
    rw (← none, empty)
written_read (suc n) i bytes items len u h =
    let p = parts (λ x. x ∷ []) (decoded (take 16 bytes)) i (reading n (i + 1) (drop 16 bytes)) items h in
    let enough : 16 ≤ length bytes = omega arith in
    let long = length-take-le 16 bytes enough in
    let left : length (drop 16 bytes) ≡ 16 * n = length-drop 16 bytes ∙ omega arith in
    let own = encode_decode (take 16 bytes) p.0 (All-take _ 16 bytes u) long p.2 in
    let next = written_read n (i + 1) (drop 16 bytes) p.1 left (All-drop _ 16 bytes u) p.3 in
    rw (p.4, own, next, take-append-drop 16 bytes)

writing_length : (i : ℕ) (items : List Item) (bytes : List ℕ) → writing i items ≡ Ok bytes → length bytes ≡ 16 * length items
writing_length i [] bytes h = let none : [] ≡ bytes = cc in ap length (sym none)
writing_length i (x ∷ xs) bytes h =
    let p = parts (λ bs. bs) (encoded x) i (writing (i + 1) xs) bytes h in
    let long = encoded_length x p.0 (sym p.2) in
    let next = writing_length (i + 1) xs p.1 p.3 in
    ap length p.4 ∙ length-append p.0 p.1 ∙ omega arith

reading_length : (n i : ℕ) (bytes : List ℕ) (items : List Item) → reading n i bytes ≡ Ok items → length items ≡ n
reading_length zero i bytes items h = let none : [] ≡ items = cc in ap length (sym none)
reading_length (suc n) i bytes items h =
    let p = parts (λ x. x ∷ []) (decoded (take 16 bytes)) i (reading n (i + 1) (drop 16 bytes)) items h in
    ap length p.4 ∙ ap suc (reading_length n (i + 1) (drop 16 bytes) p.1 p.3)

-- what is not refused has passed its questions
held : {X : Type 0} (t : Bool) (r : Result (List X) TapeRefusal) (e : TapeRefusal) (xs : List X) → cond t r (Err e) ≡ Ok xs → (t ≡ true) × (r ≡ Ok xs)
held t r e xs h = grind arith

pub held_short : {X : Type 0} (t : Bool) (r : Result (List X) TapeRefusal) (e : TapeRefusal) (xs : List X) → cond t (Err e) r ≡ Ok xs → r ≡ Ok xs
held_short t r e xs h = grind arith

whole_held : (t : Bool) (q m : ℕ) (bytes : List ℕ) (items : List Item) → read_whole (cond t (Some q) None) bytes m ≡ Ok items → (t ≡ true) × (reading q 0 bytes ≡ Ok items)
whole_held true q m bytes items h = (refl, (held (leb q m) (reading q 0 bytes) _ items h).1)
whole_held false q m bytes items h = let z : ◌≡◌ {A = ℕ} 0 1 = cc in absurd (omega arith)

pub read_held : (bytes : List ℕ) (m : ℕ) (items : List Item) → read_tape bytes m ≡ Ok items
    → (length bytes ≡ 16 * (length bytes / 16)) × (reading (length bytes / 16) 0 bytes ≡ Ok items)
read_held bytes m items h =
    let p = whole_held (eqb (length bytes % 16) 0) (length bytes / 16) m bytes items h in
    (omega (arith, eqb-true (length bytes % 16) 0 p.0), p.1)

rewritten : (s : List ℕ) (m : ℕ) (items : List Item) → AllBelowBase 256 s → read_tape s m ≡ Ok items → writing 0 items ≡ Ok s
rewritten s m items u h =
    let p = read_held s m items h in
    written_read (length s / 16) 0 s items p.0 u p.1

back_read : (items : List Item) (room places : ℕ) (tape : List ℕ) → write_tape items room ≡ Ok tape → length items ≤ places → read_tape tape places ≡ Ok items
back_read items room places tape h fits =
    let w = (held (leb (length items) (room / 16)) (writing 0 items) _ tape h).1 in
    let long = writing_length 0 items tape w in
    let q : length tape / 16 ≡ length items = omega arith in
    let z : length tape % 16 ≡ 0 = omega arith in
    rw (eq-eqb (length tape % 16) 0 z, q, le-leb (length items) places fits, read_written 0 items tape w)

no_second : write_tape (item 3 0 0 0 0 ∷ item 0 0 0 0 0 ∷ []) 32 ≡ Err (refused_at Operation 1)
unfolding largest_of
no_second = refl

pub reads_back : ReadsBack
reads_back = record {
  full = λ x y z. refl;
  second = no_second;
  back = back_read;
  long = λ items room tape h. writing_length 0 items tape (held (leb (length items) (room / 16)) (writing 0 items) _ tape h).1;
}

only : (s t : List ℕ) (m n : ℕ) (items : List Item) → AllBelowBase 256 s → AllBelowBase 256 t → read_tape s m ≡ Ok items → read_tape t n ≡ Ok items → s ≡ t
only s t m n items us ut p q =
    let a = rewritten s m items us p in
    let b = rewritten t n items ut q in
    cc

back_written : (tape : List ℕ) (places room : ℕ) (items : List Item) → AllBelowBase 256 tape → read_tape tape places ≡ Ok items → length tape ≤ room → write_tape items room ≡ Ok tape
back_written tape places room items u h fits =
    let p = read_held tape places items h in
    let long = reading_length (length tape / 16) 0 tape items p.1 in
    let few : length items ≤ room / 16 = omega arith in
    rw (le-leb (length items) (room / 16) few, rewritten tape places items u h)

pub one_tape : OneTape
unfolding largest_of
one_tape = record { one_place = refl; only = only; back = back_written; create = refl }
