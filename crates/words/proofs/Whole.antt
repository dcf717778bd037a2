-- the text of a tape, read back whole
use Rattle.std.proofs.Common.{◌≡◌, ℕ, zero, suc, ◌+◌, ◌-◌, ◌*◌, ◌/◌, ◌%◌, ◌^◌, ◌<◌, ◌≤◌, Bool, true, false, cond, ◌&&◌, eqb, ltb, leb, List, [], ◌∷◌, ◌++◌, map, length, get_or, take, drop, Some, None, Ok, Err, codes, decimal, Result, refl, ap, ◌∙◌, arith}
use Rattle.tokens.specs.Cut.{extend}
use Rattle.tokens.specs.Lines.{is_silent, lines, script_lines, without_return}
use Rattle.refusals.specs.Questions.{ruling}
use Rattle.refusals.specs.declared.Refusal.{Refusal}
use Rattle.refusals.specs.declared.Refusal.TheVariants.{NoPlace}
use Rattle.std.proofs.lemmas.Fmt.{length-decimal-le}
use Rattle.std.proofs.ByRecursion.{All-drop, All-take}
use Rattle.std.proofs.lemmas.List.{length-append, length-drop, length-take-le, nil_from_length, take-append-drop}
use Rattle.std.proofs.lemmas.Bool.{and_from, and_parts, cond-false, eqb-true, le-ltb, leb-true, lt-ltb, ltb-true, ne_eqb}
use Rattle.std.specs.Int.Digits.{AllBelowBase}
use Rattle.tape.proofs.Records.{by_operation, encode_decode, item_passed, record_item, under, UnderMost}
use Rattle.tape.specs.Item.{item_questions, largest_of}
use Rattle.tape.specs.Reader.{read_tape, read_whole, reading}
use Rattle.tape.specs.Record.{decoded, encoded}
use Rattle.tape.specs.Refusal.{after, refused_at}
use Rattle.tape.specs.declared.item.Item.{Item}
use Rattle.tape.specs.declared.refusal.TapeRefusal.{TapeRefusal}
use Rattle.words.proofs.Back.{items_read_back, size_fits}
use Rattle.tokens.proofs.Dark.{dark}
use Rattle.words.proofs.Numerals.{dark_decimal, dark_hex, length_hex}
use Rattle.words.specs.Hex.{hex_text}
use Rattle.words.specs.Laws.{TapesReadBack}
use Rattle.words.specs.Line.{item_text, line_text}
use Rattle.words.specs.Parse.{parse_line}
use Rattle.tape.specs.Sizes.{size_of}
use Rattle.words.specs.Tapes.{followed, front, item_record, items_text, limited, line_record, lines_records, record_or, tape_text, text_or, text_tape}
use Rattle.words.specs.declared.fault.Fault.{Fault}
use Rattle.words.specs.declared.fault.Fault.TheVariants.{LongTape, LongText}

-- every byte is the space or above it, so that it ends no line
abbrev clean : List ℕ → Bool
clean [] = true
clean (x ∷ xs) = ltb 31 x && clean xs

clean_dark : (xs : List ℕ) → dark xs ≡ true → clean xs ≡ true
clean_dark [] t = refl
clean_dark (x ∷ xs) t =
    let parts = and_parts (ltb 32 x) (dark xs) t in
    let more = ltb-true 32 x parts.0 in
    and_from (ltb 31 x) (clean xs) (lt-ltb 31 x (omega arith)) (clean_dark xs parts.1)

clean_append : (xs ys : List ℕ) → clean xs ≡ true → clean ys ≡ true → clean (xs ++ ys) ≡ true
clean_append [] ys s t = t
clean_append (x ∷ xs) ys s t =
    let parts = and_parts (ltb 31 x) (clean xs) s in
    and_from (ltb 31 x) (clean (xs ++ ys)) parts.0 (clean_append xs ys parts.1 t)

-- no CR at any place
clean_at : (xs : List ℕ) (i : ℕ) → clean xs ≡ true → get_or xs i 0 ≡ 13 → ⊥
clean_at [] i t e = omega arith
clean_at (x ∷ xs) zero t e = let more = ltb-true 31 x (and_parts (ltb 31 x) (clean xs) t).0 in omega arith
clean_at (x ∷ xs) (suc i) t e = clean_at xs i (and_parts (ltb 31 x) (clean xs) t).1 e

lines_clean : (xs rest : List ℕ) → clean xs ≡ true → lines (xs ++ (10 ∷ rest)) ≡ xs ∷ lines rest
lines_clean [] rest t = refl
lines_clean (x ∷ xs) rest t =
    let parts = and_parts (ltb 31 x) (clean xs) t in
    let more = ltb-true 31 x parts.0 in
    cond-false (eqb x 10) ([] ∷ lines (xs ++ (10 ∷ rest))) (extend x (lines (xs ++ (10 ∷ rest)))) (ne_eqb x 10 (λ e. omega arith))
    ∙ ap (extend x) (lines_clean xs rest parts.1)

first_clean : (xs rest : List ℕ) → clean xs ≡ true → script_lines (xs ++ (10 ∷ rest)) ≡ xs ∷ script_lines rest
first_clean xs rest t =
    ap (map without_return) (lines_clean xs rest t)
    ∙ ap (λ (l : List ℕ). l ∷ script_lines rest)
    (cond-false (eqb (get_or xs (length xs - 1) 0) 13) (take (length xs - 1) xs) xs (ne_eqb (get_or xs (length xs - 1) 0) 13 (clean_at xs (length xs - 1) t)))

-- a piece of a line, of at most so many bytes
record Piece (k : ℕ) (xs : List ℕ) : Type 0 where
  is_clean : clean xs ≡ true
  is_short : length xs ≤ k

join : (j k : ℕ) (xs ys : List ℕ) → Piece j xs → Piece k ys → Piece (j + k) (xs ++ ys)
join j k xs ys p q =
    record { is_clean = clean_append xs ys p.is_clean q.is_clean; is_short = let e = length-append xs ys in omega (arith, p.is_short, q.is_short) }

decimal_piece : (n : ℕ) → n < 2 ^ 64 → Piece 20 (decimal n)
decimal_piece n h =
    record { is_clean = clean_dark (decimal n) (dark_decimal n); is_short = length-decimal-le 20 n (omega arith) (omega arith) h }

hex_piece : (n : ℕ) → Piece 18 (hex_text n)
hex_piece n = record { is_clean = clean_dark (hex_text n) (dark_hex n); is_short = length_hex n }

word_piece : (xs : List ℕ) → clean xs ≡ true → length xs ≤ 16 → Piece 16 xs
word_piece xs t h = record { is_clean = t; is_short = h }

-- a line that is neither blank nor a comment
record Written (xs : List ℕ) : Type 0 where
  line_clean : clean xs ≡ true
  line_short : length xs ≤ 255
  line_asks : is_silent xs ≡ false

written : (k : ℕ) (xs : List ℕ) → k ≤ 255 → is_silent xs ≡ false → Piece k xs → Written xs
written k xs h asks p = record { line_clean = p.is_clean; line_short = omega (arith, p.is_short); line_asks = asks }

abbrev Fine : ℕ → Type 0
Fine n = (s w a v : ℕ) → UnderMost s w a v (largest_of n).slot (largest_of n).width (largest_of n).address (largest_of n).value
    → Written (line_text n s w a v)

-- a word and a number, or a word, a number and what follows
decimal_last : (xs : List ℕ) (n : ℕ) → clean xs ≡ true → length xs ≤ 16 → n < 2 ^ 64 → Piece 36 (xs ++ decimal n)
decimal_last xs n t h fits = join 16 20 xs (decimal n) (word_piece xs t h) (decimal_piece n fits)

hex_last : (xs : List ℕ) (n : ℕ) → clean xs ≡ true → length xs ≤ 16 → Piece 34 (xs ++ hex_text n)
hex_last xs n t h = join 16 18 xs (hex_text n) (word_piece xs t h) (hex_piece n)

decimal_then : (k : ℕ) (xs : List ℕ) (n : ℕ) (ys : List ℕ) → clean xs ≡ true → length xs ≤ 16 → n < 2 ^ 64 → Piece k ys → Piece (16 + (20 + k)) (xs ++ (decimal n ++ ys))
decimal_then k xs n ys t h fits p = join 16 (20 + k) xs (decimal n ++ ys) (word_piece xs t h) (join 20 k (decimal n) ys (decimal_piece n fits) p)

hex_then : (k : ℕ) (xs : List ℕ) (n : ℕ) (ys : List ℕ) → clean xs ≡ true → length xs ≤ 16 → Piece k ys → Piece (16 + (18 + k)) (xs ++ (hex_text n ++ ys))
hex_then k xs n ys t h p = join 16 (18 + k) xs (hex_text n ++ ys) (word_piece xs t h) (join 18 k (hex_text n) ys (hex_piece n) p)

create_fine : Fine 1
unfolding largest_of
create_fine s w a v u =
    written 106 (line_text 1 s w a v) (omega arith) refl
    (decimal_then 70 (codes "create slot ") s (codes " base " ++ (hex_text a ++ (codes " exponent " ++ decimal v))) refl (omega arith) (omega arith)
    (hex_then 36 (codes " base ") a (codes " exponent " ++ decimal v) refl (omega arith) (decimal_last (codes " exponent ") v refl (omega arith) (omega arith))))

enter_fine : Fine 2
unfolding largest_of
enter_fine s w a v u = written 36 (line_text 2 s w a v) (omega arith) refl (decimal_last (codes "enter slot ") s refl (omega arith) (omega arith))

pause_fine : Fine 3
unfolding largest_of
pause_fine s w a v u = written 16 (line_text 3 s w a v) (omega arith) refl (word_piece (codes "pause") refl (omega arith))

finish_fine : Fine 4
unfolding largest_of
finish_fine s w a v u = written 34 (line_text 4 s w a v) (omega arith) refl (hex_last (codes "finish value ") v refl (omega arith))

destroy_fine : Fine 5
unfolding largest_of
destroy_fine s w a v u = written 36 (line_text 5 s w a v) (omega arith) refl (decimal_last (codes "destroy slot ") s refl (omega arith) (omega arith))

load_fine : Fine 6
unfolding largest_of
load_fine s w a v u =
    written 70 (line_text 6 s w a v) (omega arith) refl
    (decimal_then 34 (codes "load size ") (size_of w) (codes " at " ++ hex_text a) refl (omega arith) (size_fits w) (hex_last (codes " at ") a refl (omega arith)))

store_fine : Fine 7
unfolding largest_of
store_fine s w a v u =
    written 104 (line_text 7 s w a v) (omega arith) refl
    (decimal_then 68 (codes "store size ") (size_of w) (codes " at " ++ (hex_text a ++ (codes " value " ++ hex_text v))) refl (omega arith) (size_fits w)
    (hex_then 34 (codes " at ") a (codes " value " ++ hex_text v) refl (omega arith) (hex_last (codes " value ") v refl (omega arith))))

fetch_fine : Fine 8
unfolding largest_of
fetch_fine s w a v u =
    written 70 (line_text 8 s w a v) (omega arith) refl
    (decimal_then 34 (codes "fetch size ") (size_of w) (codes " at " ++ hex_text a) refl (omega arith) (size_fits w) (hex_last (codes " at ") a refl (omega arith)))

register_fine : Fine 9
unfolding largest_of
register_fine s w a v u =
    written 68 (line_text 9 s w a v) (omega arith) refl
    (hex_then 34 (codes "register number ") a (codes " value " ++ hex_text v) refl (omega arith) (hex_last (codes " value ") v refl (omega arith)))

item_fine : (i : Item) → ruling (item_questions i) ≡ Ok tt → Written (item_text i)
item_fine i h =
    let passed = item_passed i h in
    let most = largest_of i.operation in
    by_operation Fine create_fine enter_fine pause_fine finish_fine destroy_fine load_fine store_fine fetch_fine register_fine i.operation passed.0
    i.slot i.width i.address i.value
    (under i.slot i.width i.address i.value most.slot most.width most.address most.value passed.1)

-- the record of an item's line
line_back : (n : ℕ) (i : Item) (bytes : List ℕ) → Written (item_text i) → encoded i ≡ Ok bytes → line_record n (item_text i) ≡ Ok bytes
line_back n i bytes fine is =
    cond-false (is_silent (item_text i)) (Ok []) (item_record n (parse_line (item_text i))) fine.line_asks
    ∙ ap (item_record n) (items_read_back i bytes is)
    ∙ ap (record_or n) is

-- a list of items that is read has a first and others
record Split (r : Result Item Refusal) (rest : Result (List Item) TapeRefusal) (items : List Item) : Type 0 where
  head : Item
  tail : List Item
  head_is : r ≡ Ok head
  tail_is : rest ≡ Ok tail
  both : items ≡ head ∷ tail

split : (r : Result Item Refusal) (i : ℕ) (rest : Result (List Item) TapeRefusal) (items : List Item) → after (λ x. x ∷ []) r i rest ≡ Ok items → Split r rest items
split (Ok x) i (Ok xs) items is = record { head = x; tail = xs; head_is = refl; tail_is = refl; both = cc }
split (Ok x) i (Err e) items is = let z : ◌≡◌ {A = ℕ} 0 1 = cc in absurd (omega arith)
split (Err e) i rest items is = let z : ◌≡◌ {A = ℕ} 0 1 = cc in absurd (omega arith)

record Given (c n : ℕ) (bytes : List ℕ) (items : List Item) : Type 0 where
  back : lines_records n (script_lines (items_text items)) ≡ Ok bytes
  short : length (items_text items) ≤ 256 * c

given : (c i n : ℕ) (bytes : List ℕ) (items : List Item) → AllBelowBase 256 bytes → length bytes ≡ 16 * c → reading c i bytes ≡ Ok items → Given c n bytes items
given zero i n bytes items u long is =
    let none : items ≡ [] = cc in
    let empty : bytes ≡ [] = nil_from_length bytes (omega arith) in
    record { back = rw (none, empty) refl; short = rw none (omega arith) }
given (suc c) i n bytes items u long is =
    let s = split (decoded (take 16 bytes)) i (reading c (i + 1) (drop 16 bytes)) items is in
    let x = s.head in
    let sixteen : length (take 16 bytes) ≡ 16 = length-take-le 16 bytes (omega arith) in
    let fine : Written (item_text x) = item_fine x (record_item (take 16 bytes) x s.head_is) in
    let own : encoded x ≡ Ok (take 16 bytes) = encode_decode (take 16 bytes) x (All-take (λ d. d < 256) 16 bytes u) sixteen s.head_is in
    let g = given c (i + 1) (n + 1) (drop 16 bytes) s.tail (All-drop (λ d. d < 256) 16 bytes u) (length-drop 16 bytes ∙ omega arith) s.tail_is in
    let sum = length-append (item_text x) (10 ∷ items_text s.tail) in
    record {
      back = ap (λ (l : List Item). lines_records n (script_lines (items_text l))) s.both
          ∙ ap (lines_records n) (first_clean (item_text x) (items_text s.tail) fine.line_clean)
          ∙ ap (λ (r : Result (List ℕ) Fault). followed r (lines_records (n + 1) (script_lines (items_text s.tail)))) (line_back n x (take 16 bytes) fine own)
          ∙ ap (front (take 16 bytes)) g.back
          ∙ ap Ok (take-append-drop 16 bytes);
      short = rw s.both (omega (arith, sum, fine.line_short, g.short));
    }

-- a tape that has a text
record Known (tape text : List ℕ) : Type 0 where
  count : ℕ
  items : List Item
  few : count ≤ 4096
  whole : length tape ≡ 16 * count
  are : reading count 0 tape ≡ Ok items
  text_is : text ≡ items_text items

known : (tape text : List ℕ) → tape_text tape ≡ Ok text → Known tape text
known tape text is = by_length (ltb 65536 (length tape)) refl is
  where
    by_items : (c : ℕ) → c ≤ 4096 → length tape ≡ 16 * c → (r : Result (List Item) TapeRefusal) → reading c 0 tape ≡ r → text_or r ≡ Ok text → Known tape text
    by_items c few whole (Ok items) are e = record { count = c; items = items; few = few; whole = whole; are = are; text_is = cc }
    by_items c few whole (Err f) are e = let z : ◌≡◌ {A = ℕ} 0 1 = cc in absurd (omega arith)

    by_count : (b : Bool) → leb (length tape / 16) 4096 ≡ b → length tape ≡ 16 * (length tape / 16)
        → text_or (cond b (reading (length tape / 16) 0 tape) (Err (refused_at NoPlace 4096))) ≡ Ok text → Known tape text
    by_count true few whole e = by_items (length tape / 16) (leb-true (length tape / 16) 4096 few) whole (reading (length tape / 16) 0 tape) refl e
    by_count false few whole e = let z : ◌≡◌ {A = ℕ} 0 1 = cc in absurd (omega arith)

    by_whole : (b : Bool) → eqb (length tape % 16) 0 ≡ b → text_or (read_whole (cond b (Some (length tape / 16)) None) tape 4096) ≡ Ok text → Known tape text
    by_whole true t e =
        let none = eqb-true (length tape % 16) 0 t in
        by_count (leb (length tape / 16) 4096) refl (omega arith) e
    by_whole false t e = let z : ◌≡◌ {A = ℕ} 0 1 = cc in absurd (omega arith)

    by_length : (b : Bool) → ltb 65536 (length tape) ≡ b → cond b (Err LongTape) (text_or (read_tape tape 4096)) ≡ Ok text → Known tape text
    by_length true t e = let z : ◌≡◌ {A = ℕ} 0 1 = cc in absurd (omega arith)
    by_length false t e = by_whole (eqb (length tape % 16) 0) refl e

pub tapes_read_back : TapesReadBack
tapes_read_back tape text u is =
    let k = known tape text is in
    let lines = items_text k.items in
    let g = given k.count 0 1 tape k.items u k.whole k.are in
    ap text_tape k.text_is
    ∙ cond-false (ltb (2 ^ 20) (length lines)) (Err LongText) (limited (lines_records 1 (script_lines lines))) (le-ltb (2 ^ 20) (length lines) (omega (arith, g.short, k.few)))
    ∙ ap limited g.back
    ∙ cond-false (ltb (2 ^ 16) (length tape)) (Err LongTape) (Ok tape) (le-ltb (2 ^ 16) (length tape) (omega (arith, k.whole, k.few)))
