-- an item's line, read back
use Rattle.std.proofs.Common.{◌≡◌, ℕ, ◌^◌, ◌<◌, ◌≤◌, true, List, [], ◌∷◌, ◌++◌, Some, None, codes, decimal, Option, sym, refl, ap, ◌∙◌, inl, inr, arith, rules}
use Rattle.tokens.specs.Options.{and_then}
use Rattle.tokens.specs.Words.{words}
use Rattle.std.proofs.lemmas.Bool.{cases_eq, cond-true}
use Rattle.std.specs.Option.{option_map}
use Rattle.std.specs.List.{AllByRecursion as All}
use Rattle.std.specs.Str.{bytes_eq}
use Rattle.tape.proofs.Records.{accepted, by_operation, item_passed, under, UnderMost}
use Rattle.tape.specs.Item.{item, item_questions, largest_of}
use Rattle.tape.specs.Record.{bytes_of, packed}
use Rattle.refusals.specs.Questions.{ruling}
use Rattle.tokens.proofs.Dark.{dark, words_front, words_one}
use Rattle.words.proofs.Numerals.{dark_decimal, dark_hex, number_decimal, number_hex}
use Rattle.words.specs.Fields.{ended, field_of, number_first, one_of, three_of, two_of}
use Rattle.words.specs.Hex.{hex_text}
use Rattle.words.specs.Laws.{ItemsReadBack}
use Rattle.words.specs.Line.{line_text}
use Rattle.words.specs.Numbers.{number_value}
use Rattle.words.specs.Parse.{parse_line, parse_words, sized}
use Rattle.tape.specs.Sizes.{size_of, width_of}

-- words, each behind a space
abbrev spaced : List (List ℕ) → List ℕ → List ℕ
spaced [] last = 32 ∷ last
spaced (w ∷ ws) last = 32 ∷ (w ++ spaced ws last)

words_spaced : (ws : List (List ℕ)) (last : List ℕ) → All (λ w. dark w ≡ true) ws → dark last ≡ true → words (spaced ws last) ≡ [] ∷ (ws ++ (last ∷ []))
words_spaced [] last ts t = ap (λ (l : List (List ℕ)). [] ∷ l) (words_one last t)
words_spaced (w ∷ ws) last ts t =
    ap (λ (l : List (List ℕ)). [] ∷ l) (words_front w (spaced ws last) (ws ++ (last ∷ [])) ts.0 (words_spaced ws last ts.1 t))

words_line : (name : List ℕ) (ws : List (List ℕ)) (last : List ℕ) → dark name ≡ true → All (λ w. dark w ≡ true) ws → dark last ≡ true
    → words (name ++ spaced ws last) ≡ name ∷ (ws ++ (last ∷ []))
words_line name ws last n ts t = words_front name (spaced ws last) (ws ++ (last ∷ [])) n (words_spaced ws last ts t)

-- fields behind their labels
field_is : (a u : List ℕ) (x : ℕ) (ws : List (List ℕ)) → bytes_eq a a ≡ true → number_value u ≡ Some x → field_of a (a ∷ u ∷ ws) ≡ Some (x, ws)
field_is a u x ws t is = cond-true (bytes_eq a a) (number_first (u ∷ ws)) None t ∙ ap (option_map (λ n. (n, ws))) is

one_is : (a u : List ℕ) (x : ℕ) → bytes_eq a a ≡ true → number_value u ≡ Some x → one_of a (a ∷ u ∷ []) ≡ Some x
one_is a u x t is = ap (λ (o : Option (ℕ × List (List ℕ))). and_then o (λ p. ended p.0 p.1)) (field_is a u x [] t is)

two_is : (a u b v : List ℕ) (x y : ℕ) → bytes_eq a a ≡ true → bytes_eq b b ≡ true → number_value u ≡ Some x → number_value v ≡ Some y
    → two_of a b (a ∷ u ∷ b ∷ v ∷ []) ≡ Some (x, y)
two_is a u b v x y s t is js =
    ap (λ (o : Option (ℕ × List (List ℕ))). and_then o (λ p. option_map (λ z. (p.0, z)) (one_of b p.1))) (field_is a u x (b ∷ v ∷ []) s is)
    ∙ ap (option_map (λ z. (x, z))) (one_is b v y t js)

three_is : (a u b v c w : List ℕ) (x y z : ℕ) → bytes_eq a a ≡ true → bytes_eq b b ≡ true → bytes_eq c c ≡ true
    → number_value u ≡ Some x → number_value v ≡ Some y → number_value w ≡ Some z
    → three_of a b c (a ∷ u ∷ b ∷ v ∷ c ∷ w ∷ []) ≡ Some (x, y, z)
three_is a u b v c w x y z r s t is js ks =
    ap (λ (o : Option (ℕ × List (List ℕ))). and_then o (λ p. option_map (λ q. (p.0, q.0, q.1)) (two_of b c p.1))) (field_is a u x (b ∷ v ∷ c ∷ w ∷ []) r is)
    ∙ ap (option_map (λ (q : ℕ × ℕ). (x, q.0, q.1))) (two_is b v c w y z s t js ks)

-- sizes
size_back : (w : ℕ) → w ≤ 3 → width_of (size_of w) ≡ Some w
size_back w h =
    elim (cases_eq w 0) [
      | inl e ↦ rw e refl
      | inr p ↦ elim (cases_eq w 1) [
        | inl e ↦ rw e refl
        | inr q ↦ elim (cases_eq w 2) [
          | inl e ↦ rw e refl
          | inr r ↦ let e : w ≡ 3 = omega arith in rw e refl
        ]
      ]
    ]

pub size_fits : (w : ℕ) → size_of w < 2 ^ 64
size_fits w = search rules

sized_back : (n w a v : ℕ) → w ≤ 3 → sized n (size_of w) a v ≡ Some (item n 0 w a v)
sized_back n w a v h = ap (option_map (λ k. item n 0 k a v)) (size_back w h)

-- the line of each operation
abbrev Reads : ℕ → Type 0
Reads n = (s w a v : ℕ) → UnderMost s w a v (largest_of n).slot (largest_of n).width (largest_of n).address (largest_of n).value
    → parse_line (line_text n s w a v) ≡ Some (item n s w a v)

-- a field that is zero
none : (n : ℕ) → n ≤ 0 → n ≡ 0
none n h = omega arith

create_back : Reads 1
unfolding largest_of
create_back s w a v u =
    ap parse_words (words_line (codes "create") (codes "slot" ∷ decimal s ∷ codes "base" ∷ hex_text a ∷ codes "exponent" ∷ []) (decimal v)
    refl (refl, (dark_decimal s, (refl, (dark_hex a, (refl, tt))))) (dark_decimal v))
    ∙ ap (option_map (λ (p : ℕ × ℕ × ℕ). item 1 p.0 0 p.1 p.2))
    (three_is (codes "slot") (decimal s) (codes "base") (hex_text a) (codes "exponent") (decimal v) s a v refl refl refl
    (number_decimal s (omega arith)) (number_hex a (omega arith)) (number_decimal v (omega arith)))
    ∙ ap (λ (k : ℕ). Some (item 1 s k a v)) (sym (none w u.width))

enter_back : Reads 2
unfolding largest_of
enter_back s w a v u =
    ap parse_words (words_line (codes "enter") (codes "slot" ∷ []) (decimal s) refl (refl, tt) (dark_decimal s))
    ∙ ap (option_map (λ (k : ℕ). item 2 k 0 0 0)) (one_is (codes "slot") (decimal s) s refl (number_decimal s (omega arith)))
    ∙ ap (λ (k : ℕ). Some (item 2 s k 0 0)) (sym (none w u.width))
    ∙ ap (λ (k : ℕ). Some (item 2 s w k 0)) (sym (none a u.address))
    ∙ ap (λ (k : ℕ). Some (item 2 s w a k)) (sym (none v u.value))

pause_back : Reads 3
unfolding largest_of
pause_back s w a v u =
    ap (λ (k : ℕ). Some (item 3 k 0 0 0)) (sym (none s u.slot))
    ∙ ap (λ (k : ℕ). Some (item 3 s k 0 0)) (sym (none w u.width))
    ∙ ap (λ (k : ℕ). Some (item 3 s w k 0)) (sym (none a u.address))
    ∙ ap (λ (k : ℕ). Some (item 3 s w a k)) (sym (none v u.value))

finish_back : Reads 4
unfolding largest_of
finish_back s w a v u =
    ap parse_words (words_line (codes "finish") (codes "value" ∷ []) (hex_text v) refl (refl, tt) (dark_hex v))
    ∙ ap (option_map (λ (k : ℕ). item 4 0 0 0 k)) (one_is (codes "value") (hex_text v) v refl (number_hex v (omega arith)))
    ∙ ap (λ (k : ℕ). Some (item 4 k 0 0 v)) (sym (none s u.slot))
    ∙ ap (λ (k : ℕ). Some (item 4 s k 0 v)) (sym (none w u.width))
    ∙ ap (λ (k : ℕ). Some (item 4 s w k v)) (sym (none a u.address))

destroy_back : Reads 5
unfolding largest_of
destroy_back s w a v u =
    ap parse_words (words_line (codes "destroy") (codes "slot" ∷ []) (decimal s) refl (refl, tt) (dark_decimal s))
    ∙ ap (option_map (λ (k : ℕ). item 5 k 0 0 0)) (one_is (codes "slot") (decimal s) s refl (number_decimal s (omega arith)))
    ∙ ap (λ (k : ℕ). Some (item 5 s k 0 0)) (sym (none w u.width))
    ∙ ap (λ (k : ℕ). Some (item 5 s w k 0)) (sym (none a u.address))
    ∙ ap (λ (k : ℕ). Some (item 5 s w a k)) (sym (none v u.value))

load_back : Reads 6
unfolding largest_of
load_back s w a v u =
    ap parse_words (words_line (codes "load") (codes "size" ∷ decimal (size_of w) ∷ codes "at" ∷ []) (hex_text a)
    refl (refl, (dark_decimal (size_of w), (refl, tt))) (dark_hex a))
    ∙ ap (λ (o : Option (ℕ × ℕ)). and_then o (λ p. sized 6 p.0 p.1 0))
    (two_is (codes "size") (decimal (size_of w)) (codes "at") (hex_text a) (size_of w) a refl refl (number_decimal (size_of w) (size_fits w)) (number_hex a (omega arith)))
    ∙ sized_back 6 w a 0 u.width
    ∙ ap (λ (k : ℕ). Some (item 6 k w a 0)) (sym (none s u.slot))
    ∙ ap (λ (k : ℕ). Some (item 6 s w a k)) (sym (none v u.value))

store_back : Reads 7
unfolding largest_of
store_back s w a v u =
    ap parse_words (words_line (codes "store") (codes "size" ∷ decimal (size_of w) ∷ codes "at" ∷ hex_text a ∷ codes "value" ∷ []) (hex_text v)
    refl (refl, (dark_decimal (size_of w), (refl, (dark_hex a, (refl, tt))))) (dark_hex v))
    ∙ ap (λ (o : Option (ℕ × ℕ × ℕ)). and_then o (λ p. sized 7 p.0 p.1 p.2))
    (three_is (codes "size") (decimal (size_of w)) (codes "at") (hex_text a) (codes "value") (hex_text v) (size_of w) a v refl refl refl
    (number_decimal (size_of w) (size_fits w)) (number_hex a (omega arith)) (number_hex v (omega arith)))
    ∙ sized_back 7 w a v u.width
    ∙ ap (λ (k : ℕ). Some (item 7 k w a v)) (sym (none s u.slot))

fetch_back : Reads 8
unfolding largest_of
fetch_back s w a v u =
    ap parse_words (words_line (codes "fetch") (codes "size" ∷ decimal (size_of w) ∷ codes "at" ∷ []) (hex_text a)
    refl (refl, (dark_decimal (size_of w), (refl, tt))) (dark_hex a))
    ∙ ap (λ (o : Option (ℕ × ℕ)). and_then o (λ p. sized 8 p.0 p.1 0))
    (two_is (codes "size") (decimal (size_of w)) (codes "at") (hex_text a) (size_of w) a refl refl (number_decimal (size_of w) (size_fits w)) (number_hex a (omega arith)))
    ∙ sized_back 8 w a 0 u.width
    ∙ ap (λ (k : ℕ). Some (item 8 k w a 0)) (sym (none s u.slot))
    ∙ ap (λ (k : ℕ). Some (item 8 s w a k)) (sym (none v u.value))

register_back : Reads 9
unfolding largest_of
register_back s w a v u =
    ap parse_words (words_line (codes "register") (codes "number" ∷ hex_text a ∷ codes "value" ∷ []) (hex_text v)
    refl (refl, (dark_hex a, (refl, tt))) (dark_hex v))
    ∙ ap (option_map (λ (p : ℕ × ℕ). item 9 0 0 p.0 p.1))
    (two_is (codes "number") (hex_text a) (codes "value") (hex_text v) a v refl refl (number_hex a (omega arith)) (number_hex v (omega arith)))
    ∙ ap (λ (k : ℕ). Some (item 9 k 0 a v)) (sym (none s u.slot))
    ∙ ap (λ (k : ℕ). Some (item 9 s k a v)) (sym (none w u.width))

pub items_read_back : ItemsReadBack
items_read_back i bytes is =
    let passed = item_passed i (accepted (ruling (item_questions i)) (bytes_of 16 (packed i)) bytes is).0 in
    let most = largest_of i.operation in
    by_operation Reads create_back enter_back pause_back finish_back destroy_back load_back store_back fetch_back register_back i.operation passed.0
    i.slot i.width i.address i.value
    (under i.slot i.width i.address i.value most.slot most.width most.address most.value passed.1)
