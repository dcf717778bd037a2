-- each line is answered by one line
use Rattle.std.proofs.Common.{◌≡◌, ℕ, zero, suc, ◌+◌, ◌/◌, ◌%◌, ◌^◌, Bool, true, false, cond, eqb, ltb, List, [], ◌∷◌, ◌++◌, Some, None, Ok, Err, codes, decimal, Option, refl, ap, ◌∙◌, arith}
use Rattle.bank.specs.Content.{blank}
use Rattle.bank.specs.declared.entry.Entry.{Entry}
use Rattle.bank.specs.declared.verdict.Verdict.{Verdict}
use Rattle.bank.specs.declared.verdict.Verdict.TheVariants.{Allowed, Fault}
use Rattle.calculator.proofs.Standing.{within}
use Rattle.tokens.specs.Digits.{hex_text}
use Rattle.calculator.specs.Laws.{asking, line_ends, LinesAnswered}
use Rattle.tokens.specs.Lines.{is_silent, script_lines}
use Rattle.calculator.specs.Parse.{parse_line}
use Rattle.calculator.specs.Reply.{reply_text}
use Rattle.calculator.specs.Run.{answer_of}
use Rattle.calculator.specs.Script.{content_line, line_text, lines_text, reply_line}
use Rattle.calculator.specs.Text.{answer_text, decider_text, verdict_text}
use Rattle.calculator.specs.declared.answer.Answer.{Answer}
use Rattle.calculator.specs.declared.answer.Answer.TheVariants.{Word, Verdict as VerdictIs, Range, Done}
use Rattle.refusals.specs.Numbers.{refusal_number}
use Rattle.std.proofs.lemmas.Bool.{cond_both, ne_eqb}
use Rattle.std.specs.Option.{option_map}
use Rattle.std.specs.Char.{digit_char}
use Rattle.std.specs.Fmt.{digits, digit_glyph, digits_onto}

ends_append : (xs ys : List ℕ) → line_ends (xs ++ ys) ≡ line_ends xs + line_ends ys
ends_append [] ys = omega arith
ends_append (x ∷ xs) ys = omega (arith, ends_append xs ys)

-- texts with no LF, one after the other
none_append : (xs ys : List ℕ) → line_ends xs ≡ 0 → line_ends ys ≡ 0 → line_ends (xs ++ ys) ≡ 0
none_append xs ys p q = ends_append xs ys ∙ omega arith

none_cons : (x : ℕ) (xs : List ℕ) → (x ≡ 10 → ⊥) → line_ends xs ≡ 0 → line_ends (x ∷ xs) ≡ 0
none_cons x xs not p = ap (λ (v : Bool). cond v 1 0 + line_ends xs) (ne_eqb x 10 not) ∙ omega arith

glyph_not : (d : ℕ) → digit_glyph false d ≡ 10 → ⊥
glyph_not d = cond_both (ltb d 10) (48 + d) (87 + d) (λ x. x ≡ 10 → ⊥) (λ _ e. omega arith) (λ _ e. omega arith)

none_spelled : (k base n : ℕ) (acc : List ℕ) → line_ends acc ≡ 0 → line_ends (digits_onto k base false n acc) ≡ 0
none_spelled zero base n acc p = p
none_spelled (suc k) base n acc p =
    let one : line_ends (digit_glyph false (n % base) ∷ acc) ≡ 0 = none_cons (digit_glyph false (n % base)) acc (glyph_not (n % base)) p in
    cond_both (eqb (n / base) 0) (digit_glyph false (n % base) ∷ acc) (digits_onto k base false (n / base) (digit_glyph false (n % base) ∷ acc)) (λ xs. line_ends xs ≡ 0)
    (λ _. one) (λ _. none_spelled k base (n / base) (digit_glyph false (n % base) ∷ acc) one)

none_decimal : (n : ℕ) → line_ends (decimal n) ≡ 0
unfolding digits
none_decimal n = none_spelled 64 10 n [] refl

none_hex : (k n : ℕ) → line_ends (hex_text k n) ≡ 0
none_hex zero n = refl
none_hex (suc k) n = none_cons (digit_char (n / 16 ^ k % 16)) (hex_text k n) (glyph_not (n / 16 ^ k % 16)) (none_hex k n)

none_decider : (d : Option ℕ) → line_ends (decider_text d) ≡ 0
none_decider (Some i) = none_decimal i
none_decider None = refl

none_verdict : (v : Verdict) → line_ends (verdict_text v) ≡ 0
none_verdict (Allowed d) = none_append (codes "allow ") (decider_text d) refl (none_decider d)
none_verdict (Fault d cause) =
    none_append (codes "fault ") (decimal cause ++ (32 ∷ decider_text d)) refl
    (none_append (decimal cause) (32 ∷ decider_text d) (none_decimal cause) (none_append (32 ∷ []) (decider_text d) refl (none_decider d)))

none_refusal : (n : ℕ) → line_ends (114 ∷ decimal n) ≡ 0
none_refusal n = none_append (114 ∷ []) (decimal n) refl (none_decimal n)

none_answer : (a : Answer) → line_ends (answer_text a) ≡ 0
none_answer (Word (Ok w)) = none_append (codes "ok ") (hex_text 8 w) refl (none_hex 8 w)
none_answer (Word (Err e)) = none_refusal (refusal_number e)
none_answer (VerdictIs (Ok v)) = none_verdict v
none_answer (VerdictIs (Err e)) = none_refusal (refusal_number e)
none_answer (Range (Some r)) =
    none_append (hex_text 9 r.0) (32 ∷ hex_text 9 r.1) (none_hex 9 r.0) (none_append (32 ∷ []) (hex_text 9 r.1) refl (none_hex 9 r.1))
none_answer (Range None) = refl
none_answer Done = refl

none_reply : (a : Option Answer) → line_ends (reply_text a) ≡ 0
none_reply (Some a) = none_answer a
none_reply None = refl

one_reply : (i : ℕ) (a : Option Answer) → line_ends (reply_line i a) ≡ 1
one_reply i a =
    let front : line_ends (decimal i ++ (32 ∷ reply_text a)) ≡ 0 = none_append (decimal i) (32 ∷ reply_text a) (none_decimal i) (none_append (32 ∷ []) (reply_text a) refl (none_reply a)) in
    ends_append (decimal i) (32 ∷ (reply_text a ++ (10 ∷ [])))
    ∙ omega (arith, ends_append (decimal i) (32 ∷ reply_text a), ends_append (reply_text a) (10 ∷ []))

line_ends_line : (l : List Entry) (i : ℕ) (s : List ℕ) → line_ends (line_text l i s) ≡ cond (is_silent s) 0 1
line_ends_line l i s =
    elim (is_silent s) as (λ (v : Bool). line_ends (cond v [] (reply_line i (option_map (answer_of l) (parse_line s)))) ≡ cond v 0 1) [
      | true ↦ refl
      | false ↦ one_reply i (option_map (answer_of l) (parse_line s))
    ]

line_ends_lines : (l : List Entry) (i : ℕ) (ss : List (List ℕ)) → line_ends (lines_text l i ss) ≡ asking ss
line_ends_lines l i [] = refl
line_ends_lines l i (s ∷ ss) =
    ends_append (line_text l i s) (lines_text (content_line l s) (i + 1) ss)
    ∙ omega (arith, line_ends_line l i s, line_ends_lines (content_line l s) (i + 1) ss)

pub lines_answered : LinesAnswered
lines_answered s h = ap line_ends (within s h) ∙ line_ends_lines blank 0 (script_lines s)
