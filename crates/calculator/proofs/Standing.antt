-- lines that are passed over, and answers that later lines do not change
use Rattle.std.proofs.Common.{◌≡◌, ℕ, ◌+◌, ◌^◌, ◌≤◌, Bool, true, false, eqb, ltb, List, [], ◌∷◌, ◌++◌, map, length, codes, sym, refl, ap, ◌∙◌, arith}
use Rattle.bank.specs.Content.{blank}
use Rattle.bank.specs.declared.entry.Entry.{Entry}
use Rattle.tokens.specs.Cut.{extend}
use Rattle.calculator.specs.Laws.{AnswersStand, CommentsPass}
use Rattle.tokens.specs.Lines.{is_silent, lines, script_lines, without_return}
use Rattle.calculator.specs.Parse.{parse_line}
use Rattle.calculator.specs.Reply.{content_then}
use Rattle.calculator.specs.Run.{answer_of}
use Rattle.calculator.specs.Script.{content_line, line_text, lines_text, reply_line, script_text}
use Rattle.std.proofs.lemmas.List.{append_assoc, length-append, map-append}
use Rattle.std.proofs.lemmas.Bool.{cond-false, cond-true, le-ltb}
use Rattle.std.specs.Option.{option_map}

pub comments_pass : CommentsPass
comments_pass l i s silent = (
  cond-true (is_silent s) [] (reply_line i (option_map (answer_of l) (parse_line s))) silent,
  cond-true (is_silent s) l (content_then l (parse_line s)) silent,
)

-- the lines up to an LF do not depend on what follows it
record Cut (s : List ℕ) : Type 0 where
  first : List ℕ
  others : List (List ℕ)
  cut : (t : List ℕ) → lines (s ++ 10 ∷ t) ≡ first ∷ (others ++ lines t)

lines_front : (s : List ℕ) → Cut s
lines_front [] = record { first = []; others = []; cut = λ t. refl }
lines_front (x ∷ s) = by (eqb x 10) refl (lines_front s)
  where
    by : (v : Bool) → eqb x 10 ≡ v → Cut s → Cut (x ∷ s)
    by true is c =
        record {
          first = [];
          others = c.first ∷ c.others;
          cut = λ t. cond-true (eqb x 10) ([] ∷ lines (s ++ 10 ∷ t)) (extend x (lines (s ++ 10 ∷ t))) is ∙ ap (λ (ls : List (List ℕ)). [] ∷ ls) (c.cut t);
        }
    by false is c =
        record {
          first = x ∷ c.first;
          others = c.others;
          cut = λ t. cond-false (eqb x 10) ([] ∷ lines (s ++ 10 ∷ t)) (extend x (lines (s ++ 10 ∷ t))) is ∙ ap (extend x) (c.cut t);
        }

lines_apart : (s t : List ℕ) → lines (s ++ 10 ∷ t) ≡ lines (s ++ 10 ∷ []) ++ lines t
lines_apart s t =
    let c = lines_front s in
    c.cut t ∙ ap (λ (ls : List (List ℕ)). ls ++ lines t) (sym (c.cut [] ∙ ap (λ (ls : List (List ℕ)). c.first ∷ ls) (none c.others)))
  where
    none : (ls : List (List ℕ)) → ls ++ [] ≡ ls
    none [] = refl
    none (l ∷ ls) = ap (λ (ms : List (List ℕ)). l ∷ ms) (none ls)

text_front : (l : List Entry) (i : ℕ) (ss ts : List (List ℕ)) → (rest : List ℕ) × (lines_text l i (ss ++ ts) ≡ lines_text l i ss ++ rest)
text_front l i [] ts = (lines_text l i ts, refl)
text_front l i (s ∷ ss) ts =
    let f = text_front (content_line l s) (i + 1) ss ts in
    (f.0, ap (λ (t : List ℕ). line_text l i s ++ t) f.1 ∙ sym (append_assoc (line_text l i s) (lines_text (content_line l s) (i + 1) ss) f.0))

pub within : (s : List ℕ) → length s ≤ 2 ^ 20 → script_text s ≡ lines_text blank 0 (script_lines s)
within s h = cond-false (ltb (2 ^ 20) (length s)) (codes "script too long\n") (lines_text blank 0 (script_lines s)) (le-ltb (2 ^ 20) (length s) h)

pub answers_stand : AnswersStand
answers_stand s t h =
    let f = text_front blank 0 (script_lines (s ++ 10 ∷ [])) (script_lines t) in
    let shorter : length (s ++ 10 ∷ []) ≤ 2 ^ 20 = omega (arith, length-append s (10 ∷ t), length-append s (10 ∷ [])) in
    let apart : script_lines (s ++ 10 ∷ t) ≡ script_lines (s ++ 10 ∷ []) ++ script_lines t =
    ap (map without_return) (lines_apart s t) ∙ map-append without_return (lines (s ++ 10 ∷ [])) (lines t) in
    (f.0, within (s ++ 10 ∷ t) h ∙ ap (lines_text blank 0) apart ∙ f.1 ∙ ap (λ (u : List ℕ). u ++ f.0) (sym (within (s ++ 10 ∷ []) shorter)))
