-- the first line of a text
use Rattle.std.proofs.Common.{◌≡◌, ℕ, ◌<◌, List, [], ◌∷◌, map, length, Some, None, Option, unwrap_or, sym, refl, ap, ◌∙◌, arith, Bor}
use Rattle.tokens.proofs.Cuts.{lines_cut}
use Rattle.tokens.specs.Cut.{after, before}
use Rattle.tokens.specs.Lines.{lines, lines_left, script_lines, without_return}
use Rattle.std.specs.Option.{option_map}

rest_lines : (r : Option (Bor (List ℕ))) (d : Bor (List ℕ)) → d.now ≡ [] → lines_left (option_map (λ x. x.now) r) ≡ lines (unwrap_or r d).now
rest_lines None d empty = sym (ap lines empty)
rest_lines (Some x) d empty = refl

pub first_line : (s line : List ℕ) (r : Option (Bor (List ℕ))) (d rest : Bor (List ℕ)) → 0 < length s → line ≡ without_return (before 10 s)
    → option_map (λ x. x.now) r ≡ after 10 s → d.now ≡ [] → rest ≡ unwrap_or r d → script_lines s ≡ line ∷ script_lines rest.now
first_line [] line r d rest some is left empty tail = absurd (omega arith)
first_line (x ∷ xs) line r d rest some is left empty tail =
    ap (map without_return) (lines_cut x xs)
    ∙ ap (λ (l : List ℕ). l ∷ map without_return (lines_left (after 10 (x ∷ xs)))) (sym is)
    ∙ ap (λ (o : Option (List ℕ)). line ∷ map without_return (lines_left o)) (sym left)
    ∙ ap (λ (ls : List (List ℕ)). line ∷ map without_return ls) (rest_lines r d empty ∙ ap (λ (q : Bor (List ℕ)). lines q.now) (sym tail))
