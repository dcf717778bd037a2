-- a script line by line
use Rattle.std.proofs.Common.{◌≡◌, ℕ, ◌+◌, List, ◌∷◌, ◌++◌, sym, ap, ◌∙◌}
use Rattle.bank.specs.declared.entry.Entry.{Entry}
use Rattle.calculator.specs.Script.{content_line, line_text, lines_text}
use Rattle.std.proofs.lemmas.List.{append_assoc}

-- one line more
pub line_more : (whole text last : List ℕ) (l m : List Entry) (i : ℕ) (ss : List (List ℕ)) (line : List ℕ) (rest : List (List ℕ))
    → text ++ lines_text l i ss ≡ whole → ss ≡ line ∷ rest → last ≡ text ++ line_text l i line → m ≡ content_line l line
    → last ++ lines_text m (i + 1) rest ≡ whole
line_more whole text last l m i ss line rest inv cut added kept =
    ap (λ (t : List ℕ). t ++ lines_text m (i + 1) rest) added
    ∙ ap (λ (k : List Entry). (text ++ line_text l i line) ++ lines_text k (i + 1) rest) kept
    ∙ append_assoc text (line_text l i line) (lines_text (content_line l line) (i + 1) rest)
    ∙ ap (λ (ls : List (List ℕ)). text ++ lines_text l i ls) (sym cut)
    ∙ inv
