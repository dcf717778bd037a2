-- the format's text is known with the digits as std writes them
use Rattle.std.proofs.Common.{◌≡◌, ℕ, ◌-◌, ◌^◌, false, List, [], ◌∷◌, ◌++◌, decimal, string_bytes, ap, ◌∙◌, rules}
use Rattle.std.proofs.lemmas.Result.{IfOk-weaker}
use Rattle.std.specs.Fmt.{digits, format_spec, padded_integral}
use Rattle.tape.proofs.Hex.{hex_sixteen}
use Rattle.tape.proofs.line.line.Goals as goal
use Rattle.tape.specs.Line.{code_text, hex_text}

pub returns : goal.returns
returns c =
    let text = λ (l : List ℕ). decimal c.args.index ++ (32 ∷ (code_text c.args.answer ++ (32 ∷ (l ++ (10 ∷ []))))) in
    let same = hex_sixteen c.value-value.result c.value-value.type_inv ∙ ap hex_text c.value-value.ensures in
    IfOk-weaker c.format.result
    (λ t. string_bytes t ≡ text (padded_integral (format_spec 32 0 4 16 (2 ^ 64 - 1)) false [] (digits 16 false c.value-value.result))) _
    (λ t h. h ∙ ap text same) (search rules)
