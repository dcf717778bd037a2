-- a command's line, parsed
use Rattle.std.proofs.Common.{◌≡◌, ℕ, ◌^◌, ◌<◌, true, ltb, List, [], ◌∷◌, ◌++◌, map, Some, None, codes, Option, refl, ap, ◌∙◌, arith}
use Rattle.calculator.proofs.Back.{read_back}
use Rattle.tokens.proofs.Dark.{dark, dark-hex_text, words_front}
use Rattle.tokens.specs.Digits.{hex_text}
use Rattle.calculator.specs.Laws.{arguments, CommandsParse}
use Rattle.tokens.specs.Options.{and_then}
use Rattle.calculator.specs.Parse.{at_most, numbers, parse_line, parse_words}
use Rattle.calculator.specs.Verb.{command_of, verb_of}
use Rattle.tokens.specs.Words.{words}
use Rattle.calculator.specs.declared.command.Command.TheVariants.{Read, Write, Check, Range, Word, Reset}
use Rattle.calculator.specs.declared.verb.Verb.{Verb}
use Rattle.std.proofs.lemmas.Bool.{cond-true, lt-ltb}
use Rattle.std.specs.Option.{option_map}
use Rattle.std.specs.List.{AllByRecursion as All}

words_arguments : (ns : List ℕ) → words (arguments ns) ≡ [] ∷ map (hex_text 16) ns
words_arguments [] = refl
words_arguments (n ∷ ns) =
    ap (λ (ws : List (List ℕ)). [] ∷ ws) (words_front (hex_text 16 n) (arguments ns) (map (hex_text 16) ns) (dark-hex_text 16 n) (words_arguments ns))

numbers_arguments : (ns : List ℕ) → All (λ n. n < 2 ^ 64) ns → numbers (map (hex_text 16) ns) ≡ Some ns
numbers_arguments [] h = refl
numbers_arguments (n ∷ ns) h =
    ap (λ (o : Option ℕ). and_then o (λ m. option_map (λ ms. m ∷ ms) (numbers (map (hex_text 16) ns)))) (read_back 16 n (omega arith) (omega arith) h.0).0
    ∙ ap (option_map (λ ms. n ∷ ms)) (numbers_arguments ns h.1)

-- a name and the numbers after it
parsed : (w ns : List ℕ) (v : Verb) → dark w ≡ true → verb_of w ≡ Some v → All (λ n. n < 2 ^ 64) ns
    → parse_line (w ++ arguments ns) ≡ and_then (at_most 4 (Some ns)) (command_of v)
parsed w ns v t named h =
    ap parse_words (words_front w (arguments ns) (map (hex_text 16) ns) t (words_arguments ns))
    ∙ ap (λ (o : Option Verb). and_then o (λ u. and_then (at_most 4 (numbers (map (hex_text 16) ns))) (command_of u))) named
    ∙ ap (λ (o : Option (List ℕ)). and_then (at_most 4 o) (command_of v)) (numbers_arguments ns h)

pub commands_parse : CommandsParse
commands_parse (Read p n) h = parsed (codes "read") (p ∷ n ∷ []) _ refl refl (h.0, (h.1, tt))
commands_parse (Write p n w) h =
    parsed (codes "write") (p ∷ n ∷ w ∷ []) _ refl refl (h.0, (h.1, (omega (arith, h.2), tt)))
    ∙ cond-true (ltb w (2 ^ 32)) (Some (Write p n w)) None (lt-ltb w (2 ^ 32) h.2)
commands_parse (Check p k a size) h = parsed (codes "check") (p ∷ k ∷ a ∷ size ∷ []) _ refl refl (h.0, (h.1, (h.2, (h.3, tt))))
commands_parse (Range i) h =
    parsed (codes "range") (i ∷ []) _ refl refl (omega arith, tt) ∙ cond-true (ltb i 16) (Some (Range i)) None (lt-ltb i 16 h)
commands_parse (Word base k) h = parsed (codes "word") (base ∷ k ∷ []) _ refl refl (h.0, (h.1, tt))
commands_parse Reset h = refl
