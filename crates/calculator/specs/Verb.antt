-- the words that name commands
use Rattle.std.specs.Prelude.{ℕ, ◌^◌, cond, List, [], ◌∷◌, Some, None, codes, Option, nat_lt}
use Rattle.calculator.specs.declared.command.Command.{Command}
use Rattle.calculator.specs.declared.command.Command.TheVariants.{Read, Write, Check, Range, Word, Reset}
use Rattle.calculator.specs.declared.verb.Verb.{Verb}
use Rattle.calculator.specs.declared.verb.Verb.TheVariants.{
  Read as ReadVerb,
  Write as WriteVerb,
  Check as CheckVerb,
  Range as RangeVerb,
  Word as WordVerb,
  Reset as ResetVerb,
}
use Rattle.std.specs.Str.{bytes_eq}

-- the verb that a word names
abbrev pub verb_of : List ℕ → Option Verb
verb_of w =
    cond (bytes_eq w (codes "read")) (Some ReadVerb)
    (cond (bytes_eq w (codes "write")) (Some WriteVerb)
    (cond (bytes_eq w (codes "check")) (Some CheckVerb)
    (cond (bytes_eq w (codes "range")) (Some RangeVerb)
    (cond (bytes_eq w (codes "word")) (Some WordVerb) (cond (bytes_eq w (codes "reset")) (Some ResetVerb) None)))))

-- exactly so many numbers
abbrev pub none : Option Command → List ℕ → Option Command
none c [] = c
none c (n ∷ ns) = None

abbrev pub one : (ℕ → Option Command) → List ℕ → Option Command
one f [] = None
one f (n ∷ ns) = none (f n) ns

abbrev pub two : (ℕ → ℕ → Option Command) → List ℕ → Option Command
two f [] = None
two f (n ∷ ns) = one (f n) ns

abbrev pub three : (ℕ → ℕ → ℕ → Option Command) → List ℕ → Option Command
three f [] = None
three f (n ∷ ns) = two (f n) ns

abbrev pub four : (ℕ → ℕ → ℕ → ℕ → Option Command) → List ℕ → Option Command
four f [] = None
four f (n ∷ ns) = three (f n) ns

-- a word and the numbers after it: the word to write has 32 bits, and an entry's index is below 16
abbrev pub command_of : Verb → List ℕ → Option Command
command_of ReadVerb ns = two (λ p n. Some (Read p n)) ns
command_of WriteVerb ns = three (λ p n w. cond (nat_lt w (2 ^ 32)) (Some (Write p n w)) None) ns
command_of CheckVerb ns = four (λ p k a size. Some (Check p k a size)) ns
command_of RangeVerb ns = one (λ i. cond (nat_lt i 16) (Some (Range i)) None) ns
command_of WordVerb ns = two (λ base k. Some (Word base k)) ns
command_of ResetVerb ns = none (Some Reset) ns
