-- a line as a command
use Rattle.std.specs.Prelude.{ℕ, cond, List, [], ◌∷◌, length, Some, None, Option, ◌==◌, nat_le}
use Rattle.calculator.specs.Numbers.{number_value}
use Rattle.tokens.specs.Options.{and_then}
use Rattle.calculator.specs.Verb.{command_of, verb_of}
use Rattle.tokens.specs.Words.{words}
use Rattle.calculator.specs.declared.command.Command.{Command}
use Rattle.std.specs.Option.{option_map}

-- words that are all numbers
abbrev pub numbers : List (List ℕ) → Option (List ℕ)
numbers [] = Some []
numbers (w ∷ ws) = and_then (number_value w) (λ n. option_map (λ ns. n ∷ ns) (numbers ws))

-- not more than k of them
abbrev pub at_most : ℕ → Option (List ℕ) → Option (List ℕ)
at_most k None = None
at_most k (Some ns) = cond (nat_le (length ns) k) (Some ns) None

-- exactly k of them
abbrev pub exactly : ℕ → Option (List ℕ) → Option (List ℕ)
exactly k None = None
exactly k (Some ns) = cond (length ns == k) (Some ns) None

-- the first word names the command, and the others are its numbers, of which no command has more than four
abbrev pub parse_words : List (List ℕ) → Option Command
parse_words [] = None
parse_words (w ∷ ws) = and_then (verb_of w) (λ v. and_then (at_most 4 (numbers ws)) (command_of v))

abbrev pub parse_line : List ℕ → Option Command
parse_line line = parse_words (words line)
