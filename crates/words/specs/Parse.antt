-- a line as an item
use Rattle.std.specs.Prelude.{ℕ, List, [], ◌∷◌, Some, None, codes, Option}
use Rattle.tokens.specs.Options.{and_then}
use Rattle.tokens.specs.Words.{words}
use Rattle.std.specs.Option.{option_map}
use Rattle.tape.specs.Item.{item}
use Rattle.tape.specs.declared.item.Item.{Item}
use Rattle.words.specs.Fields.{one_of, three_of, two_of}
use Rattle.words.specs.Operation.{operation_named}
use Rattle.tape.specs.Sizes.{width_of}
use Rattle.tape.specs.declared.operation.Operation.{Operation}
use Rattle.tape.specs.declared.operation.Operation.TheVariants.{Create, Enter, Pause, Finish, Destroy, Load, Store, Fetch, Register}

-- the item of an access of a size, where there is such a size
abbrev pub sized : ℕ → ℕ → ℕ → ℕ → Option Item
sized operation size address value = option_map (λ w. item operation 0 w address value) (width_of size)

-- an item without fields
abbrev pub bare : Item → List (List ℕ) → Option Item
bare i [] = Some i
bare i (w ∷ ws) = None

-- the item of an operation and the words after its name
abbrev pub item_of : Operation → List (List ℕ) → Option Item
item_of Create ws = option_map (λ p. item 1 p.0 0 p.1 p.2) (three_of (codes "slot") (codes "base") (codes "exponent") ws)
item_of Enter ws = option_map (λ s. item 2 s 0 0 0) (one_of (codes "slot") ws)
item_of Pause ws = bare (item 3 0 0 0 0) ws
item_of Finish ws = option_map (λ v. item 4 0 0 0 v) (one_of (codes "value") ws)
item_of Destroy ws = option_map (λ s. item 5 s 0 0 0) (one_of (codes "slot") ws)
item_of Load ws = and_then (two_of (codes "size") (codes "at") ws) (λ p. sized 6 p.0 p.1 0)
item_of Store ws = and_then (three_of (codes "size") (codes "at") (codes "value") ws) (λ p. sized 7 p.0 p.1 p.2)
item_of Fetch ws = and_then (two_of (codes "size") (codes "at") ws) (λ p. sized 8 p.0 p.1 0)
item_of Register ws = option_map (λ p. item 9 0 0 p.0 p.1) (two_of (codes "number") (codes "value") ws)

abbrev pub parse_words : List (List ℕ) → Option Item
parse_words [] = None
parse_words (w ∷ ws) = and_then (operation_named w) (λ o. item_of o ws)

abbrev pub parse_line : List ℕ → Option Item
parse_line line = parse_words (words line)
