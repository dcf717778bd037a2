-- an item as a line: the name of its operation, and its fields
use Rattle.std.specs.Prelude.{ℕ, cond, List, ◌++◌, codes, decimal, ◌==◌}
use Rattle.tape.specs.declared.item.Item.{Item}
use Rattle.words.specs.Hex.{hex_text}
use Rattle.tape.specs.Sizes.{size_of}

abbrev pub create_text : ℕ → ℕ → ℕ → List ℕ
create_text slot base exponent = codes "create slot " ++ (decimal slot ++ (codes " base " ++ (hex_text base ++ (codes " exponent " ++ decimal exponent))))

abbrev pub load_text : ℕ → ℕ → List ℕ
load_text size address = codes "load size " ++ (decimal size ++ (codes " at " ++ hex_text address))

abbrev pub store_text : ℕ → ℕ → ℕ → List ℕ
store_text size address value = codes "store size " ++ (decimal size ++ (codes " at " ++ (hex_text address ++ (codes " value " ++ hex_text value))))

abbrev pub fetch_text : ℕ → ℕ → List ℕ
fetch_text size address = codes "fetch size " ++ (decimal size ++ (codes " at " ++ hex_text address))

abbrev pub register_text : ℕ → ℕ → List ℕ
register_text number value = codes "register number " ++ (hex_text number ++ (codes " value " ++ hex_text value))

-- by the operation, of which the last stands for every other number too
abbrev pub line_text : ℕ → ℕ → ℕ → ℕ → ℕ → List ℕ
line_text operation slot width address value =
    cond (operation == 1) (create_text slot address value)
    (cond (operation == 2) (codes "enter slot " ++ decimal slot)
    (cond (operation == 3) (codes "pause")
    (cond (operation == 4) (codes "finish value " ++ hex_text value)
    (cond (operation == 5) (codes "destroy slot " ++ decimal slot)
    (cond (operation == 6) (load_text (size_of width) address)
    (cond (operation == 7) (store_text (size_of width) address value)
    (cond (operation == 8) (fetch_text (size_of width) address) (register_text address value))))))))

abbrev pub item_text : Item → List ℕ
item_text i = line_text i.operation i.slot i.width i.address i.value
