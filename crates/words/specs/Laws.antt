-- what holds of every item and every tape
use Rattle.std.specs.Prelude.{◌≡◌, ℕ, ◌^◌, ◌<◌, List, length, Some, Ok, Err, codes}
use Rattle.refusals.specs.declared.Refusal.TheVariants.{Fields}
use Rattle.std.specs.Int.Digits.{AllBelowBase}
use Rattle.tape.specs.Record.{encoded}
use Rattle.tape.specs.declared.item.Item.{Item}
use Rattle.words.specs.Line.{item_text}
use Rattle.words.specs.Parse.{parse_line}
use Rattle.words.specs.Tapes.{tape_text, text_tape}
use Rattle.words.specs.declared.fault.Fault.TheVariants.{Item as ItemRefused, Line, LongText}

-- the line of every item that a tape holds is read as that item
abbrev pub ItemsReadBack : Type 0
ItemsReadBack = (i : Item) (bytes : List ℕ) → encoded i ≡ Ok bytes → parse_line (item_text i) ≡ Some i

-- texts that are refused: the number of the first bad line, and why
pub record LinesRefused : Type 0 where
  pub no_item : text_tape (codes "pause\n\nno\npause\n") ≡ Err (Line 3)
  pub no_record : text_tape (codes "enter slot 16\n") ≡ Err (ItemRefused 1 Fields)
  pub long : (text : List ℕ) → 2 ^ 20 < length text → text_tape text ≡ Err LongText

-- the text of every tape of bytes gives that tape back
abbrev pub TapesReadBack : Type 0
TapesReadBack = (tape text : List ℕ) → AllBelowBase 256 tape → tape_text tape ≡ Ok text → text_tape text ≡ Ok tape
