-- what is said of a fault
use Rattle.std.specs.Prelude.{ℕ, List, ◌++◌, codes, decimal}
use Rattle.refusals.specs.Numbers.{refusal_number}
use Rattle.words.specs.declared.fault.Fault.{Fault}
use Rattle.words.specs.declared.fault.Fault.TheVariants.{Line, Item, Tape, LongTape, LongText, Memory}

abbrev pub fault_text : Fault → List ℕ
fault_text (Line n) = codes "line " ++ (decimal n ++ codes ": this is no item")
fault_text (Item n e) = codes "line " ++ (decimal n ++ (codes ": no tape holds this item, refusal " ++ decimal (refusal_number e)))
fault_text (Tape e) = codes "record " ++ (decimal e.index ++ (codes ": refusal " ++ decimal (refusal_number e.refusal)))
fault_text LongTape = codes "the tape is too long"
fault_text LongText = codes "the text is too long"
fault_text Memory = codes "no memory is left"
