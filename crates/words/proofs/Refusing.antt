-- texts that are refused, and where
use Rattle.std.proofs.Common.{◌^◌, ltb, length, Err, refl}
use Rattle.std.proofs.lemmas.Bool.{cond-true, lt-ltb}
use Rattle.tape.specs.Item.{largest_of}
use Rattle.tokens.specs.Lines.{script_lines}
use Rattle.words.specs.Laws.{LinesRefused}
use Rattle.words.specs.Tapes.{limited, lines_records}
use Rattle.words.specs.declared.fault.Fault.TheVariants.{LongText}

pub lines_refused : LinesRefused
unfolding largest_of
lines_refused =
    record {
      no_item = refl;
      no_record = refl;
      long = λ text h. cond-true (ltb (2 ^ 20) (length text)) (Err LongText) (limited (lines_records 1 (script_lines text))) (lt-ltb (2 ^ 20) (length text) h);
    }
