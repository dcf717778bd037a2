use Rattle.std.proofs.Common.{◌+◌, ◌*◌, get_or, arith}
use Rattle.tape.proofs.Records.{encoded_length}
use Rattle.tape.proofs.Parts.{goes, record_more, refused_whole, stops}
use Rattle.tape.proofs.writer.put_records.Goals as goal
use Rattle.tape.proofs.writer.put_records.Goals.{in-Ok, in_default}
use Rattle.tape.specs.Record.{encoded}
use Rattle.tape.specs.Item.{item}

pub loop-i-preserved : goal.loop-i-preserved
loop-i-preserved c =
    elim c.match-encode.branch [
      | in-Ok w ↦ record_more _ _ _ c.loop-i.tape c.args.tape.now w.in-Ok.record w.copy_from_slice.new.self c.match-encode.tape (16 * c.loop-i.i) (16 * (c.loop-i.i + 1))
          c.loop-i.invariant.0 (goes encoded (λ bytes. bytes) c.args.items.now c.loop-i.i _ w.in-Ok.record (omega arith) w.in-Ok.ensures) c.loop-i.invariant.1
          (omega arith) (omega (arith, c.loop-i.auto.tape, c.requires.places)) (encoded_length (get_or c.args.items.now c.loop-i.i (item 0 0 0 0 0)) w.in-Ok.record w.in-Ok.ensures) w.copy_from_slice.ensures.after w.tape-is
      | in_default w ↦ absurd (refused_whole _ _ _ _ c.loop-i.invariant.0
          (stops encoded (λ bytes. bytes) c.args.items.now c.loop-i.i _ w.in_default.field-0 (omega arith) w.in_default.ensures) c.requires.accepted)
    ]
