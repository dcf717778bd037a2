-- The plain machine, a step on the way of the proof: the roll itself decides protection.
use Rattle.std.proofs.Common.{ℕ, ◌+◌, ◌-◌, Bool, false, cond, not, ◌&&◌, ◌||◌, eqb, leb, List, length, replicate, Some, None, Option, Ok, Err, Result}
use lib.Seq.{sets}
use Rattle.monitor.specs.Bytes.{accessed, stored}
use Rattle.monitor.specs.Content.{cause_of}
use Rattle.monitor.specs.Layout.{common_first, common_past}
use Rattle.monitor.specs.Roll.{Roll, clear, judges, next, start}
use Rattle.monitor.specs.Slots.{ranged}
use Rattle.monitor.specs.Theorem.{System}
use Rattle.monitor.specs.declared.answer.Denial.{Denial}
use Rattle.monitor.specs.declared.answer.Denial.TheVariants.{Fault, Refused}
use Rattle.monitor.specs.declared.answer.Layer.TheVariants.{Protection, Memory}
use Rattle.monitor.specs.declared.call.Call.{Call}
use Rattle.monitor.specs.declared.call.Call.TheVariants.{Finish, Destroy, Access}
use Rattle.monitor.specs.declared.slot.Party.{Party}
use Rattle.monitor.specs.declared.slot.Party.TheVariants.{Os, Enclave}
use Rattle.refusals.specs.Questions.{ruled}

-- a range holds every byte from a up to t
abbrev pub covers : Option (ℕ × ℕ) → ℕ → ℕ → Bool
covers None a t = false
covers (Some r) a t = leb r.0 a && leb t r.1

abbrev pub permits_turn : Roll → Party → ℕ → ℕ → Bool
permits_turn r Os a t = clear r a t
permits_turn r (Enclave e) a t = covers (ranged (r.slot e)) a t

abbrev pub common : ℕ → ℕ → ℕ → Bool
common kind a t = not (eqb kind 2) && (leb common_first a && leb t common_past)

unfoldable pub permits : Roll → ℕ → ℕ → ℕ → Bool
permits r kind a t = common kind a t || permits_turn r r.turn a t

abbrev pub wipe : Option (ℕ × ℕ) → List ℕ → List ℕ
wipe None bs = bs
wipe (Some r) bs = sets bs r.0 (replicate (r.1 - r.0) 0)

unfoldable pub plain_access_answer : Roll → List ℕ → ℕ → ℕ → ℕ → Result ℕ Denial
plain_access_answer r bs kind a n =
    cond (permits r kind a (a + n))
    (cond (leb (a + n) (length bs)) (Ok (accessed bs kind a n)) (Err (Fault Memory (cause_of kind))))
    (Err (Fault Protection (cause_of kind)))

unfoldable pub plain_access_bytes : Roll → List ℕ → ℕ → ℕ → ℕ → ℕ → List ℕ
plain_access_bytes r bs kind a n v = cond (permits r kind a (a + n) && leb (a + n) (length bs)) (stored bs kind a n v) bs

abbrev pub accepted_answer : Roll → List ℕ → Call → Result ℕ Denial
accepted_answer r bs (Finish w) = Ok w
accepted_answer r bs (Access k a n v) = plain_access_answer r bs k a n
accepted_answer r bs _ = Ok 0

abbrev pub accepted_bytes : Roll → List ℕ → Call → List ℕ
accepted_bytes r bs (Destroy s) = wipe (ranged (r.slot s)) bs
accepted_bytes r bs (Access k a n v) = plain_access_bytes r bs k a n v
accepted_bytes r bs _ = bs

pub record Simple : Type 0 where
  pub roll : Roll
  pub bytes : List ℕ

unfoldable pub plain_answer : Roll → List ℕ → Call → Result ℕ Denial
plain_answer r bs c = ruled (judges r c) (accepted_answer r bs c) (λ e. Err (Refused e))

unfoldable pub plain_after : Roll → List ℕ → Call → List ℕ
plain_after r bs c = ruled (judges r c) (accepted_bytes r bs c) (λ _. bs)

abbrev pub plain : System
plain = record {
  Machine = Simple;
  make = λ bs. record { roll = start (length bs); bytes = bs };
  answer = λ m c. plain_answer m.roll m.bytes c;
  after = λ m c. record { roll = next m.roll c; bytes = plain_after m.roll m.bytes c };
  bytes = λ m. m.bytes;
}
