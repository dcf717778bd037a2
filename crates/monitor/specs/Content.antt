-- A machine's content: what it holds, what each call is answered, and what it leaves.
use Rattle.std.specs.Prelude.{ℕ, zero, suc, ◌+◌, ◌-◌, ◌*◌, ◌/◌, ◌%◌, ◌^◌, Bool, true, false, cond, ◌&&◌, List, [], ◌∷◌, length, replicate, Some, None, Ok, Err, Option, Result, nat_le, slice_index, slice_index_or, slice_set}
use Rattle.bank.specs.Content.{blank, count}
use Rattle.bank.specs.Registers.{holds, written}
use Rattle.bank.specs.Verdicts.{fault_cause, kind_of, verdict_of}
use Rattle.bank.specs.declared.entry.Entry.{Entry}
use Rattle.bank.specs.declared.verdict.Verdict.{Verdict}
use Rattle.bank.specs.declared.verdict.Verdict.TheVariants.{Allowed, Fault as VerdictFault}
use Rattle.monitor.specs.Bytes.{accessed, low_bytes, stored}
use Rattle.monitor.specs.Layout.{common_word, machine, monitor_word, opened, os_entry, shared, shut, starts, supervisor, system_word, user}
use Rattle.monitor.specs.Roll.{Roll, judges}
use Rattle.monitor.specs.Slots.{moved, ranged}
use Rattle.monitor.specs.Theorem.{System}
use Rattle.monitor.specs.declared.answer.Denial.{Denial}
use Rattle.monitor.specs.declared.answer.Denial.TheVariants.{Fault, Refused}
use Rattle.monitor.specs.declared.answer.Layer.TheVariants.{Protection, Memory}
use Rattle.monitor.specs.declared.call.Call.{Call}
use Rattle.monitor.specs.declared.call.Call.TheVariants.{Create, Enter, Pause, Finish, Destroy, Access, Register}
use Rattle.monitor.specs.declared.slot.Event.{Event}
use Rattle.monitor.specs.declared.slot.Event.TheVariants.{Create as Creates, Enter as Enters, Pause as Pauses, Finish as Finishes, Destroy as Destroys}
use Rattle.monitor.specs.declared.slot.Party.{Party}
use Rattle.monitor.specs.declared.slot.Party.TheVariants.{Os, Enclave}
use Rattle.monitor.specs.declared.slot.Slot.{Slot}
use Rattle.monitor.specs.declared.slot.Slot.TheVariants.{Free}
use Rattle.refusals.specs.Questions.{ruled}
use Rattle.refusals.specs.declared.Refusal.{Refusal}
use Rattle.std.proofs.lemmas.List.Edits.{sets}

pub record Content : Type 0 where
  pub bank : List Entry
  pub privilege : ℕ
  pub slots : List Slot
  pub party : Party
  pub bytes : List ℕ

-- slots are named by their entries
abbrev pub slot_of : List Slot → ℕ → Slot
slot_of l i = slice_index_or l i Free

-- what the machine itself knows of stages, ranges and the running party
abbrev pub roll_of : Content → Roll
roll_of m = record { size = length m.bytes; slot = slot_of m.slots; turn = m.party }

-- The bank is written only through its registers, at machine privilege.

-- the four bytes of a word, least significant first, and the word of four bytes
abbrev pub four : ℕ → List ℕ
four w = (w % 256) ∷ (w / 256 % 256) ∷ (w / 65536 % 256) ∷ (w / 16777216 % 256) ∷ []

abbrev pub word : List ℕ → ℕ
word bs = slice_index bs 0 + slice_index bs 1 * 256 + slice_index bs 2 * 65536 + slice_index bs 3 * 16777216

-- entry s's byte, written with the three others of its register as they are
unfoldable pub configure : List Entry → ℕ → ℕ → List Entry
configure l s byte = written l machine (0x3A0 + s / 4) (word (slice_set (four (holds l (0x3A0 + s / 4))) (s % 4) byte))

-- entry s's word
unfoldable pub address : List Entry → ℕ → ℕ → List Entry
address l s w = written l machine (0x3B0 + s) w

-- the monitor page, the common page and the operating system, written into a new bank
unfoldable pub new_bank : List Entry
new_bank =
    written (written (written (written (written blank machine 0x3B0 monitor_word) machine 0x3B1 common_word) machine 0x3BF system_word)
    machine 0x3A0 (shut + shared * 256))
    machine 0x3A3 (opened * 16777216)

-- over a memory that starts no machine the bank is new
abbrev pub new_content : List ℕ → Content
new_content bs = record { bank = cond (starts (length bs)) new_bank blank; privilege = supervisor; slots = replicate count Free; party = Os; bytes = bs }

-- Accesses.

abbrev pub is_allowed : Result Verdict Refusal → Bool
is_allowed (Ok (Allowed _)) = true
is_allowed (Ok (VerdictFault _ _)) = false
is_allowed (Err _) = false

-- the cause of a fault of a kind of access
abbrev pub cause_of : ℕ → ℕ
cause_of kind = elim (kind_of kind) [ Some k ↦ fault_cause k | None ↦ 0 ]

-- the verdict, then the memory's end, then the bytes
abbrev pub access_answer : Result Verdict Refusal → List ℕ → ℕ → ℕ → ℕ → Result ℕ Denial
access_answer (Ok (Allowed _)) bs kind a n = cond (nat_le (a + n) (length bs)) (Ok (accessed bs kind a n)) (Err (Fault Memory (cause_of kind)))
access_answer (Ok (VerdictFault _ cause)) bs kind a n = Err (Fault Protection cause)
access_answer (Err e) bs kind a n = Err (Refused e)

abbrev pub access_bytes : Result Verdict Refusal → List ℕ → ℕ → ℕ → ℕ → ℕ → List ℕ
access_bytes v bs kind a n value = cond (is_allowed v && nat_le (a + n) (length bs)) (stored bs kind a n value) bs

-- only the bytes change
abbrev pub after_access : Result Verdict Refusal → Content → ℕ → ℕ → ℕ → ℕ → Content
after_access v m kind a n value = record {
  bank = m.bank;
  privilege = m.privilege;
  slots = m.slots;
  party = m.party;
  bytes = access_bytes v m.bytes kind a n value;
}

-- eight zeros stored from p on, if the verdict at machine privilege allows it
abbrev pub wiped_eight : List Entry → List ℕ → ℕ → List ℕ
wiped_eight l bs p = cond (is_allowed (verdict_of l machine 2 p 8)) (sets bs p (low_bytes 8 0)) bs

-- the same n times, eight bytes further each time
unfoldable pub wiped : List Entry → List ℕ → ℕ → ℕ → List ℕ
wiped l bs p zero = bs
wiped l bs p (suc n) = wiped l (wiped_eight l bs p) (p + 8) n

abbrev pub wiped_slot : List Entry → List ℕ → Option (ℕ × ℕ) → List ℕ
wiped_slot l bs None = bs
wiped_slot l bs (Some r) = wiped l bs r.0 ((r.1 - r.0) / 8)

-- Calls that are accepted.

-- the enclave that runs is shut, and the operating system opened
abbrev pub halts : Event → Content → Party → Content
halts event m Os = m
halts event m (Enclave e) = record {
  bank = configure (configure m.bank e shut) os_entry opened;
  privilege = supervisor;
  slots = slice_set m.slots e (moved (slot_of m.slots e) event);
  party = Os;
  bytes = m.bytes;
}

abbrev pub reply : Content → Call → Result ℕ Denial
reply m (Finish w) = Ok w
reply m (Access kind a n v) = access_answer (verdict_of m.bank m.privilege kind a n) m.bytes kind a n
reply m _ = Ok 0

abbrev pub act : Content → Call → Content
act m (Create s b k) = record {
  bank = configure (address m.bank s (b / 4 + 2 ^ (k - 3) - 1)) s shut;
  privilege = m.privilege;
  slots = slice_set m.slots s (moved (slot_of m.slots s) (Creates (b, b + 2 ^ k)));
  party = m.party;
  bytes = m.bytes;
}
act m (Enter s) = record {
  bank = configure (configure m.bank s opened) os_entry 0;
  privilege = user;
  slots = slice_set m.slots s (moved (slot_of m.slots s) Enters);
  party = Enclave s;
  bytes = m.bytes;
}
act m Pause = halts Pauses m m.party
act m (Finish w) = halts Finishes m m.party
act m (Destroy s) = record {
  bank = address (configure m.bank s 0) s 0;
  privilege = m.privilege;
  slots = slice_set m.slots s (moved (slot_of m.slots s) Destroys);
  party = m.party;
  bytes = wiped_slot m.bank m.bytes (ranged (slot_of m.slots s));
}
act m (Access kind a n v) = after_access (verdict_of m.bank m.privilege kind a n) m kind a n v
act m (Register n w) = m

-- Any call: its questions are put to the machine's own roll.

abbrev pub call_answer : Content → Call → Result ℕ Denial
call_answer m c = ruled (judges (roll_of m) c) (reply m c) (λ e. Err (Refused e))

abbrev pub call_after : Content → Call → Content
call_after m c = ruled (judges (roll_of m) c) (act m c) (λ _. m)

-- the same, shut: a run of calls is spoken of without what each of them does
unfoldable pub answer : Content → Call → Result ℕ Denial
answer m c = call_answer m c

unfoldable pub after : Content → Call → Content
after m c = call_after m c

abbrev pub banked : System
banked = record { Machine = Content; make = new_content; answer = answer; after = after; bytes = λ m. m.bytes }
