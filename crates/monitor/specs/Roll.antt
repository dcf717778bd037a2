-- The roll: which slots are live, at which stage and with which ranges, and who runs, told from the memory's length and
-- the calls alone.
use Rattle.std.specs.Prelude.{ℕ, zero, suc, ◌+◌, ◌%◌, ◌^◌, ◌<◌, ◌≤◌, Bool, true, false, cond, not, ◌&&◌, ◌||◌, ◌⊎◌, List, [], ◌∷◌, Some, None, Ok, Option, Result, ◌==◌, ◌≢◌, nat_le}
use Rattle.bank.specs.Ranges.{end}
use Rattle.bank.specs.Verdicts.{is_size}
use Rattle.monitor.specs.Layout.{common_first, common_past, first_slot, last_slot, os_entry, starts}
use Rattle.monitor.specs.Slots.{InRange, is_free, is_unfinished, os_runs, ranged, restaged}
use Rattle.monitor.specs.declared.call.Call.{Call}
use Rattle.monitor.specs.declared.call.Call.TheVariants.{Create, Enter, Pause, Finish, Destroy, Access, Register}
use Rattle.monitor.specs.declared.slot.Party.{Party}
use Rattle.monitor.specs.declared.slot.Party.TheVariants.{Os, Enclave}
use Rattle.monitor.specs.declared.slot.Slot.{Slot}
use Rattle.monitor.specs.declared.slot.Slot.TheVariants.{Free, Fresh, Running, Stopped, Finished}
use Rattle.refusals.specs.Questions.{ruled, ruling}
use Rattle.refusals.specs.declared.Refusal.{Refusal}
use Rattle.refusals.specs.declared.Refusal.TheVariants.{
  NotMachine,
  Kind,
  Size,
  Span,
  NotStarted,
  NoSlot,
  OsNotRunning,
  SlotTaken,
  Exponent,
  Alignment,
  BeyondMemory,
  Overlap,
  SlotFree,
  Finished as AlreadyFinished,
  NoEnclave,
}

pub record Roll : Type 0 where
  pub size : ℕ
  pub slot : ℕ → Slot
  pub turn : Party

-- at first all slots are free and the operating system runs
abbrev pub start : ℕ → Roll
start n = record { size = n; slot = λ _. Free; turn = Os }

-- Questions.

-- a range has no byte in common with the one from b up to t
abbrev pub apart : Option (ℕ × ℕ) → ℕ → ℕ → Bool
apart None b t = true
apart (Some r) b t = nat_le t r.0 || nat_le r.1 b

-- so of the first n slots
unfoldable pub apart_below : (ℕ → Slot) → ℕ → ℕ → ℕ → Bool
apart_below s b t zero = true
apart_below s b t (suc n) = apart (ranged (s n)) b t && apart_below s b t n

-- clear of the two pages and of all live ranges
abbrev pub clear : Roll → ℕ → ℕ → Bool
clear r b t = nat_le common_past b && apart_below r.slot b t os_entry

abbrev pub is_slot : ℕ → Bool
is_slot s = nat_le first_slot s && nat_le s last_slot

-- the questions put to a range of 2 ^ k bytes from b on
abbrev pub range_questions : Roll → ℕ → ℕ → List (Bool × Refusal)
range_questions r b k =
    (nat_le 12 k && nat_le k 30, Exponent) ∷ ((b % 2 ^ k == 0), Alignment) ∷ (nat_le (b + 2 ^ k) r.size, BeyondMemory)
    ∷ (clear r b (b + 2 ^ k), Overlap) ∷ []

-- each call's questions, in order
abbrev pub questions : Roll → Call → List (Bool × Refusal)
questions r (Create s b k) =
    (starts r.size, NotStarted) ∷ (is_slot s, NoSlot) ∷ (os_runs r.turn, OsNotRunning) ∷ (is_free (r.slot s), SlotTaken) ∷ range_questions r b k
questions r (Enter s) =
    (starts r.size, NotStarted) ∷ (is_slot s, NoSlot) ∷ (os_runs r.turn, OsNotRunning) ∷ (not (is_free (r.slot s)), SlotFree)
    ∷ (is_unfinished (r.slot s), AlreadyFinished) ∷ []
questions r Pause = (starts r.size, NotStarted) ∷ (not (os_runs r.turn), NoEnclave) ∷ []
questions r (Finish w) = (starts r.size, NotStarted) ∷ (not (os_runs r.turn), NoEnclave) ∷ []
questions r (Destroy s) =
    (starts r.size, NotStarted) ∷ (is_slot s, NoSlot) ∷ (os_runs r.turn, OsNotRunning) ∷ (not (is_free (r.slot s)), SlotFree) ∷ []
questions r (Access k a n v) =
    (starts r.size, NotStarted) ∷ (nat_le k 2, Kind) ∷ (is_size n, Size) ∷ (nat_le (a + n) end, Span) ∷ []
questions r (Register n w) = (starts r.size, NotStarted) ∷ (false, NotMachine) ∷ []

-- a call is accepted if its questions are all answered yes
abbrev pub Accepted : Result (Unit {0}) Refusal
Accepted = Ok tt

abbrev pub judges : Roll → Call → Result (Unit {0}) Refusal
judges r c = ruling (questions r c)

-- What an accepted call makes of the roll.

unfoldable pub put : (ℕ → Slot) → ℕ → Slot → ℕ → Slot
put f i s j = cond (j == i) s (f j)

-- the enclave that runs is brought to a stage, and the operating system runs
abbrev pub halted : (ℕ × ℕ → Slot) → Roll → Party → Roll
halted stage r Os = r
halted stage r (Enclave e) = record { size = r.size; slot = put r.slot e (restaged stage (r.slot e)); turn = Os }

unfoldable pub accept : Roll → Call → Roll
accept r (Create s b k) = record { size = r.size; slot = put r.slot s (Fresh (b, b + 2 ^ k)); turn = r.turn }
accept r (Enter s) = record { size = r.size; slot = put r.slot s (restaged Running (r.slot s)); turn = Enclave s }
accept r Pause = halted Stopped r r.turn
accept r (Finish w) = halted Finished r r.turn
accept r (Destroy s) = record { size = r.size; slot = put r.slot s Free; turn = r.turn }
accept r (Access k a n v) = r
accept r (Register n w) = r

-- a refused call leaves the roll as it is
unfoldable pub next : Roll → Call → Roll
next r c = ruled (judges r c) (accept r c) (λ _. r)

abbrev pub rolled : Roll → List Call → Roll
rolled r [] = r
rolled r (c ∷ cs) = rolled (next r c) cs

-- What belongs to whom.

-- p lies in the live range of slot e
abbrev pub Holds : Roll → ℕ → ℕ → Type 0
Holds r e p = InRange (ranged (r.slot e)) p

-- p belongs to the party
abbrev pub Belongs : Roll → Party → ℕ → Type 0
Belongs r Os p = (common_past ≤ p) × (p < r.size) × ((i : ℕ) → Holds r i p → ⊥)
Belongs r (Enclave e) p = Holds r e p

-- an access that may be carried out: each byte belongs to the running party, or it is no store and lies in the common page
abbrev pub May : Roll → ℕ → ℕ → ℕ → Type 0
May r kind a n =
    ((p : ℕ) → a ≤ p → p < a + n → Belongs r r.turn p) ⊎ ((kind ≢ 2) × (common_first ≤ a) × (a + n ≤ common_past))

-- Calls made while an enclave runs.

-- the enclave that runs is one of a set of slots
abbrev pub runs_in : Party → (ℕ → Bool) → Bool
runs_in Os E = false
runs_in (Enclave i) E = E i

abbrev pub only : ℕ → ℕ → Bool
only e i = i == e

-- pause and finish
abbrev pub hands_back : Call → Bool
hands_back Pause = true
hands_back (Finish w) = true
hands_back _ = false

-- the call is made while a slot of the set runs, and is neither pause nor finish
abbrev pub within : (ℕ → Bool) → Roll → Call → Bool
within E r c = runs_in r.turn E && not (hands_back c)
