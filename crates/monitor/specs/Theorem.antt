-- An enclave is closed off: a property of any kind of machine, in terms of its answers, its memory's bytes and the roll.
-- It holds over every list of bytes: where that starts no machine, no call is accepted.
use Rattle.std.specs.Prelude.{◌≡◌, ℕ, ◌+◌, ◌^◌, ◌<◌, ◌≤◌, Bool, true, cond, List, [], ◌∷◌, map, length, Err, Result, ◌≢◌, slice_index, Ok}
use Rattle.monitor.specs.Bytes.{accessed, stored}
use Rattle.monitor.specs.Layout.{common_first, common_past}
use Rattle.monitor.specs.Roll.{Accepted, Holds, May, Roll, judges, next, only, rolled, start, within}
use Rattle.monitor.specs.declared.answer.Denial.{Denial}
use Rattle.monitor.specs.declared.answer.Denial.TheVariants.{Fault, Refused}
use Rattle.monitor.specs.declared.answer.Layer.{Layer}
use Rattle.monitor.specs.declared.call.Call.{Call}
use Rattle.monitor.specs.declared.call.Call.TheVariants.{Create, Destroy, Access}
use Rattle.refusals.specs.declared.Refusal.{Refusal}

-- a kind of machine, seen from outside: how one is made over a memory's bytes, what a call is answered, what it leaves, and
-- the memory's bytes
pub record System : Type 1 where
  pub Machine : Type 0
  pub make : List ℕ → Machine
  pub answer : Machine → Call → Result ℕ Denial
  pub after : Machine → Call → Machine
  pub bytes : Machine → List ℕ

-- calls with their answers, in the order of the calls
abbrev pub Log : Type 0
Log = List (Call × Result ℕ Denial)

abbrev pub calls : Log → List Call
calls = map (λ s. s.0)

abbrev pub log : (S : System) → S.Machine → List Call → Log
log S m [] = []
log S m (c ∷ cs) = (c, S.answer m c) ∷ log S (S.after m c) cs

abbrev pub ran : (S : System) → S.Machine → List Call → S.Machine
ran S m [] = m
ran S m (c ∷ cs) = ran S (S.after m c) cs

-- of a log: what the slots of a set did not do while they ran, pause and finish aside, and what slot e did; r is the roll
-- as the log begins
abbrev pub others : (ℕ → Bool) → Roll → Log → Log
others E r [] = []
others E r (s ∷ l) = cond (within E r s.0) (others E (next r s.0) l) (s ∷ others E (next r s.0) l)

abbrev pub own : ℕ → Roll → Log → Log
own e r [] = []
own e r (s ∷ l) = cond (within (only e) r s.0) (s ∷ own e (next r s.0) l) (own e (next r s.0) l)

-- no call of the list is an accepted destroy of slot e
abbrev pub Lasts : ℕ → Roll → List Call → Type 0
Lasts e r [] = Unit {0}
Lasts e r (c ∷ cs) = (c ≡ Destroy e → judges r c ≢ Accepted) × Lasts e (next r c) cs

-- how an answer judges its call
abbrev pub judged_by : Result ℕ Denial → Result (Unit {0}) Refusal
judged_by (Ok w) = Accepted
judged_by (Err (Fault l n)) = Accepted
judged_by (Err (Refused e)) = Err e

-- two memories have the same byte at each place with a property
abbrev pub Agree : List ℕ → List ℕ → (ℕ → Type 0) → Type 0
Agree xs ys P = (p : ℕ) → P p → slice_index xs p ≡ slice_index ys p

abbrev pub Between : ℕ → ℕ → ℕ → Type 0
Between f t p = (f ≤ p) × (p < t)

-- What a set of slots does while they run is seen in no answer to another, and in no byte outside their live ranges.
abbrev pub Unseen : System → (ℕ → Bool) → Type 0
Unseen S E =
    (bs : List ℕ) (xs ys : List Call)
    → let r = start (length bs) in let m = S.make bs in
    calls (others E r (log S m xs)) ≡ calls (others E r (log S m ys))
    → (others E r (log S m xs) ≡ others E r (log S m ys))
    × Agree (S.bytes (ran S m xs)) (S.bytes (ran S m ys)) (λ p. (i : ℕ) → E i ≡ true → Holds (rolled r xs) i p → ⊥)

pub record ClosedOff (S : System) : Type 0 where
  -- to make a machine changes no byte, and no call changes how many there are
  pub bytes_of_new : (bs : List ℕ) → S.bytes (S.make bs) ≡ bs
  pub length_kept : (bs : List ℕ) (cs : List Call) → length (S.bytes (ran S (S.make bs) cs)) ≡ length bs
  -- after any calls, a call is refused exactly where the roll refuses it, with the same refusal
  pub judged_as_rolled : (bs : List ℕ) (cs : List Call) (c : Call)
      → judged_by (S.answer (ran S (S.make bs) cs) c) ≡ judges (rolled (start (length bs)) cs) c
  -- what slot e does while it runs is unseen elsewhere
  pub unseen_elsewhere : (e : ℕ) → Unseen S (only e)
  -- from an accepted create until its destroy, slot e sees nothing of what others do: two machines, each after any calls,
  -- with the same bytes in its range and in the common page, answer it alike and keep its bytes alike
  pub sees_nothing : (e base k : ℕ) (bs₁ bs₂ : List ℕ) (xs₁ xs₂ ys₁ ys₂ : List Call)
      → let r₁ = rolled (start (length bs₁)) xs₁ in let r₂ = rolled (start (length bs₂)) xs₂ in
      let m₁ = ran S (S.make bs₁) xs₁ in let m₂ = ran S (S.make bs₂) xs₂ in
      let c = Create e base k in
      judges r₁ c ≡ Accepted → judges r₂ c ≡ Accepted
      → Agree (S.bytes m₁) (S.bytes m₂) (Between base (base + 2 ^ k)) → Agree (S.bytes m₁) (S.bytes m₂) (Between common_first common_past)
      → Lasts e (next r₁ c) ys₁ → Lasts e (next r₂ c) ys₂
      → calls (own e (next r₁ c) (log S (S.after m₁ c) ys₁)) ≡ calls (own e (next r₂ c) (log S (S.after m₂ c) ys₂))
      → (own e (next r₁ c) (log S (S.after m₁ c) ys₁) ≡ own e (next r₂ c) (log S (S.after m₂ c) ys₂))
      × Agree (S.bytes (ran S (S.after m₁ c) ys₁)) (S.bytes (ran S (S.after m₂ c) ys₂)) (Between base (base + 2 ^ k))
  -- a well-formed access is carried out exactly where it may be: it then answers and leaves what it should, and otherwise it
  -- faults and leaves every byte as it was
  pub carried_out : (bs : List ℕ) (cs : List Call) (kind a n v : ℕ)
      → let r = rolled (start (length bs)) cs in let m = ran S (S.make bs) cs in let c = Access kind a n v in
      judges r c ≡ Accepted
      → (May r kind a n → (S.answer m c ≡ Ok (accessed (S.bytes m) kind a n)) × (S.bytes (S.after m c) ≡ stored (S.bytes m) kind a n v))
      × (((w : ℕ) × (S.answer m c ≡ Ok w)) → May r kind a n)
      × ((May r kind a n → ⊥)
      → ((layer : Layer) × (cause : ℕ) × (S.answer m c ≡ Err (Fault layer cause))) × (S.bytes (S.after m c) ≡ S.bytes m))
