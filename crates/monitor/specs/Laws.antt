-- The laws of the roll. Each holds over a memory of any length n, after any calls cs.
use Rattle.std.specs.Prelude.{◌≡◌, ℕ, ◌+◌, ◌-◌, ◌%◌, ◌^◌, ◌<◌, ◌≤◌, true, false, List, replicate, Some, Err, ◌≢◌}
use Rattle.std.proofs.lemmas.List.Edits.{sets}
use Rattle.monitor.specs.Content.{after, banked, new_content, roll_of, slot_of}
use Rattle.monitor.specs.Layout.{common_past, first_slot, last_slot, starts}
use Rattle.monitor.specs.Roll.{Accepted, Holds, judges, next, rolled, start}
use Rattle.monitor.specs.Slots.{is_free, is_running, is_unfinished, ranged}
use Rattle.monitor.specs.Theorem.{Lasts, ran}
use Rattle.monitor.specs.declared.call.Call.{Call}
use Rattle.monitor.specs.declared.call.Call.TheVariants.{Create, Enter, Pause, Finish, Destroy, Register}
use Rattle.monitor.specs.declared.slot.Party.TheVariants.{Os, Enclave}
use Rattle.refusals.specs.declared.Refusal.TheVariants.{NotStarted}

pub record RollLaws : Type 0 where
  -- a live range has a slot's number, lies past the two pages and within the memory, and is 2 ^ k bytes at a multiple of that
  pub live_ranges : (n : ℕ) (cs : List Call) (i f t : ℕ)
      → let r = rolled (start n) cs in
      ranged (r.slot i) ≡ Some (f, t)
      → (first_slot ≤ i) × (i ≤ last_slot) × (common_past ≤ f) × (t ≤ n)
      × ((k : ℕ) × (12 ≤ k) × (k ≤ 30) × (t ≡ f + 2 ^ k) × (f % 2 ^ k ≡ 0))
  -- no byte is held by two slots
  pub disjoint : (n : ℕ) (cs : List Call) (i j p : ℕ)
      → let r = rolled (start n) cs in
      Holds r i p → Holds r j p → i ≡ j
  -- the slots at the stage of running are the one that runs: at most one, and none exactly while the operating system runs
  pub one_runs : (n : ℕ) (cs : List Call) (e : ℕ)
      → let r = rolled (start n) cs in
      (is_running (r.slot e) ≡ true → r.turn ≡ Enclave e) × (r.turn ≡ Enclave e → is_running (r.slot e) ≡ true)
  -- an enclave that finished is not entered again until its slot is destroyed
  pub finished_stays : (n : ℕ) (cs ds : List Call) (e w : ℕ)
      → let r = rolled (start n) cs in
      r.turn ≡ Enclave e → judges r (Finish w) ≡ Accepted → Lasts e (next r (Finish w)) ds
      → judges (rolled (next r (Finish w)) ds) (Enter e) ≢ Accepted
  -- while an enclave runs nothing is created, entered or destroyed
  pub only_os : (n : ℕ) (cs : List Call) (e s b k : ℕ)
      → let r = rolled (start n) cs in
      r.turn ≡ Enclave e
      → (judges r (Create s b k) ≢ Accepted) × (judges r (Enter s) ≢ Accepted) × (judges r (Destroy s) ≢ Accepted)
  -- the operating system creates in any free slot, over 2 ^ k bytes at a multiple of that, past the two pages, within the
  -- memory and clear of every live range
  pub create_accepted : (n : ℕ) (cs : List Call) (s b k : ℕ)
      → let r = rolled (start n) cs in
      starts n ≡ true → r.turn ≡ Os → first_slot ≤ s → s ≤ last_slot → is_free (r.slot s) ≡ true
      → 12 ≤ k → k ≤ 30 → b % 2 ^ k ≡ 0 → b + 2 ^ k ≤ n → common_past ≤ b
      → ((i p : ℕ) → Holds r i p → b ≤ p → p < b + 2 ^ k → ⊥)
      → judges r (Create s b k) ≡ Accepted
  -- it enters any live slot that has not finished
  pub enter_accepted : (n : ℕ) (cs : List Call) (s : ℕ)
      → let r = rolled (start n) cs in
      starts n ≡ true → r.turn ≡ Os → first_slot ≤ s → s ≤ last_slot → is_unfinished (r.slot s) ≡ true → judges r (Enter s) ≡ Accepted
  -- it destroys any live slot
  pub destroy_accepted : (n : ℕ) (cs : List Call) (s : ℕ)
      → let r = rolled (start n) cs in
      starts n ≡ true → r.turn ≡ Os → first_slot ≤ s → s ≤ last_slot → is_free (r.slot s) ≡ false → judges r (Destroy s) ≡ Accepted
  -- pause and finish are accepted while an enclave runs, and only then
  pub hand_back : (n : ℕ) (cs : List Call) (e w : ℕ)
      → let r = rolled (start n) cs in
      starts n ≡ true
      → (r.turn ≡ Enclave e → (judges r Pause ≡ Accepted) × (judges r (Finish w) ≡ Accepted))
      × (r.turn ≡ Os → (judges r Pause ≢ Accepted) × (judges r (Finish w) ≢ Accepted))
  -- over a memory that starts no machine every call is refused
  pub not_started : (n : ℕ) (cs : List Call) (c : Call) → starts n ≡ false → judges (rolled (start n) cs) c ≡ Err NotStarted
  -- a write of a register of the bank is refused
  pub register_refused : (n : ℕ) (cs : List Call) (m w : ℕ) → judges (rolled (start n) cs) (Register m w) ≢ Accepted

-- After any calls, an accepted destroy leaves zeros in the slot's range, and every other byte as it was.
pub record DestroysClear : Type 0 where
  pub clears : (bs : List ℕ) (cs : List Call) (s f t : ℕ)
      → let m = ran banked (new_content bs) cs in
      judges (roll_of m) (Destroy s) ≡ Accepted → ranged (slot_of m.slots s) ≡ Some (f, t)
      → (after m (Destroy s)).bytes ≡ sets m.bytes f (replicate (t - f) 0)
