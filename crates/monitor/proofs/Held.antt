-- the bank is a function of the roll, entry by entry
use Rattle.std.proofs.Common.{◌≡◌, ℕ, ◌+◌, ◌-◌, ◌/◌, ◌<◌, ◌≤◌, cond, List, length, Some, None, Option}
use Rattle.bank.specs.Content.{count, entry_of, zero_entry}
use Rattle.bank.specs.declared.entry.Entry.{Entry}
use Rattle.monitor.specs.Layout.{first_slot, opened, os_entry, shut, supervisor, user}
use Rattle.monitor.specs.Roll.{Roll, only, runs_in}
use Rattle.monitor.specs.Slots.{ranged}
use Rattle.monitor.specs.declared.slot.Party.{Party}
use Rattle.monitor.specs.declared.slot.Party.TheVariants.{Os, Enclave}

abbrev pub entry : ℕ → ℕ → Entry
entry byte word = record { config = byte; word = word }

-- the entry of slot i, of some range or none, while w runs
abbrev pub slot_entry : Party → ℕ → Option (ℕ × ℕ) → Entry
slot_entry w i None = zero_entry
slot_entry w i (Some r) = entry (cond (runs_in w (only i)) opened shut) (r.0 / 4 + (r.1 - r.0) / 8 - 1)

-- the entry of the operating system
abbrev pub system_entry : Party → Entry
system_entry Os = entry opened 0xFFFFFFFF
system_entry (Enclave _) = entry 0 0xFFFFFFFF

-- the privilege of the party that runs
abbrev pub rank : Party → ℕ
rank Os = supervisor
rank (Enclave _) = user

-- the bank as it should be, but for the last entry, which is z
pub record But (z : Entry) (l : List Entry) (r : Roll) : Type 0 where
  pub len : length l ≡ count
  pub monitor : entry_of l 0 ≡ entry shut 0x1FF
  pub shared : entry_of l 1 ≡ entry 0x9D 0x5FF
  pub slot : (i : ℕ) → first_slot ≤ i → i < os_entry → entry_of l i ≡ slot_entry r.turn i (ranged (r.slot i))
  pub last : entry_of l os_entry ≡ z

-- the bank as it should be
abbrev pub Held : List Entry → Roll → Type 0
Held l r = But (system_entry r.turn) l r
