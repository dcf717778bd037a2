-- what every roll keeps: live ranges lie apart, past the two pages and within the memory, and one enclave runs at most
use Rattle.std.proofs.Common.{◌≡◌, ℕ, ◌+◌, ◌%◌, ◌^◌, ◌<◌, ◌≤◌, true, Some}
use Rattle.monitor.specs.Layout.{common_past, first_slot, os_entry}
use Rattle.monitor.specs.Roll.{Holds, Roll}
use Rattle.monitor.specs.Slots.{is_running, ranged}
use Rattle.monitor.specs.declared.slot.Party.TheVariants.{Enclave}

-- a slot's number, and a range of a power of two at a multiple of it
pub record Shaped (i f t : ℕ) : Type 0 where
  pub from_first : first_slot ≤ i
  pub power : ℕ
  pub twelve : 12 ≤ power
  pub thirty : power ≤ 30
  pub to : t ≡ f + 2 ^ power
  pub aligned : f % 2 ^ power ≡ 0

pub record Sound (r : Roll) : Type 0 where
  pub place : (i p : ℕ) → Holds r i p → (i < os_entry) × (common_past ≤ p) × (p < r.size)
  pub one : (i j p : ℕ) → Holds r i p → Holds r j p → i ≡ j
  pub some : (i f t : ℕ) → ranged (r.slot i) ≡ Some (f, t) → f < t
  pub shape : (i f t : ℕ) → ranged (r.slot i) ≡ Some (f, t) → Shaped i f t
  pub at_work : (e : ℕ) → r.turn ≡ Enclave e → is_running (r.slot e) ≡ true
  pub alone : (i : ℕ) → is_running (r.slot i) ≡ true → r.turn ≡ Enclave i
