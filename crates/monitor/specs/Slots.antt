-- slots: their ranges, and what follows from a stage and an event
use Rattle.std.specs.Prelude.{ℕ, ◌<◌, ◌≤◌, Bool, true, false, Some, None, Option}
use Rattle.monitor.specs.declared.slot.Event.{Event}
use Rattle.monitor.specs.declared.slot.Event.TheVariants.{Create, Enter, Pause, Finish, Destroy}
use Rattle.monitor.specs.declared.slot.Party.{Party}
use Rattle.monitor.specs.declared.slot.Party.TheVariants.{Os, Enclave}
use Rattle.monitor.specs.declared.slot.Slot.{Slot}
use Rattle.monitor.specs.declared.slot.Slot.TheVariants.{Free, Fresh, Running, Stopped, Finished}

-- the range of a live slot
abbrev pub ranged : Slot → Option (ℕ × ℕ)
ranged Free = None
ranged (Fresh r) = Some r
ranged (Running r) = Some r
ranged (Stopped r) = Some r
ranged (Finished r) = Some r

abbrev pub is_free : Slot → Bool
is_free Free = true
is_free _ = false

abbrev pub is_unfinished : Slot → Bool
is_unfinished Free = false
is_unfinished (Fresh _) = true
is_unfinished (Running _) = true
is_unfinished (Stopped _) = true
is_unfinished (Finished _) = false

abbrev pub is_running : Slot → Bool
is_running (Running _) = true
is_running _ = false

-- a live slot brought to a stage, with its range
abbrev pub restaged : (ℕ × ℕ → Slot) → Slot → Slot
restaged stage Free = Free
restaged stage (Fresh r) = stage r
restaged stage (Running r) = stage r
restaged stage (Stopped r) = stage r
restaged stage (Finished r) = stage r

-- what a stage and an event make of a slot, or none where they do not go together
abbrev pub next_slot : Slot → Event → Option Slot
next_slot Free (Create r) = Some (Fresh r)
next_slot (Fresh r) Enter = Some (Running r)
next_slot (Fresh _) Destroy = Some Free
next_slot (Running r) Pause = Some (Stopped r)
next_slot (Running r) Finish = Some (Finished r)
next_slot (Stopped r) Enter = Some (Running r)
next_slot (Stopped _) Destroy = Some Free
next_slot (Finished _) Destroy = Some Free
next_slot _ _ = None

-- the slot after an event: where they do not go together it stays
abbrev pub moved : Slot → Event → Slot
moved s e = elim (next_slot s e) [ Some t ↦ t | None ↦ s ]

-- a range holds byte p
abbrev pub InRange : Option (ℕ × ℕ) → ℕ → Type 0
InRange None p = ⊥
InRange (Some r) p = (r.0 ≤ p) × (p < r.1)

-- the operating system is the one that runs
abbrev pub os_runs : Party → Bool
os_runs Os = true
os_runs (Enclave _) = false
