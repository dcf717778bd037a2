-- the number of each refusal: the one that a caller is told
use Rattle.std.specs.Prelude.{ℕ}
use Rattle.refusals.specs.declared.Refusal.{Refusal}
use Rattle.refusals.specs.declared.Refusal.TheVariants.{
  Privilege,
  NotMachine,
  NoRegister,
  Kind,
  Size,
  Span,
  NotStarted,
  NoSlot,
  OsNotRunning,
  SlotTaken,
  Exponent,
  Alignment,
  BeyondMemory,
  Overlap,
  SlotFree,
  Finished,
  NoEnclave,
  PartialRecord,
  Operation,
  Fields,
  NoPlace,
  MemoryLength,
}

abbrev pub refusal_number : Refusal → ℕ
refusal_number Privilege = 21
refusal_number NotMachine = 22
refusal_number NoRegister = 23
refusal_number Kind = 24
refusal_number Size = 25
refusal_number Span = 26
refusal_number NotStarted = 27
refusal_number NoSlot = 28
refusal_number OsNotRunning = 29
refusal_number SlotTaken = 30
refusal_number Exponent = 31
refusal_number Alignment = 32
refusal_number BeyondMemory = 33
refusal_number Overlap = 34
refusal_number SlotFree = 35
refusal_number Finished = 36
refusal_number NoEnclave = 37
refusal_number PartialRecord = 38
refusal_number Operation = 39
refusal_number Fields = 40
refusal_number NoPlace = 41
refusal_number MemoryLength = 42
