-- worked examples, shown of the definitions: which memories start a machine, and calls over 65,536 bytes
use Rattle.std.specs.Prelude.{◌≡◌, ℕ, ◌+◌, ◌^◌, true, false, List, [], ◌∷◌, length, replicate, slice_set, Ok, Err}
use Rattle.bank.specs.Content.{entry_of, zero_entry}
use Rattle.bank.specs.Registers.{holds}
use Rattle.bank.specs.declared.entry.Entry.{Entry}
use Rattle.monitor.specs.Bytes.{low_bytes, number}
use Rattle.monitor.specs.Content.{Content, call_after, call_answer, new_content}
use Rattle.monitor.specs.Layout.{starts}
use Rattle.monitor.specs.declared.answer.Denial.TheVariants.{Fault, Refused}
use Rattle.monitor.specs.declared.answer.Layer.TheVariants.{Memory, Protection}
use Rattle.monitor.specs.declared.call.Call.TheVariants.{Access, Create, Enter, Finish, Pause, Register}
use Rattle.monitor.specs.declared.slot.Party.{Party}
use Rattle.monitor.specs.declared.slot.Party.TheVariants.{Enclave, Os}
use Rattle.monitor.specs.declared.slot.Slot.{Slot}
use Rattle.monitor.specs.declared.slot.Slot.TheVariants.{Finished, Free, Fresh, Running, Stopped}
use Rattle.refusals.specs.declared.Refusal.TheVariants.{Alignment, BeyondMemory, Exponent, Finished as AlreadyFinished, Kind, NoEnclave, NoSlot, NotMachine, OsNotRunning, Overlap, Size, SlotFree, SlotTaken, Span}

-- a new machine after slot 2 was created over the 4,096 bytes from 0x4000 on
abbrev pub created : List ℕ → Content
created bs = call_after (new_content bs) (Create 2 0x4000 12)

-- and then was entered, and then paused
abbrev pub entered : List ℕ → Content
entered bs = call_after (created bs) (Enter 2)

abbrev pub paused : List ℕ → Content
paused bs = call_after (entered bs) Pause

-- or finished with a word
abbrev pub finished : List ℕ → ℕ → Content
finished bs w = call_after (entered bs) (Finish w)

abbrev pub entry : ℕ → ℕ → Entry
entry b w = record { config = b; word = w }

-- a machine with slot 2 alone: the slot's byte and the system's, the privilege, the slot, who runs, and the bytes
abbrev pub with_slot : ℕ → ℕ → ℕ → Slot → Party → List ℕ → Content
with_slot byte os p slot party bs =
    record {
      bank = entry 0x18 0x1FF ∷ entry 0x9D 0x5FF ∷ entry byte 0x11FF ∷ slice_set (replicate 13 zero_entry) 12 (entry os 0xFFFFFFFF);
      privilege = p;
      slots = slice_set (replicate 16 Free) 2 slot;
      party = party;
      bytes = bs;
    }

pub record MachineExamples : Type 0 where
  -- memories that start a machine, and some that do not
  pub shortest : starts 16384 ≡ true
  pub too_short : starts 12288 ≡ false
  pub longest : starts (2 ^ 34) ≡ true
  pub too_long : starts (2 ^ 34 + 4096) ≡ false
  pub a_page_more : starts 20480 ≡ true
  pub half_a_page_more : starts 18432 ≡ false
  -- creates
  pub create_done : (bs : List ℕ) → length bs ≡ 65536 → call_answer (new_content bs) (Create 2 0x4000 12) ≡ Ok 0
  pub create_word : (bs : List ℕ) → length bs ≡ 65536 → (entry_of (created bs).bank 2).word ≡ 0x11FF
  pub create_bytes : (bs : List ℕ) → length bs ≡ 65536 → holds (created bs).bank 0x3A0 ≡ 0x00189D18
  pub misaligned : (bs : List ℕ) → length bs ≡ 65536 → call_answer (created bs) (Create 3 0x4800 12) ≡ Err (Refused Alignment)
  pub past_the_end : (bs : List ℕ) → length bs ≡ 65536 → call_answer (created bs) (Create 3 0x10000 12) ≡ Err (Refused BeyondMemory)
  pub over_another : (bs : List ℕ) → length bs ≡ 65536 → call_answer (created bs) (Create 3 0x4000 13) ≡ Err (Refused Overlap)
  pub at_the_end : (bs : List ℕ) → length bs ≡ 65536 → call_answer (created bs) (Create 3 0xF000 12) ≡ Ok 0
  pub last_slot : (bs : List ℕ) → length bs ≡ 65536 → call_answer (created bs) (Create 14 0xF000 12) ≡ Ok 0
  -- the order of the questions: where several are answered no, the first refuses
  pub slot_asked : (bs : List ℕ) → length bs ≡ 65536 → call_answer (entered bs) (Create 15 0x10001 31) ≡ Err (Refused NoSlot)
  pub system_asked : (bs : List ℕ) → length bs ≡ 65536 → call_answer (entered bs) (Create 2 0x10001 31) ≡ Err (Refused OsNotRunning)
  pub free_asked : (bs : List ℕ) → length bs ≡ 65536 → call_answer (created bs) (Create 2 0x10001 31) ≡ Err (Refused SlotTaken)
  pub exponent_asked : (bs : List ℕ) → length bs ≡ 65536 → call_answer (created bs) (Create 3 0x10001 31) ≡ Err (Refused Exponent)
  pub alignment_asked : (bs : List ℕ) → length bs ≡ 65536 → call_answer (created bs) (Create 3 0x10001 12) ≡ Err (Refused Alignment)
  pub end_asked : (bs : List ℕ) → length bs ≡ 65536 → call_answer (created bs) (Create 3 0 17) ≡ Err (Refused BeyondMemory)
  pub kind_asked : (bs : List ℕ) → length bs ≡ 65536 → call_answer (created bs) (Access 3 0x400000000 3 0) ≡ Err (Refused Kind)
  pub size_asked : (bs : List ℕ) → length bs ≡ 65536 → call_answer (created bs) (Access 2 0x400000000 3 0) ≡ Err (Refused Size)
  pub span_asked : (bs : List ℕ) → length bs ≡ 65536 → call_answer (created bs) (Access 2 0x400000000 8 0) ≡ Err (Refused Span)
  pub live_asked : (bs : List ℕ) → length bs ≡ 65536 → call_answer (created bs) (Enter 3) ≡ Err (Refused SlotFree)
  pub unfinished_asked : (w : ℕ) (bs : List ℕ) → length bs ≡ 65536 → call_answer (finished bs w) (Enter 2) ≡ Err (Refused AlreadyFinished)
  pub enclave_asked : (bs : List ℕ) → length bs ≡ 65536 → call_answer (created bs) Pause ≡ Err (Refused NoEnclave)
  pub privilege_asked : (bs : List ℕ) → length bs ≡ 65536 → call_answer (created bs) (Register 0x3A0 0) ≡ Err (Refused NotMachine)
  -- all that create, enter, pause and finish leave, and what finish answers
  pub create_leaves : (bs : List ℕ) → length bs ≡ 65536 → created bs ≡ with_slot 0x18 0x1F 1 (Fresh (0x4000, 0x5000)) Os bs
  pub enter_leaves : (bs : List ℕ) → length bs ≡ 65536 → entered bs ≡ with_slot 0x1F 0 0 (Running (0x4000, 0x5000)) (Enclave 2) bs
  pub pause_leaves : (bs : List ℕ) → length bs ≡ 65536 → paused bs ≡ with_slot 0x18 0x1F 1 (Stopped (0x4000, 0x5000)) Os bs
  pub finish_leaves : (w : ℕ) (bs : List ℕ) → length bs ≡ 65536 → finished bs w ≡ with_slot 0x18 0x1F 1 (Finished (0x4000, 0x5000)) Os bs
  pub finish_answers : (w : ℕ) (bs : List ℕ) → length bs ≡ 65536 → call_answer (entered bs) (Finish w) ≡ Ok w
  -- accesses: the least significant byte first; the verdict, and then the memory's end
  pub least_read : number (0x44 ∷ 0x33 ∷ 0x22 ∷ 0x11 ∷ []) 0 4 ≡ 0x11223344
  pub least_put : low_bytes 4 0x11223344 ≡ 0x44 ∷ 0x33 ∷ 0x22 ∷ 0x11 ∷ []
  pub verdict_asked : (bs : List ℕ) → length bs ≡ 65536 → call_answer (entered bs) (Access 1 0xFFFC 8 0) ≡ Err (Fault Protection 5)
  pub store_past : (bs : List ℕ) → length bs ≡ 65536 → call_answer (new_content bs) (Access 2 0xFFFC 8 0) ≡ Err (Fault Memory 7)
  pub load_past : (bs : List ℕ) → length bs ≡ 65536 → call_answer (new_content bs) (Access 1 0xFFFC 8 0) ≡ Err (Fault Memory 5)
