-- laws of the tape over its definitions, in the subject's words; the contracts of its calls carry them
use Rattle.std.specs.Prelude.{◌≡◌, ℕ, ◌*◌, ◌/◌, ◌<◌, ◌≤◌, List, [], ◌∷◌, length, Ok, Err, codes}
use Rattle.machine.specs.declared.machine.Machine.{Machine}
use Rattle.memory.specs.Meaning.{ByteMemory, WordMemory}
use Rattle.memory.specs.declared.pair.PairMemory.{PairMemory}
use Rattle.monitor.specs.Content.{Content, banked, new_content}
use Rattle.monitor.specs.Theorem.{log}
use Rattle.monitor.specs.declared.call.Call.{Call}
use Rattle.refusals.specs.declared.Refusal.TheVariants.{NoPlace, Operation}
use Rattle.std.specs.Int.Digits.{AllBelowBase}
use Rattle.tape.specs.Calls.{call_of, calls_of, item_of}
use Rattle.tape.specs.Item.{item}
use Rattle.tape.specs.Reader.{read_tape}
use Rattle.tape.specs.Refusal.{refused_at}
use Rattle.tape.specs.Reports.{limit, report_after, report_text, short_tape}
use Rattle.tape.specs.Writer.{write_tape}
use Rattle.tape.specs.declared.item.Item.{Item}

-- An item that is accepted is exactly one call, and no other item is that call.
pub record OneCall : Type 0 where
  pub item_back : (i : Item) (c : Call) → call_of i ≡ Ok c → item_of c ≡ Ok i
  pub call_back : (c : Call) (i : Item) → item_of c ≡ Ok i → call_of i ≡ Ok c

-- What is written is read back unchanged, into as many places or more.
pub record ReadsBack : Type 0 where
  pub back : (items : List Item) (room places : ℕ) (tape : List ℕ)
      → write_tape items room ≡ Ok tape → length items ≤ places → read_tape tape places ≡ Ok items
  pub long : (items : List Item) (room : ℕ) (tape : List ℕ) → write_tape items room ≡ Ok tape → length tape ≡ 16 * length items
  -- three items and room for two records
  pub full : (x y z : Item) → write_tape (x ∷ y ∷ z ∷ []) 33 ≡ Err (refused_at NoPlace 2)
  -- a pause, and then an operation that there is not
  pub second : write_tape (item 3 0 0 0 0 ∷ item 0 0 0 0 0 ∷ []) 32 ≡ Err (refused_at Operation 1)

-- A tape of bytes that is read is the only one that gives its items, and to write them gives it back.
pub record OneTape : Type 0 where
  pub only : (s t : List ℕ) (m n : ℕ) (items : List Item)
      → AllBelowBase 256 s → AllBelowBase 256 t → read_tape s m ≡ Ok items → read_tape t n ≡ Ok items → s ≡ t
  pub back : (tape : List ℕ) (places room : ℕ) (items : List Item)
      → AllBelowBase 256 tape → read_tape tape places ≡ Ok items → length tape ≤ room → write_tape items room ≡ Ok tape
  -- two pauses and one place
  pub one_place : read_tape
      (0x30 ∷ 0 ∷ 0 ∷ 0 ∷ 0 ∷ 0 ∷ 0 ∷ 0 ∷ 0 ∷ 0 ∷ 0 ∷ 0 ∷ 0 ∷ 0 ∷ 0 ∷ 0 ∷ 0x30 ∷ 0 ∷ 0 ∷ 0 ∷ 0 ∷ 0 ∷ 0 ∷ 0 ∷ 0 ∷ 0 ∷ 0 ∷ 0 ∷ 0 ∷ 0 ∷ 0 ∷ 0 ∷ []) 1
      ≡ Err (refused_at NoPlace 1)
  -- slot 2, base 0x4000, exponent 12: a create
  pub create : read_tape (0x12 ∷ 0 ∷ 0 ∷ 0 ∷ 0 ∷ 0 ∷ 0x40 ∷ 0 ∷ 0 ∷ 0 ∷ 0 ∷ 0 ∷ 0 ∷ 0 ∷ 0 ∷ 0x0C ∷ []) 1 ≡ Ok (item 1 2 0 0x4000 12 ∷ [])

-- What a report is of any tape.
pub record ReportLaws : Type 0 where
  -- each record of a tape that is run has its own answer
  pub each : (m : Content) (tape : List ℕ) (items : List Item) → short_tape tape ≡ Ok items → length (log banked m (calls_of items)) ≡ length tape / 16
  -- an empty tape has no lines
  pub empty : (m : Content) → (report_text m [] ≡ []) × (report_after m [] ≡ m)
  -- a tape that is too long is refused, whole records or not
  pub too_long : (m : Content) (tape : List ℕ) → limit < length tape → (report_text m tape ≡ codes "tape 41 4096\n") × (report_after m tape ≡ m)

-- New machines give the same text if their memories hold the same bytes, whatever the kinds of memory.
pub record SameText : Type 0 where
  pub any : (m n : Content) (bs tape : List ℕ) → m ≡ new_content bs → n ≡ new_content bs → report_text m tape ≡ report_text n tape
  -- so do one over a buffer of bytes and the box as it ships
  pub shipped : (m : Machine ByteMemory) (n : Machine (PairMemory WordMemory WordMemory)) (bs tape : List ℕ)
      → m.content ≡ new_content bs → n.content ≡ new_content bs → report_text m.content tape ≡ report_text n.content tape
