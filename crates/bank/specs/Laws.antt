-- laws of the bank over its definitions, in the subject's words; the contracts of its calls carry them
use Rattle.std.specs.Prelude.{◌≡◌, ℕ, ◌+◌, ◌-◌, ◌*◌, ◌/◌, ◌%◌, ◌^◌, ◌<◌, ◌≤◌, Bool, true, false, cond, not, ◌&&◌, ◌||◌, ◌⊎◌, List, ◌∷◌, ◌++◌, length, Some, None, Ok, Option, MatchOption, ◌==◌, ◌≢◌, bit_and}
use Rattle.bank.specs.Clean.{Clean}
use Rattle.bank.specs.Content.{blank, bounds_locked_above, count, entry_of, is_locked, stored_byte}
use Rattle.bank.specs.Ranges.{napot_range, range_of, range_word}
use Rattle.bank.specs.Registers.{is_bytes_register, written}
use Rattle.bank.specs.Runs.{Change, Write, after_changes, after_write, after_writes, resets}
use Rattle.bank.specs.Verdicts.{fault_cause, kind_of, needed_bit, verdict_of}
use Rattle.bank.specs.declared.entry.Entry.{Entry}
use Rattle.bank.specs.declared.verdict.Kind.{Kind}
use Rattle.bank.specs.declared.verdict.Verdict.{Verdict}
use Rattle.bank.specs.declared.verdict.Verdict.TheVariants.{Allowed, Fault}

-- entry i is locked
abbrev pub Locked : List Entry → ℕ → Type 0
Locked l i = is_locked (entry_of l i).config ≡ true

-- Through any writes a locked entry keeps its byte, its word and its range.
pub record LocksStand : Type 0 where
  pub entry : (l : List Entry) (ws : List Write) (i : ℕ) → Locked l i → entry_of (after_writes l ws) i ≡ entry_of l i
  pub range : (l : List Entry) (ws : List Write) (i : ℕ) → i < count → Locked l i → range_of (after_writes l ws) i ≡ range_of l i

-- Nothing but a reset releases a lock.
pub record OnlyResetsRelease : Type 0 where
  pub released : (l : List Entry) (cs : List Change) (i : ℕ)
      → Locked l i → (Locked (after_changes l cs) i → ⊥)
      → (before : List Change) × (after : List Change) × (cs ≡ before ++ (resets ∷ after))

-- Whatever is written to a new bank, no stored byte has bit 6 or 5, or W without R.
pub record AlwaysClean : Type 0 where
  pub clean : (cs : List Change) → Clean (after_changes blank cs)

-- the write puts its word into entry i: at machine privilege, to register 0x3B0 + i, while the word is not held by a lock
abbrev pub puts_word : List Entry → ℕ → Write → Bool
puts_word l i w =
    (w.privilege == 3) && (w.number == 0x3B0 + i && not (is_locked (entry_of l i).config || bounds_locked_above l i))

-- no write of the list puts its word into entry i
abbrev pub PutsNone : List Entry → ℕ → List Write → Type 0
PutsNone l i ws =
    (before : List Write) (w : Write) (after : List Write) → ws ≡ before ++ (w ∷ after) → puts_word (after_writes l before) i w ≡ false

-- w is the last write of the list that puts its word into entry i
abbrev pub PutsLast : List Entry → ℕ → List Write → Write → Type 0
PutsLast l i ws w =
    (before : List Write) × (after : List Write) × (ws ≡ before ++ (w ∷ after)) × (puts_word (after_writes l before) i w ≡ true)
    × PutsNone (after_write (after_writes l before) w) i after

-- Each word of a bank that was new is what was last written to it while it was not held, or 0.
pub record WordsLastWritten : Type 0 where
  pub word : (ws : List Write) (i : ℕ) → i < count
      → (PutsNone blank i ws × ((entry_of (after_writes blank ws) i).word ≡ 0))
      ⊎ ((w : Write) × PutsLast blank i ws w × ((entry_of (after_writes blank ws) i).word ≡ w.word))

-- entry k after a write of the byte b, by the lock that stood before
abbrev pub byte_written : List Entry → ℕ → ℕ → Entry
byte_written l k b =
    cond (is_locked (entry_of l k).config) (entry_of l k) (record { config = stored_byte b; word = (entry_of l k).word })

-- In a write of four bytes the locks before the write decide each of them, and no other entry changes.
pub record OldLocksDecide : Type 0 where
  pub each : (l : List Entry) (n w t : ℕ) → length l ≡ count → is_bytes_register n ≡ true → t < 4
      → let k = 4 * (n - 0x3A0) + t in entry_of (written l 3 n w) k ≡ byte_written l k (w / 256 ^ t % 256)
  pub others : (l : List Entry) (n w k : ℕ) → length l ≡ count → is_bytes_register n ≡ true
      → (k < 4 * (n - 0x3A0)) ⊎ (4 * (n - 0x3A0) + 4 ≤ k) → entry_of (written l 3 n w) k ≡ entry_of l k

-- the range of entry i holds byte b
abbrev pub Holds : List Entry → ℕ → ℕ → Type 0
Holds l i b = MatchOption (range_of l i) ⊥ (λ r. (r.0 ≤ b) × (b < r.1))

-- the range of entry i holds some byte of the span, none, or all
abbrev pub HoldsSome : List Entry → ℕ × ℕ → ℕ → Type 0
HoldsSome l s i = (b : ℕ) × (s.0 ≤ b) × (b < s.1) × Holds l i b

abbrev pub HoldsNone : List Entry → ℕ × ℕ → ℕ → Type 0
HoldsNone l s i = (b : ℕ) → s.0 ≤ b → b < s.1 → Holds l i b → ⊥

abbrev pub HoldsAll : List Entry → ℕ × ℕ → ℕ → Type 0
HoldsAll l s i = (b : ℕ) → s.0 ≤ b → b < s.1 → Holds l i b

-- entry i, or none, is the lowest whose range holds any byte of the span
abbrev pub Lowest : List Entry → ℕ × ℕ → Option ℕ → Type 0
Lowest l s None = (j : ℕ) → j < count → HoldsNone l s j
Lowest l s (Some i) = (i < count) × HoldsSome l s i × ((j : ℕ) → j < i → HoldsNone l s j)

-- what the deciding entry, or none, lets an access do: all its bytes are covered, and either machine privilege meets no
-- lock or the needed bit is set; where none decides, machine privilege alone is let through
abbrev pub Lets : List Entry → ℕ → Kind → ℕ × ℕ → Option ℕ → Type 0
Lets l p k s None = p ≡ 3
Lets l p k s (Some i) =
    HoldsAll l s i
    × (((p ≡ 3) × (is_locked (entry_of l i).config ≡ false)) ⊎ (bit_and (entry_of l i).config (needed_bit k) ≢ 0))

-- a verdict names the lowest entry, and follows from that entry alone; a fault has its kind's cause
abbrev pub Follows : List Entry → ℕ → Kind → ℕ × ℕ → Verdict → Type 0
Follows l p k s (Allowed o) = Lowest l s o × Lets l p k s o
Follows l p k s (Fault o cause) = Lowest l s o × (Lets l p k s o → ⊥) × (cause ≡ fault_cause k)

-- The lowest entry that holds any byte of an access decides, alone.
pub record LowestDecides : Type 0 where
  pub decides : (l : List Entry) (p n a size : ℕ) (k : Kind) (v : Verdict)
      → kind_of n ≡ Some k → verdict_of l p n a size ≡ Ok v → Follows l p k (a, a + size) v

-- A range put into a word comes back as that range.
pub record RangesComeBack : Type 0 where
  pub back : (base k w : ℕ) → range_word base k ≡ Ok w → napot_range w ≡ (base, base + 2 ^ k)
