-- the monitor's writes keep the bank what the roll says
use Rattle.std.proofs.Common.{◌≡◌, ℕ, zero, suc, ◌+◌, ◌<◌, ◌≤◌, Bool, true, false, cond, eqb, List, [], ◌∷◌, ◌++◌, length, set, replicate, Some, None, Option, refl, ap, ◌∙◌, inl, inr, arith, length-set, get_or-set_other, get_or-set_same, set-set}
use lib.ListN.{get_or-replicate, get_or-append, get_or-eq_default}
use Rattle.std.proofs.lemmas.Bool.{cases_eq, cases_lt}
use Rattle.bank.specs.Clean.{Clean, is_clean}
use Rattle.bank.specs.Content.{count, entry_of, is_locked, put_byte, put_four, put_word, stored_byte, with_word, zero_entry}
use Rattle.bank.specs.declared.entry.Entry.{Entry}
use Rattle.monitor.specs.Content.{new_bank}
use Rattle.monitor.specs.Layout.{first_slot, opened, os_entry, shut}
use Rattle.monitor.specs.Roll.{Roll, only, runs_in, start}
use Rattle.monitor.specs.Slots.{ranged}
use Rattle.monitor.specs.declared.slot.Party.{Party}
use Rattle.monitor.proofs.Held.{But, Held, entry, slot_entry}
use Rattle.monitor.proofs.Verdicts.{unlocked_byte}

-- The new bank.

new_is : new_bank ≡ entry shut 0x1FF ∷ entry 0x9D 0x5FF ∷ (replicate 13 zero_entry ++ (entry opened 0xFFFFFFFF ∷ []))
unfolding new_bank put_four
new_is = refl

pub new_held : (n : ℕ) → Held new_bank (start n)
new_held n = rw new_is (record { len = refl; monitor = refl; shared = refl; slot = between; last = refl })
  where
    between : (i : ℕ) → first_slot ≤ i → i < os_entry
        → entry_of (entry shut 0x1FF ∷ entry 0x9D 0x5FF ∷ (replicate 13 zero_entry ++ (entry opened 0xFFFFFFFF ∷ []))) i ≡ zero_entry
    between zero l m = absurd (omega arith)
    between (suc zero) l m = absurd (omega arith)
    between (suc (suc j)) l m =
        let h : j < length (replicate 13 zero_entry) = omega arith in
        let d : j < 13 = omega arith in
        get_or-append (replicate 13 zero_entry) (entry opened 0xFFFFFFFF ∷ []) zero_entry j h ∙ get_or-replicate 13 j zero_entry zero_entry d

-- Bytes that are clean, and entries that are not locked.

clean_slot : (w : Party) (i : ℕ) (x : Option (ℕ × ℕ)) → is_clean (slot_entry w i x).config ≡ true
clean_slot w i None = refl
clean_slot w i (Some g) = go (runs_in w (only i))
  where
    go : (b : Bool) → is_clean (cond b opened shut) ≡ true
    go true = refl
    go false = refl

unlocked_slot : (w : Party) (i : ℕ) (x : Option (ℕ × ℕ)) → is_locked (slot_entry w i x).config ≡ false
unlocked_slot w i None = refl
unlocked_slot w i (Some g) = unlocked_byte (runs_in w (only i))

module _ (z : Entry) (l : List Entry) (r : Roll) (b : But z l r) where
  pub clean_but : is_clean z.config ≡ true → Clean l
  clean_but o i =
      elim (cases_lt i 2) [
        | inl m ↦
            elim (cases_eq i 0) [
              | inl e ↦ rw (e, b.monitor)
              | inr ne ↦ let e : i ≡ 1 = omega arith in rw (e, b.shared)
            ]
        | inr m ↦
            elim (cases_lt i 15) [
              | inl n ↦ rw (b.slot i m n) (clean_slot r.turn i (ranged (r.slot i)))
              | inr n ↦
                  elim (cases_eq i 15) [
                    | inl e ↦ rw (e, b.last) o
                    | inr ne ↦
                        let k = b.len in
                        let e : entry_of l i ≡ zero_entry = get_or-eq_default l zero_entry {n = i} (omega arith) in
                        rw e
                  ]
            ]
      ]

  -- no entry from 2 on is locked
  pub unlocked : (i : ℕ) → is_locked z.config ≡ false → 2 ≤ i → i ≤ 15 → is_locked (entry_of l i).config ≡ false
  unlocked i o m n =
      elim (cases_eq i 15) [
        | inl e ↦ rw e (ap (λ (x : Entry). is_locked x.config) b.last ∙ o)
        | inr ne ↦ ap (λ (x : Entry). is_locked x.config) (b.slot i m (omega arith)) ∙ unlocked_slot r.turn i (ranged (r.slot i))
      ]

-- Writes to entries that are not locked.

pub byte_open : (l : List Entry) (i v : ℕ) → is_locked (entry_of l i).config ≡ false → put_byte l i v ≡ set l i (entry (stored_byte v) (entry_of l i).word)
byte_open l i v h = rw h

word_open : (l : List Entry) (i w : ℕ) → is_locked (entry_of l i).config ≡ false → is_locked (entry_of l (i + 1)).config ≡ false
    → put_word l i w ≡ set l i (entry (entry_of l i).config w)
word_open l i w h k = rw (h, k) (go (eqb (i + 1) count))
  where
    go : (x : Bool) → cond (cond x false false) l (with_word l i w) ≡ with_word l i w
    go true = refl
    go false = refl

-- an entry's word and then its byte, or its byte and then its word
module _ (l : List Entry) (i w v : ℕ) (m : i < length l) (h : is_locked (entry_of l i).config ≡ false) (k : is_locked (entry_of l (i + 1)).config ≡ false) where
  pub word_byte : put_byte (put_word l i w) i v ≡ set l i (entry (stored_byte v) w)
  word_byte =
      let e : Entry = entry (entry_of l i).config w in
      let same : entry_of (set l i e) i ≡ e = get_or-set_same l i e zero_entry m in
      ap (λ (x : List Entry). put_byte x i v) (word_open l i w h k)
      ∙ byte_open (set l i e) i v (ap (λ (x : Entry). is_locked x.config) same ∙ h)
      ∙ ap (λ (x : Entry). set (set l i e) i (entry (stored_byte v) x.word)) same
      ∙ set-set l i e (entry (stored_byte v) w)

  pub byte_word : is_locked (stored_byte v) ≡ false → put_word (put_byte l i v) i w ≡ set l i (entry (stored_byte v) w)
  byte_word o =
      let e : Entry = entry (stored_byte v) (entry_of l i).word in
      let same : entry_of (set l i e) i ≡ e = get_or-set_same l i e zero_entry m in
      let other : entry_of (set l i e) (i + 1) ≡ entry_of l (i + 1) = get_or-set_other l i (i + 1) e zero_entry (omega arith) in
      ap (λ (x : List Entry). put_word x i w) (byte_open l i v h)
      ∙ word_open (set l i e) i w (ap (λ (x : Entry). is_locked x.config) same ∙ o) (ap (λ (x : Entry). is_locked x.config) other ∙ k)
      ∙ ap (λ (x : Entry). set (set l i e) i (entry x.config w)) same
      ∙ set-set l i e (entry (stored_byte v) w)

-- One entry is set.

-- that of a slot
pub slot_set : (z x : Entry) (l : List Entry) (r q : Roll) (s : ℕ) → But z l r → first_slot ≤ s → s < os_entry → x ≡ slot_entry q.turn s (ranged (q.slot s))
    → ((i : ℕ) → (i ≡ s → ⊥) → slot_entry r.turn i (ranged (r.slot i)) ≡ slot_entry q.turn i (ranged (q.slot i))) → But z (set l s x) q
slot_set z x l r q s b m n e k = record {
  len = length-set l s x ∙ b.len;
  monitor = get_or-set_other l s 0 x zero_entry (omega arith) ∙ b.monitor;
  shared = get_or-set_other l s 1 x zero_entry (omega arith) ∙ b.shared;
  slot = λ i u o.
      elim (cases_eq i s) [
        | inl d ↦ rw d (get_or-set_same l s x zero_entry (let y = b.len in omega arith) ∙ e)
        | inr ne ↦ get_or-set_other l s i x zero_entry ne ∙ b.slot i u o ∙ k i ne
      ];
  last = get_or-set_other l s os_entry x zero_entry (omega arith) ∙ b.last;
}

-- the last one
pub last_set : (z x : Entry) (l : List Entry) (r : Roll) → But z l r → But x (set l os_entry x) r
last_set z x l r b = record {
  len = length-set l os_entry x ∙ b.len;
  monitor = get_or-set_other l os_entry 0 x zero_entry (omega arith) ∙ b.monitor;
  shared = get_or-set_other l os_entry 1 x zero_entry (omega arith) ∙ b.shared;
  slot = λ i n o. get_or-set_other l os_entry i x zero_entry (omega arith) ∙ b.slot i n o;
  last = get_or-set_same l os_entry x zero_entry (let y = b.len in omega arith);
}
