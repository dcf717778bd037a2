-- a write of four bytes, by the locks that stood before it
use Rattle.std.proofs.Common.{◌≡◌, ℕ, zero, suc, ◌+◌, ◌-◌, ◌*◌, ◌/◌, ◌%◌, ◌^◌, ◌<◌, ◌≤◌, true, cond, ◌≢◌, ◌⊎◌, List, length, sym, refl, ap, ◌∙◌, arith, length-set, get_or-set_other, get_or-set_same}
use Rattle.std.proofs.lemmas.Bool.{cond_both, cond-false, cond-true}
use Rattle.std.proofs.lemmas.Bool.Decides.{nat_tests}
use Rattle.bank.proofs.Through.{through_byte}
use Rattle.bank.specs.Content.{count, entry_of, is_locked, put_byte, put_four, stored_byte, with_byte}
use Rattle.bank.specs.Laws.{OldLocksDecide, byte_written}
use Rattle.bank.specs.Registers.{is_bytes_register, written}
use Rattle.bank.specs.declared.entry.Entry.{Entry}

module _ (l : List Entry) (j b : ℕ) where
  pub there : (k : ℕ) → k ≢ j → entry_of (put_byte l j b) k ≡ entry_of l k
  there k ne = through_byte (λ m. entry_of m k ≡ entry_of l k) l refl j b (λ _. rw get_or-set_other)

  pub here : j < length l → entry_of (put_byte l j b) j ≡ byte_written l j b
  here h =
      cond_both (is_locked (entry_of l j).config) l (with_byte l j (stored_byte b)) (λ m. entry_of m j ≡ byte_written l j b)
      (λ t. sym (cond-true _ _ _ t)) (λ u. get_or-set_same l j _ _ h ∙ sym (cond-false _ _ _ u))

  pub long : length (put_byte l j b) ≡ length l
  long = through_byte (λ m. length m ≡ length l) l refl j b (λ _. simp length-set)

-- the byte that is written to an entry, by what the entry was
same : (l m : List Entry) (k b : ℕ) → entry_of m k ≡ entry_of l k → byte_written m k b ≡ byte_written l k b
same l m k b e = ap (λ (x : Entry). cond (is_locked x.config) x (record { config = stored_byte b; word = x.word })) e

-- one byte after another: each finds the entry as it was before the write
module _ (l : List Entry) (i w : ℕ) (inside : i + 3 < length l) where
  l1 : List Entry
  l1 = put_byte l i (w % 256)

  l2 : List Entry
  l2 = put_byte l1 (i + 1) (w / 256 % 256)

  l3 : List Entry
  l3 = put_byte l2 (i + 2) (w / 65536 % 256)

  past3 : (k : ℕ) → k ≢ i + 3 → entry_of (put_four l i w) k ≡ entry_of l3 k
  unfolding put_four l1 l2 l3
  past3 k n = there l3 (i + 3) (w / 16777216 % 256) k n

  past2 : (k : ℕ) → k ≢ i + 2 → entry_of l3 k ≡ entry_of l2 k
  unfolding l3
  past2 k n = there l2 (i + 2) (w / 65536 % 256) k n

  past1 : (k : ℕ) → k ≢ i + 1 → entry_of l2 k ≡ entry_of l1 k
  unfolding l2
  past1 k n = there l1 (i + 1) (w / 256 % 256) k n

  past0 : (k : ℕ) → k ≢ i → entry_of l1 k ≡ entry_of l k
  unfolding l1
  past0 k n = there l i (w % 256) k n

  four_each : (t : ℕ) → t < 4 → entry_of (put_four l i w) (i + t) ≡ byte_written l (i + t) (w / 256 ^ t % 256)
  unfolding put_four l1 l2 l3
  four_each zero s =
      let e : i + 0 ≡ i = omega arith in
      let d : w / 1 ≡ w = omega arith in
      rw (e, d) (past3 i (omega arith) ∙ past2 i (omega arith) ∙ past1 i (omega arith) ∙ here l i (w % 256) (omega arith))
  four_each (suc zero) s =
      let n : length l1 ≡ length l = long l i (w % 256) in
      past3 (i + 1) (omega arith) ∙ past2 (i + 1) (omega arith) ∙ here l1 (i + 1) (w / 256 % 256) (omega arith)
      ∙ same l l1 (i + 1) (w / 256 % 256) (past0 (i + 1) (omega arith))
  four_each (suc (suc zero)) s =
      let n : length l1 ≡ length l = long l i (w % 256) in
      let m : length l2 ≡ length l1 = long l1 (i + 1) (w / 256 % 256) in
      past3 (i + 2) (omega arith) ∙ here l2 (i + 2) (w / 65536 % 256) (omega arith)
      ∙ same l l2 (i + 2) (w / 65536 % 256) (past1 (i + 2) (omega arith) ∙ past0 (i + 2) (omega arith))
  four_each (suc (suc (suc zero))) s =
      let n : length l1 ≡ length l = long l i (w % 256) in
      let m : length l2 ≡ length l1 = long l1 (i + 1) (w / 256 % 256) in
      let o : length l3 ≡ length l2 = long l2 (i + 2) (w / 65536 % 256) in
      here l3 (i + 3) (w / 16777216 % 256) (omega arith)
      ∙ same l l3 (i + 3) (w / 16777216 % 256) (past2 (i + 3) (omega arith) ∙ past1 (i + 3) (omega arith) ∙ past0 (i + 3) (omega arith))
  four_each (suc (suc (suc (suc t)))) s = absurd (omega arith)

  four_others : (k : ℕ) → (k < i) ⊎ (i + 4 ≤ k) → entry_of (put_four l i w) k ≡ entry_of l k
  four_others k o =
      let f : (j : ℕ) → j < 4 → k ≢ i + j = λ j s. omega arith in
      let z : k ≢ i = omega arith in
      past3 k (f 3 (omega arith)) ∙ past2 k (f 2 (omega arith)) ∙ past1 k (f 1 (omega arith)) ∙ past0 k z

-- an accepted write to a register of four bytes
pub written_four : (l : List Entry) (n w : ℕ) → is_bytes_register n ≡ true → written l 3 n w ≡ put_four l (4 * (n - 0x3A0)) w
written_four l n w h = simp h

small : (n : ℕ) → is_bytes_register n ≡ true → 4 * (n - 0x3A0) + 3 < count
small n h = let u : n ≤ 0x3A3 = grind (arith, nat_tests) in omega arith

pub old_locks_decide : OldLocksDecide
old_locks_decide =
    record {
      each = λ l n w t len h s. rw (written_four l n w h) (four_each l (4 * (n - 0x3A0)) w (let u = small n h in omega arith) t s);
      others = λ l n w k len h o. rw (written_four l n w h) (four_others l (4 * (n - 0x3A0)) w (let u = small n h in omega arith) k o);
    }
