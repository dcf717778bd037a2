-- kept ranges: after every write the ranges beside the entries are the entries' own
use Rattle.std.proofs.Common.{◌≡◌, ℕ, ◌+◌, ◌-◌, ◌<◌, cond, eqb, ◌≢◌, ◌⊎◌, List, length, get_or, set, None, Option, sym, ap, ◌∙◌, inl, inr, arith, length-set, get_or-set_other, get_or-set_same}
use Rattle.std.proofs.lemmas.Bool.{cases_eq}
use Rattle.bank.proofs.Four.{there}
use Rattle.bank.proofs.Kept.{same_range, word_byte}
use Rattle.bank.specs.Content.{count, put_byte, with_word, zero_entry}
use Rattle.bank.specs.Ranges.{Keeps, range_of, word_below}
use Rattle.bank.specs.declared.entry.Entry.{Entry}

-- the one range that is not kept yet is put in place
pub renewed : (l : List Entry) (rs : List (Option (ℕ × ℕ))) (i : ℕ) → i < length rs
    → ((j : ℕ) → j < count → j ≢ i → get_or rs j None ≡ range_of l j) → Keeps l (set rs i (range_of l i))
renewed l rs i inside others j h =
    elim (cases_eq j i) [
      | inl e ↦ rw (e, get_or-set_same rs i (range_of l i) None inside)
      | inr ne ↦ rw get_or-set_other (others j h ne)
    ]

module _ (l : List Entry) (i j : ℕ) (ne : j ≢ i) where
  -- a byte is looked at for its own entry's range alone, a word for its own and the one above
  pub range_byte : (b : ℕ) → range_of (put_byte l i b) j ≡ range_of l j
  range_byte b = same_range l (put_byte l i b) j (there l i b j ne) (λ _. ap (λ w. cond (eqb j 0) 0 w) (word_byte l i b (j - 1)))

  pub range_word : (w : ℕ) → j ≢ i + 1 → range_of (with_word l i w) j ≡ range_of l j
  range_word w na =
      same_range l (with_word l i w) j (get_or-set_other l i j _ zero_entry ne) (λ _. below (cases_eq j 0))
    where
      below : (j ≡ 0) ⊎ (j ≢ 0) → word_below (with_word l i w) j ≡ word_below l j
      below (inl e) = rw e
      below (inr n) = let na : j - 1 ≢ i = (λ e. omega arith) in ap (λ (x : Entry). cond (eqb j 0) 0 x.word) (get_or-set_other l i (j - 1) _ zero_entry na)

module _ (l : List Entry) (rs : List (Option (ℕ × ℕ))) (kept : Keeps l rs) (long : length rs ≡ count) (i : ℕ) (inside : i < count) where
  pub byte_kept : (b : ℕ) → let m = put_byte l i b in Keeps m (set rs i (range_of m i))
  byte_kept b = renewed (put_byte l i b) rs i (omega arith) (λ j h ne. kept j h ∙ sym (range_byte l i j ne b))

  -- the highest word bounds no other range
  pub last_word_kept : (w : ℕ) → i + 1 ≡ count → let m = with_word l i w in Keeps m (set rs i (range_of m i))
  last_word_kept w last =
      renewed (with_word l i w) rs i (omega arith) (λ j h ne. kept j h ∙ sym (range_word l i j ne w (λ e. omega arith)))

  pub word_kept : (w : ℕ) → i + 1 < count → let m = with_word l i w in Keeps m (set (set rs i (range_of m i)) (i + 1) (range_of m (i + 1)))
  word_kept w above =
      renewed (with_word l i w) (set rs i (range_of (with_word l i w) i)) (i + 1) (omega (arith, length-set rs i (range_of (with_word l i w) i)))
      (λ j h na. elim (cases_eq j i) [
        | inl e ↦ rw (e, get_or-set_same rs i (range_of (with_word l i w) i) None (omega arith))
        | inr ne ↦ rw get_or-set_other (kept j h ∙ sym (range_word l i j ne w na))
      ])
