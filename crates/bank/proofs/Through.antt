-- what a write keeps: shown once of what it may leave, it holds whichever of them it leaves
use Rattle.std.proofs.Common.{◌≡◌, ℕ, ◌+◌, ◌-◌, ◌*◌, ◌/◌, ◌%◌, ◌<◌, true, false, cond, eqb, leb, List, inl, inr, arith}
use Rattle.std.proofs.lemmas.Bool.{cases_Bool, cond_both, eqb-true}
use Rattle.bank.specs.Content.{bounds_locked_above, entry_of, is_locked, put_byte, put_four, put_word, stored_byte, with_byte, with_word}
use Rattle.bank.specs.Registers.{is_bytes_register, is_register, written}
use Rattle.bank.specs.declared.entry.Entry.{Entry}

module _ (P : List Entry → Type 0) (l : List Entry) (same : P l) where
  -- a byte is kept out by its entry's lock
  pub through_byte : (k b : ℕ) → (is_locked (entry_of l k).config ≡ false → P (with_byte l k (stored_byte b))) → P (put_byte l k b)
  through_byte k b changed = cond_both (is_locked (entry_of l k).config) l (with_byte l k (stored_byte b)) P (λ _. same) changed

  -- a word is kept out by its entry's lock, or by that of a range that it bounds
  pub through_word : (k w : ℕ)
      → (is_locked (entry_of l k).config ≡ false → bounds_locked_above l k ≡ false → P (with_word l k w)) → P (put_word l k w)
  through_word k w changed =
      cond_both (is_locked (entry_of l k).config) l (cond (bounds_locked_above l k) l (with_word l k w)) P (λ _. same)
      (λ u. cond_both (bounds_locked_above l k) l (with_word l k w) P (λ _. same) (changed u))

  -- what one byte keeps, four bytes keep
  pub through_four : (j w : ℕ) → ((m : List Entry) (k b : ℕ) → b < 256 → P m → P (put_byte m k b)) → P (put_four l j w)
  unfolding put_four
  through_four j w one =
      one _ (j + 3) (w / 16777216 % 256) (omega arith)
      (one _ (j + 2) (w / 65536 % 256) (omega arith) (one _ (j + 1) (w / 256 % 256) (omega arith) (one l j (w % 256) (omega arith) same)))

  -- a write changes nothing, or puts four bytes, or puts a word at machine privilege
  pub through_write : (p n w : ℕ)
      → ((m : List Entry) (k b : ℕ) → b < 256 → P m → P (put_byte m k b))
      → (eqb p 3 ≡ true → is_register n ≡ true → is_bytes_register n ≡ false → P (put_word l (n - 0x3B0) w))
      → P (written l p n w)
  through_write p n w one changed =
      elim (cases_Bool (eqb p 3)) [
        | inl t ↦ elim (cases_Bool (is_register n)) [
          | inl r ↦ rw (eqb-true p 3 t) (simp r (cond_both (is_bytes_register n) _ _ P (λ _. through_four (4 * (n - 0x3A0)) w one) (changed t r)))
          | inr f ↦ rw (eqb-true p 3 t) (simp f same)
        ]
        | inr g ↦ elim (cases_Bool (leb p 1)) [ inl q ↦ simp (g, q) same | inr q ↦ simp (g, q) same ]
      ]
