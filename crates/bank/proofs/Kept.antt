-- a locked entry keeps its byte, its word and its range through any writes
use Rattle.std.proofs.Common.{◌≡◌, ℕ, zero, suc, ◌+◌, ◌-◌, ◌<◌, true, false, eqb, ◌≢◌, List, [], ◌∷◌, ◌++◌, sym, refl, ap, ◌∙◌, inl, inr, arith, get_or-set_other}
use lib.Bits.{bit_and}
use Rattle.std.proofs.lemmas.Bool.{both_ways, cases_Bool, cases_eq, ne_eqb}
use Rattle.bank.proofs.Cleans.{set_either}
use Rattle.bank.proofs.Through.{through_byte, through_word, through_write}
use Rattle.bank.specs.Content.{bounds_locked_above, count, entry_of, is_locked, is_tor, put_byte, put_word}
use Rattle.bank.specs.Laws.{Locked, LocksStand, OnlyResetsRelease}
use Rattle.bank.specs.Ranges.{range_by, range_of, word_below}
use Rattle.bank.specs.Registers.{written}
use Rattle.bank.specs.Runs.{Change, Write, after_changes, after_write, after_writes, resets, writes}
use Rattle.bank.specs.declared.entry.Entry.{Entry}

module _ (l : List Entry) (i j : ℕ) (h : Locked l i) where
  apart : is_locked (entry_of l j).config ≡ false → i ≢ j
  apart u e = both_ways (is_locked (entry_of l j).config) u (rw (sym e) h)

  pub kept_byte : (b : ℕ) → entry_of (put_byte l j b) i ≡ entry_of l i
  kept_byte b = through_byte (λ m. entry_of m i ≡ entry_of l i) l refl j b (λ u. let ne = apart u in rw get_or-set_other)

  kept_word : (w : ℕ) → entry_of (put_word l j w) i ≡ entry_of l i
  kept_word w = through_word (λ m. entry_of m i ≡ entry_of l i) l refl j w (λ u _. let ne = apart u in rw get_or-set_other)

still : (l m : List Entry) (i : ℕ) → entry_of m i ≡ entry_of l i → Locked l i → Locked m i
still l m i e h = ap (λ (x : Entry). is_locked x.config) e ∙ h

pub kept_entry : (l : List Entry) (i p n w : ℕ) → Locked l i → entry_of (written l p n w) i ≡ entry_of l i
kept_entry l i p n w h =
    through_write (λ m. entry_of m i ≡ entry_of l i) l refl p n w (λ m k b s e. kept_byte m i k (still l m i e h) b ∙ e)
    (λ _ _ _. kept_word l i (n - 0x3B0) h w)

kept_entries : (l : List Entry) (ws : List Write) (i : ℕ) → Locked l i → entry_of (after_writes l ws) i ≡ entry_of l i
kept_entries l [] i h = refl
kept_entries l (w ∷ ws) i h =
    let e : entry_of (after_write l w) i ≡ entry_of l i = kept_entry l i w.privilege w.number w.word h in
    kept_entries (after_write l w) ws i (still l (after_write l w) i e h) ∙ e

-- a write of a byte keeps every word
pub word_byte : (l : List Entry) (k b j : ℕ) → (entry_of (put_byte l k b) j).word ≡ (entry_of l j).word
word_byte l k b j =
    through_byte (λ m. (entry_of m j).word ≡ (entry_of l j).word) l refl k b
    (λ _. elim (cases_eq j k) [
      | inl e ↦ rw e (set_either (λ x. x.word ≡ (entry_of l k).word) l k k _ _ refl refl)
      | inr ne ↦ rw get_or-set_other
    ])

-- the word below a locked entry in mode TOR stays
module _ (l : List Entry) (j : ℕ) (small : j + 1 < count) (h : Locked l (j + 1)) (tor : is_tor (entry_of l (j + 1)).config ≡ true) where
  bounds : bounds_locked_above l j ≡ true
  bounds = let f : eqb (j + 1) count ≡ false = ne_eqb (j + 1) count (omega arith) in simp (f, h, tor)

  kept_bottom_word : (k w : ℕ) → (entry_of (put_word l k w) j).word ≡ (entry_of l j).word
  kept_bottom_word k w =
      through_word (λ m. (entry_of m j).word ≡ (entry_of l j).word) l refl k w
      (λ _ u. let ne : j ≢ k = λ e. both_ways (bounds_locked_above l k) u (rw (sym e) bounds) in rw get_or-set_other)

  kept_bottom : (p n w : ℕ) → (entry_of (written l p n w) j).word ≡ (entry_of l j).word
  kept_bottom p n w =
      through_write (λ m. (entry_of m j).word ≡ (entry_of l j).word) l refl p n w (λ m k b s e. word_byte m k b j ∙ e)
      (λ _ _ _. kept_bottom_word (n - 0x3B0) w)

-- but for mode TOR the word below does not matter
no_bottom : (mode low low' a : ℕ) → eqb mode 8 ≡ false → range_by mode low a ≡ range_by mode low' a
no_bottom mode low low' a f = simp f

kept_below : (l : List Entry) (i p n w : ℕ) → i < count → Locked l i → is_tor (entry_of l i).config ≡ true → word_below (written l p n w) i ≡ word_below l i
kept_below l zero p n w s h t = refl
kept_below l (suc j) p n w s h t =
    let e : suc j ≡ j + 1 = omega arith in
    let back : suc j - 1 ≡ j = omega arith in
    let f : eqb (suc j) 0 ≡ false = ne_eqb (suc j) 0 (omega arith) in
    simp (f, back) (kept_bottom l j (omega arith) (rw e at h) (rw e at t) p n w)

pub same_range : (l m : List Entry) (i : ℕ) → entry_of m i ≡ entry_of l i → (is_tor (entry_of l i).config ≡ true → word_below m i ≡ word_below l i)
    → range_of m i ≡ range_of l i
same_range l m i e below =
    let moved : range_of m i ≡ range_by (bit_and (entry_of l i).config 0x18) (word_below m i) (entry_of l i).word =
    ap (λ (x : Entry). range_by (bit_and x.config 0x18) (word_below m i) x.word) e in
    elim (cases_Bool (is_tor (entry_of l i).config)) [
      | inl t ↦ moved ∙ ap (λ b. range_by (bit_and (entry_of l i).config 0x18) b (entry_of l i).word) (below t)
      | inr f ↦ moved ∙ no_bottom (bit_and (entry_of l i).config 0x18) (word_below m i) (word_below l i) (entry_of l i).word f
    ]

kept_range : (l : List Entry) (i p n w : ℕ) → i < count → Locked l i → range_of (written l p n w) i ≡ range_of l i
kept_range l i p n w s h = same_range l (written l p n w) i (kept_entry l i p n w h) (kept_below l i p n w s h)

kept_ranges : (l : List Entry) (ws : List Write) (i : ℕ) → i < count → Locked l i → range_of (after_writes l ws) i ≡ range_of l i
kept_ranges l [] i s h = refl
kept_ranges l (w ∷ ws) i s h =
    let e : entry_of (after_write l w) i ≡ entry_of l i = kept_entry l i w.privilege w.number w.word h in
    kept_ranges (after_write l w) ws i s (still l (after_write l w) i e h) ∙ kept_range l i w.privilege w.number w.word s h

pub locks_stand : LocksStand
locks_stand = record { entry = kept_entries; range = kept_ranges }

pub only_resets_release : OnlyResetsRelease
only_resets_release = record { released = found }
  where
    found : (l : List Entry) (cs : List Change) (i : ℕ)
        → Locked l i → (Locked (after_changes l cs) i → ⊥)
        → (before : List Change) × (after : List Change) × (cs ≡ before ++ (resets ∷ after))
    found l [] i h n = absurd (n h)
    found l (resets ∷ cs) i h n = ([], cs, refl)
    found l (writes w ∷ cs) i h n =
        let e : entry_of (after_write l w) i ≡ entry_of l i = kept_entry l i w.privilege w.number w.word h in
        let r = found (after_write l w) cs i (still l (after_write l w) i e h) n in
        (writes w ∷ r.0, r.1, ap (λ (x : List Change). writes w ∷ x) r.2)
