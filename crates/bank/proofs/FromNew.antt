-- what holds of a bank that was new, whatever was written to it since
use Rattle.std.proofs.Common.{◌≡◌, ℕ, ◌+◌, ◌-◌, ◌<◌, ◌≤◌, true, false, not, ◌||◌, eqb, ◌⊎◌, List, [], ◌∷◌, ◌++◌, length, sym, refl, ap, ◌∙◌, inl, inr, arith, length-set, get_or-set_other, get_or-set_same}
use Rattle.std.proofs.lemmas.List.{get_or-replicate, get_or_past}
use Rattle.std.proofs.lemmas.Bool.{cases_lt, and_parts, both_ways, cases_Bool, cases_eq, eq-eqb, eqb-true}
use Rattle.std.proofs.lemmas.Bool.Decides.{nat_tests}
use Rattle.bank.proofs.Cleans.{clean_put_byte, set_either}
use Rattle.bank.proofs.Four.{long}
use Rattle.bank.proofs.Kept.{word_byte}
use Rattle.bank.proofs.Through.{through_word, through_write}
use Rattle.bank.specs.Clean.{Clean, is_clean}
use Rattle.bank.specs.Content.{blank, bounds_locked_above, count, entry_of, is_locked, put_word, zero_entry}
use Rattle.bank.specs.Laws.{AlwaysClean, PutsLast, PutsNone, WordsLastWritten, puts_word}
use Rattle.bank.specs.Registers.{is_bytes_register, is_register, is_word_register, written}
use Rattle.bank.specs.Runs.{Change, Write, after_changes, after_write, after_writes, resets, writes}
use Rattle.bank.specs.declared.entry.Entry.{Entry}

clean_put_word : (l : List Entry) (k w : ℕ) → Clean l → Clean (put_word l k w)
clean_put_word l k w c =
    through_word Clean l c k w (λ _ _ i. set_either (λ e. is_clean e.config ≡ true) l k i _ _ (c k) (c i))

clean_written : (l : List Entry) (p n w : ℕ) → Clean l → Clean (written l p n w)
clean_written l p n w c =
    through_write Clean l c p n w (λ m k b s h. clean_put_byte m k b s h) (λ _ _ _. clean_put_word l (n - 0x3B0) w c)

blank_entry : (i : ℕ) → entry_of blank i ≡ zero_entry
blank_entry i =
    elim (cases_lt i count) [
      | inl h ↦ get_or-replicate count i zero_entry zero_entry h
      | inr h ↦ get_or_past blank i zero_entry h
    ]

blank_clean : Clean blank
blank_clean i = rw (blank_entry i)

clean_changes : (l : List Entry) (cs : List Change) → Clean l → Clean (after_changes l cs)
clean_changes l [] c = c
clean_changes l (writes w ∷ cs) c = clean_changes (after_write l w) cs (clean_written l w.privilege w.number w.word c)
clean_changes l (resets ∷ cs) c = clean_changes blank cs blank_clean

pub always_clean : AlwaysClean
always_clean = record { clean = λ cs. clean_changes blank cs blank_clean }

-- the length stays
pub long_written : (l : List Entry) (p n w : ℕ) → length (written l p n w) ≡ length l
long_written l p n w =
    through_write (λ m. length m ≡ length l) l refl p n w (λ m k b s e. long m k b ∙ e)
    (λ _ _ _. through_word (λ m. length m ≡ length l) l refl (n - 0x3B0) w (λ _ _. simp length-set))

-- an accepted write to the register of word i
pub written_word : (l : List Entry) (i w : ℕ) → i < count → written l 3 (0x3B0 + i) w ≡ put_word l i w
written_word l i w s =
    let below : is_bytes_register (0x3B0 + i) ≡ false = grind (arith, nat_tests) in
    let there : is_word_register (0x3B0 + i) ≡ true = grind (arith, nat_tests) in
    let at : 0x3B0 + i - 0x3B0 ≡ i = omega arith in
    simp (below, there, at)

-- one write: the word of entry i is the written one, or stays
module _ (l : List Entry) (i : ℕ) (w : Write) where
  put_here : length l ≡ count → i < count → puts_word l i w ≡ true → (entry_of (after_write l w) i).word ≡ w.word
  put_here len s h =
      let parts = and_parts (eqb w.privilege 3) _ h in
      let rest = and_parts (eqb w.number (0x3B0 + i)) _ parts.1 in
      let free : is_locked (entry_of l i).config ≡ false = grind (arith, nat_tests) in
      let loose : bounds_locked_above l i ≡ false = grind (arith, nat_tests) in
      let p : w.privilege ≡ 3 = eqb-true _ _ parts.0 in
      let n : w.number ≡ 0x3B0 + i = eqb-true _ _ rest.0 in
      let inside : i < length l = omega arith in
      rw (p, n, written_word l i w.word s) (simp (free, loose) (ap (λ (e : Entry). e.word) (get_or-set_same l i _ zero_entry inside)))

  kept_else : puts_word l i w ≡ false → (entry_of (after_write l w) i).word ≡ (entry_of l i).word
  kept_else h =
      through_write (λ m. (entry_of m i).word ≡ (entry_of l i).word) l refl w.privilege w.number w.word (λ m k b s e. word_byte m k b i ∙ e)
      (λ p r f. kept_word (w.number - 0x3B0) (named w.number r f) p)
    where
      named : (n : ℕ) → is_register n ≡ true → is_bytes_register n ≡ false → n ≡ 0x3B0 + (n - 0x3B0)
      named n r f = let t : is_word_register n ≡ true = simp f at r in let u : 0x3B0 ≤ n = grind (arith, nat_tests) in omega arith

      kept_word : (k : ℕ) → w.number ≡ 0x3B0 + k → eqb w.privilege 3 ≡ true → (entry_of (put_word l k w.word) i).word ≡ (entry_of l i).word
      kept_word k n p =
          elim (cases_eq i k) [
            | inl e ↦ rw (sym e)
                (let m : eqb w.number (0x3B0 + i) ≡ true = eq-eqb _ _ (omega arith) in
                let held : not (is_locked (entry_of l i).config || bounds_locked_above l i) ≡ false = simp (p, m) at h in
                through_word (λ m. (entry_of m i).word ≡ (entry_of l i).word) l refl i w.word
                (λ u v. absurd (both_ways true (simp (u, v) at held) refl)))
            | inr ne ↦ through_word (λ m. (entry_of m i).word ≡ (entry_of l i).word) l refl k w.word (λ _ _. rw get_or-set_other)
          ]

-- splitting one write off a list of them
puts_none_more : (l : List Entry) (i : ℕ) (w : Write) (ws : List Write) → puts_word l i w ≡ false → PutsNone (after_write l w) i ws → PutsNone l i (w ∷ ws)
puts_none_more l i w ws f none [] x after e = let same : w ≡ x = cc in rw (sym same) f
puts_none_more l i w ws f none (y ∷ before) x after e =
    let same : w ≡ y = cc in let rest : ws ≡ before ++ (x ∷ after) = cc in
    rw (sym same) (none before x after rest)

last_written : (l : List Entry) (ws : List Write) (i : ℕ) → length l ≡ count → i < count
    → (PutsNone l i ws × ((entry_of (after_writes l ws) i).word ≡ (entry_of l i).word))
    ⊎ ((w : Write) × PutsLast l i ws w × ((entry_of (after_writes l ws) i).word ≡ w.word))
last_written l [] i len s = inl (λ before w after e. absurd (nothing before w after e), refl)
  where
    nothing : (before : List Write) (w : Write) (after : List Write) → [] ≡ before ++ (w ∷ after) → ⊥
    nothing [] w after e = let z : ◌≡◌ {A = ℕ} 0 1 = cc in omega arith
    nothing (x ∷ before) w after e = let z : ◌≡◌ {A = ℕ} 0 1 = cc in omega arith
last_written l (w ∷ ws) i len s =
    elim (last_written (after_write l w) ws i (long_written l w.privilege w.number w.word ∙ len) s) [
      | inl none ↦ elim (cases_Bool (puts_word l i w)) [
        | inl t ↦ inr (w, ([], ws, refl, t, none.0), none.1 ∙ put_here l i w len s t)
        | inr f ↦ inl (puts_none_more l i w ws f none.0, none.1 ∙ kept_else l i w f)
      ]
      | inr some ↦ inr (some.0, (w ∷ some.1.0, some.1.1, ap (λ (x : List Write). w ∷ x) some.1.2, some.1.3, some.1.4), some.2)
    ]

pub words_last_written : WordsLastWritten
words_last_written = record { word = λ ws i s. from_blank ws i s (last_written blank ws i refl s) }
  where
    from_blank : (ws : List Write) (i : ℕ) → i < count
        → (PutsNone blank i ws × ((entry_of (after_writes blank ws) i).word ≡ (entry_of blank i).word))
        ⊎ ((w : Write) × PutsLast blank i ws w × ((entry_of (after_writes blank ws) i).word ≡ w.word))
        → (PutsNone blank i ws × ((entry_of (after_writes blank ws) i).word ≡ 0))
        ⊎ ((w : Write) × PutsLast blank i ws w × ((entry_of (after_writes blank ws) i).word ≡ w.word))
    from_blank ws i s (inl none) = inl (none.0, none.1 ∙ ap (λ (e : Entry). e.word) (blank_entry i))
    from_blank ws i s (inr some) = inr some
