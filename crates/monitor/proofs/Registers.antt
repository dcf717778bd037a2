-- one byte or one word, written through its register with the others as they are
use Rattle.std.proofs.Common.{◌≡◌, ℕ, zero, suc, ◌+◌, ◌-◌, ◌*◌, ◌/◌, ◌%◌, ◌<◌, Bool, true, cond, not, ◌||◌, eqb, ◌≢◌, List, [], ◌∷◌, get_or, set, sym, refl, ap, ◌∙◌, arith}
use lib.Arith.{digits_div, digits_mod}
use lib.Seq.{set-get_or}
use Rattle.std.proofs.lemmas.Bool.{cond_both, eqb-true}
use Rattle.std.proofs.lemmas.Bool.Decides.{nat_tests}
use Rattle.bank.specs.Clean.{Clean, is_clean}
use Rattle.bank.specs.Content.{bounds_locked_above, count, entry_of, four_bytes, is_locked, put_byte, put_four, put_word, stored_byte, with_byte, with_word, zero_entry}
use Rattle.bank.specs.Registers.{holds, is_bytes_register}
use Rattle.bank.specs.declared.entry.Entry.{Entry}
use Rattle.bank.proofs.Cleans.{below, clean_put_byte, set_either}
use Rattle.bank.proofs.Four.{there, written_four}
use Rattle.bank.proofs.FromNew.{written_word}
use Rattle.monitor.specs.Content.{address, configure, four, word}

clean_small : (b : ℕ) → is_clean b ≡ true → b < 256
clean_small b h = grind (arith, nat_tests)

-- a clean byte is stored as it is
test : ℕ → Bool
test b = not (is_clean b) || eqb (stored_byte b) b

clean_stored : (b : ℕ) → is_clean b ≡ true → stored_byte b ≡ b
unfolding test
clean_stored b h = eqb-true (stored_byte b) b (rw h at (below test 256 b refl (clean_small b h)))

-- a write of the byte that is there changes nothing
same_byte : (l : List Entry) (k : ℕ) → Clean l → put_byte l k (entry_of l k).config ≡ l
same_byte l k c =
    cond_both (is_locked (entry_of l k).config) l (with_byte l k (stored_byte (entry_of l k).config)) (λ m. m ≡ l) (λ _. refl)
    (λ _. rw (clean_stored (entry_of l k).config (c k)) (set-get_or l k zero_entry))

-- Four bytes and their word.

abbrev joined : ℕ → ℕ → ℕ → ℕ → ℕ
joined a b c d = a + b * 256 + c * 65536 + d * 16777216

digits : (a b c d : ℕ) → a < 256 → b < 256 → c < 256 → d < 256 → four (joined a b c d) ≡ a ∷ b ∷ c ∷ d ∷ []
digits a b c d ha hb hc hd =
    let w : ℕ = joined a b c d in
    let r1 : ℕ = a + b * 256 in
    let r2 : ℕ = a + b * 256 + c * 65536 in
    let s0 : (b + c * 256 + d * 65536) * 256 + a ≡ w = omega arith in
    let s1 : (c + d * 256) * 65536 + r1 ≡ w = omega arith in
    let s2 : d * 16777216 + r2 ≡ w = omega arith in
    let e0 : w % 256 ≡ a = rw s0 at (digits_mod (b + c * 256 + d * 65536) {m = 256} {r = a} ha) in
    let q1 : w / 256 ≡ (c + d * 256) * 256 + b = rw s0 at (digits_div (b + c * 256 + d * 65536) {m = 256} {r = a} ha) ∙ omega arith in
    let q2 : w / 65536 ≡ c + d * 256 = rw s1 at (digits_div (c + d * 256) {m = 65536} {r = r1} (omega arith)) in
    let q3 : w / 16777216 ≡ d = rw s2 at (digits_div d {m = 16777216} {r = r2} (omega arith)) in
    let e1 : w / 256 % 256 ≡ b = rw q1 (digits_mod (c + d * 256) {m = 256} {r = b} hb) in
    let e2 : w / 65536 % 256 ≡ c = rw q2 (omega arith) in
    let e3 : w / 16777216 % 256 ≡ d = rw q3 (omega arith) in
    λ i. e0 i ∷ e1 i ∷ e2 i ∷ e3 i ∷ []

abbrev put_these : List Entry → ℕ → List ℕ → List Entry
put_these l j bs = put_byte (put_byte (put_byte (put_byte l j (get_or bs 0 0)) (j + 1) (get_or bs 1 0)) (j + 2) (get_or bs 2 0)) (j + 3) (get_or bs 3 0)

four_these : (l : List Entry) (j a b c d : ℕ) → a < 256 → b < 256 → c < 256 → d < 256
    → put_four l j (joined a b c d) ≡ put_these l j (a ∷ b ∷ c ∷ d ∷ [])
unfolding put_four
four_these l j a b c d ha hb hc hd = ap (put_these l j) (digits a b c d ha hb hc hd)

-- the byte that l has at k, where m has the same entry
keep : (m l : List Entry) (k : ℕ) → Clean m → entry_of m k ≡ entry_of l k → put_byte m k (entry_of l k).config ≡ m
keep m l k c e = ap (λ (x : Entry). put_byte m k x.config) (sym e) ∙ same_byte m k c

-- one byte at place t of four, the other three as they are
module _ (l : List Entry) (j x : ℕ) (clean : Clean l) (small : x < 256) where
  rest : (k t : ℕ) → k ≢ t → put_byte (put_byte l t x) k (entry_of l k).config ≡ put_byte l t x
  rest k t ne = keep (put_byte l t x) l k (clean_put_byte l t x small clean) (there l t x k ne)

  one_0 : put_these l j (x ∷ (entry_of l (j + 1)).config ∷ (entry_of l (j + 2)).config ∷ (entry_of l (j + 3)).config ∷ []) ≡ put_byte l j x
  one_0 =
      ap (λ z. put_byte (put_byte z (j + 2) (entry_of l (j + 2)).config) (j + 3) (entry_of l (j + 3)).config) (rest (j + 1) j (omega arith))
      ∙ (ap (λ z. put_byte z (j + 3) (entry_of l (j + 3)).config) (rest (j + 2) j (omega arith)) ∙ rest (j + 3) j (omega arith))

  one_1 : put_these l j ((entry_of l j).config ∷ x ∷ (entry_of l (j + 2)).config ∷ (entry_of l (j + 3)).config ∷ []) ≡ put_byte l (j + 1) x
  one_1 =
      ap (λ z. put_byte (put_byte (put_byte z (j + 1) x) (j + 2) (entry_of l (j + 2)).config) (j + 3) (entry_of l (j + 3)).config) (same_byte l j clean)
      ∙ (ap (λ z. put_byte z (j + 3) (entry_of l (j + 3)).config) (rest (j + 2) (j + 1) (omega arith)) ∙ rest (j + 3) (j + 1) (omega arith))

  one_2 : put_these l j ((entry_of l j).config ∷ (entry_of l (j + 1)).config ∷ x ∷ (entry_of l (j + 3)).config ∷ []) ≡ put_byte l (j + 2) x
  one_2 =
      ap (λ z. put_byte (put_byte (put_byte z (j + 1) (entry_of l (j + 1)).config) (j + 2) x) (j + 3) (entry_of l (j + 3)).config) (same_byte l j clean)
      ∙ (ap (λ z. put_byte (put_byte z (j + 2) x) (j + 3) (entry_of l (j + 3)).config) (same_byte l (j + 1) clean) ∙ rest (j + 3) (j + 2) (omega arith))

  one_3 : put_these l j ((entry_of l j).config ∷ (entry_of l (j + 1)).config ∷ (entry_of l (j + 2)).config ∷ x ∷ []) ≡ put_byte l (j + 3) x
  one_3 =
      ap (λ z. put_byte (put_byte (put_byte z (j + 1) (entry_of l (j + 1)).config) (j + 2) (entry_of l (j + 2)).config) (j + 3) x) (same_byte l j clean)
      ∙ (ap (λ z. put_byte (put_byte z (j + 2) (entry_of l (j + 2)).config) (j + 3) x) (same_byte l (j + 1) clean)
      ∙ ap (λ z. put_byte z (j + 3) x) (same_byte l (j + 2) clean))

  few : (i : ℕ) → (entry_of l i).config < 256
  few i = clean_small (entry_of l i).config (clean i)

  apart_bytes : four (four_bytes l j) ≡ (entry_of l j).config ∷ (entry_of l (j + 1)).config ∷ (entry_of l (j + 2)).config ∷ (entry_of l (j + 3)).config ∷ []
  apart_bytes =
      digits (entry_of l j).config (entry_of l (j + 1)).config (entry_of l (j + 2)).config (entry_of l (j + 3)).config (few j) (few (j + 1)) (few (j + 2)) (few (j + 3))

  one_at : (t s : ℕ) → t < 4 → j + t ≡ s → put_four l j (word (set (four (four_bytes l j)) t x)) ≡ put_byte l s x
  one_at zero s h e =
      let z : j ≡ s = omega arith in
      ap (λ bs. put_four l j (word (set bs 0 x))) apart_bytes
      ∙ four_these l j x (entry_of l (j + 1)).config (entry_of l (j + 2)).config (entry_of l (j + 3)).config small (few (j + 1)) (few (j + 2)) (few (j + 3))
      ∙ one_0 ∙ ap (λ i. put_byte l i x) z
  one_at (suc zero) s h e =
      ap (λ bs. put_four l j (word (set bs 1 x))) apart_bytes
      ∙ four_these l j (entry_of l j).config x (entry_of l (j + 2)).config (entry_of l (j + 3)).config (few j) small (few (j + 2)) (few (j + 3))
      ∙ one_1 ∙ ap (λ i. put_byte l i x) e
  one_at (suc (suc zero)) s h e =
      ap (λ bs. put_four l j (word (set bs 2 x))) apart_bytes
      ∙ four_these l j (entry_of l j).config (entry_of l (j + 1)).config x (entry_of l (j + 3)).config (few j) (few (j + 1)) small (few (j + 3))
      ∙ one_2 ∙ ap (λ i. put_byte l i x) e
  one_at (suc (suc (suc zero))) s h e =
      ap (λ bs. put_four l j (word (set bs 3 x))) apart_bytes
      ∙ four_these l j (entry_of l j).config (entry_of l (j + 1)).config (entry_of l (j + 2)).config x (few j) (few (j + 1)) (few (j + 2)) small
      ∙ one_3 ∙ ap (λ i. put_byte l i x) e
  one_at (suc (suc (suc (suc t)))) s h e = absurd (omega arith)

-- Registers.

pub configure_is : (l : List Entry) (s x : ℕ) → Clean l → s < count → x < 256 → configure l s x ≡ put_byte l s x
unfolding configure
configure_is l s x c m n =
    let i : 4 * (0x3A0 + s / 4 - 0x3A0) ≡ 4 * (s / 4) = omega arith in
    let reg : is_bytes_register (0x3A0 + s / 4) ≡ true = grind (arith, nat_tests) in
    let h : holds l (0x3A0 + s / 4) ≡ four_bytes l (4 * (s / 4)) = simp (reg, i) in
    written_four l (0x3A0 + s / 4) (word (set (four (holds l (0x3A0 + s / 4))) (s % 4) x)) reg
    ∙ ap (λ j. put_four l j (word (set (four (holds l (0x3A0 + s / 4))) (s % 4) x))) i
    ∙ ap (λ w. put_four l (4 * (s / 4)) (word (set (four w) (s % 4) x))) h
    ∙ one_at l (4 * (s / 4)) x c n (s % 4) s (omega arith) (omega arith)

pub address_is : (l : List Entry) (s w : ℕ) → s < count → address l s w ≡ put_word l s w
unfolding address
address_is l s w h = written_word l s w h

pub clean_word : (l : List Entry) (k w : ℕ) → Clean l → Clean (put_word l k w)
clean_word l k w c =
    cond_both (is_locked (entry_of l k).config) l (cond (bounds_locked_above l k) l (with_word l k w)) Clean (λ _. c)
    (λ _. cond_both (bounds_locked_above l k) l (with_word l k w) Clean (λ _. c)
    (λ _. λ i. set_either (λ e. is_clean e.config ≡ true) l k i (record { config = (entry_of l k).config; word = w }) zero_entry (c k) (c i)))
