-- what a load reads and a store leaves, place by place
use Rattle.std.proofs.Common.{◌≡◌, ℕ, zero, suc, ◌+◌, ◌/◌, ◌<◌, ◌≤◌, ◌⊎◌, List, [], ◌∷◌, length, get_or, set, sym, refl, ap, ◌∙◌, inl, inr, arith, length-set, get_or-set_other, get_or-set_same}
use lib.Seq.{sets}
use Rattle.std.proofs.lemmas.Bool.{cases_eq, cases_lt}
use Rattle.monitor.specs.Bytes.{number, low_bytes}

pub length_low : (n v : ℕ) → length (low_bytes n v) ≡ n
length_low zero v = refl
length_low (suc n) v = ap suc (length_low n (v / 256))

pub set_agree : (xs ys : List ℕ) (a v p : ℕ) → p < length xs → p < length ys → ((p ≡ a → ⊥) → get_or xs p 0 ≡ get_or ys p 0)
    → get_or (set xs a v) p 0 ≡ get_or (set ys a v) p 0
set_agree xs ys a v p hx hy h =
    elim (cases_eq p a) [
      | inl e ↦ rw e (get_or-set_same xs a v 0 (rw e at hx) ∙ sym (get_or-set_same ys a v 0 (rw e at hy)))
      | inr ne ↦ get_or-set_other xs a p v 0 ne ∙ h ne ∙ sym (get_or-set_other ys a p v 0 ne)
    ]

-- where two memories agree, or are written, they agree after the same writes
pub sets_agree : (vs xs ys : List ℕ) (a p : ℕ) → p < length xs → p < length ys
    → ((p < a) ⊎ (a + length vs ≤ p) → get_or xs p 0 ≡ get_or ys p 0) → get_or (sets xs a vs) p 0 ≡ get_or (sets ys a vs) p 0
sets_agree [] xs ys a p hx hy h = h (elim (cases_lt p a) [ inl l ↦ inl l | inr g ↦ inr (omega arith) ])
sets_agree (v ∷ vs) xs ys a p hx hy h =
    sets_agree vs (set xs a v) (set ys a v) (suc a) p (rw length-set hx) (rw length-set hy)
    (λ o. set_agree xs ys a v p hx hy (λ ne. h (elim o [ inl l ↦ inl (omega arith) | inr g ↦ inr (omega arith) ])))

pub sets_out : (vs xs : List ℕ) (a p : ℕ) → (p < a) ⊎ (a + length vs ≤ p) → get_or (sets xs a vs) p 0 ≡ get_or xs p 0
sets_out [] xs a p h = refl
sets_out (v ∷ vs) xs a p h =
    sets_out vs (set xs a v) (suc a) p (elim h [ inl l ↦ inl (omega arith) | inr g ↦ inr (omega arith) ])
    ∙ get_or-set_other xs a p v 0 (elim h [ inl l ↦ omega arith | inr g ↦ omega arith ])

pub number_agree : (xs ys : List ℕ) (a n : ℕ) → ((p : ℕ) → a ≤ p → p < a + n → get_or xs p 0 ≡ get_or ys p 0)
    → number xs a n ≡ number ys a n
number_agree xs ys a zero h = refl
number_agree xs ys a (suc n) h =
    let e : get_or xs a 0 ≡ get_or ys a 0 = h a (omega arith) (omega arith) in
    let f : number xs (suc a) n ≡ number ys (suc a) n = number_agree xs ys (suc a) n (λ p l g. h p (omega arith) (omega arith)) in
    cc
