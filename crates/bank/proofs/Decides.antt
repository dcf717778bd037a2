-- the lowest entry whose range holds any byte of an access decides, and the verdict follows from it alone
use Rattle.std.proofs.Common.{◌≡◌, ℕ, zero, suc, ◌+◌, ◌-◌, ◌<◌, ◌≤◌, min, max, true, false, cond, not, ◌&&◌, eqb, leb, List, Some, None, Ok, Err, Option, Result, sym, refl, ap, ◌∙◌, subst, inl, inr, arith, MatchOption}
use lib.Bits.{bit_and}
use Rattle.std.proofs.lemmas.Bool.{and_parts, both_ways, cases_Bool, cases_eq, cond_both, eq-eqb, eqb-false, eqb-true, le-leb, ltb-false, ltb-true}
use Rattle.std.proofs.lemmas.Bool.Decides.{nat_tests}
use Rattle.refusals.specs.declared.Refusal.{Refusal}
use Rattle.refusals.specs.declared.Refusal.TheVariants.{Kind as KindRefused}
use Rattle.bank.specs.Content.{count, entry_of, is_locked}
use Rattle.bank.specs.Laws.{Follows, HoldsAll, HoldsNone, HoldsSome, Lowest, LowestDecides}
use Rattle.bank.specs.Ranges.{end, range_of}
use Rattle.bank.specs.Verdicts.{covers, deciding, fault_cause, is_size, judged, kind_asked, kind_of, lowest, meets, needed_bit, privilege_asked, span_asked, verdict_of}
use Rattle.bank.specs.declared.entry.Entry.{Entry}
use Rattle.bank.specs.declared.verdict.Kind.{Kind}
use Rattle.bank.specs.declared.verdict.Verdict.{Verdict}
use Rattle.bank.specs.declared.verdict.Verdict.TheVariants.{Allowed, Fault}

-- a range that meets a span holds the larger of the two first bytes
some_of : (o : Option (ℕ × ℕ)) (s : ℕ × ℕ) → meets o s ≡ true → (b : ℕ) × (s.0 ≤ b) × (b < s.1) × MatchOption o ⊥ (λ r. (r.0 ≤ b) × (b < r.1))
some_of None s t = absurd (let z : ◌≡◌ {A = ℕ} 0 1 = cc in omega arith)
some_of (Some r) s t =
    let h = ltb-true (max r.0 s.0) (min r.1 s.1) t in (max r.0 s.0, omega arith, omega arith, (omega arith, omega arith))

none_of : (o : Option (ℕ × ℕ)) (s : ℕ × ℕ) → meets o s ≡ false → (b : ℕ) → s.0 ≤ b → b < s.1 → MatchOption o ⊥ (λ r. (r.0 ≤ b) × (b < r.1)) → ⊥
none_of None s f b p q x = x
none_of (Some r) s f b p q x = let h = ltb-false (max r.0 s.0) (min r.1 s.1) f in omega (arith, x.0, x.1)

all_of : (o : Option (ℕ × ℕ)) (s : ℕ × ℕ) → covers o s ≡ true → (b : ℕ) → s.0 ≤ b → b < s.1 → MatchOption o ⊥ (λ r. (r.0 ≤ b) × (b < r.1))
all_of None s t b p q = absurd (let z : ◌≡◌ {A = ℕ} 0 1 = cc in omega arith)
all_of (Some r) s t b p q =
    let f : r.0 ≤ s.0 = grind (arith, nat_tests) in let g : s.1 ≤ r.1 = grind (arith, nat_tests) in (omega arith, omega arith)

-- a range that does not cover a span lacks its first byte or its last
not_all_of : (o : Option (ℕ × ℕ)) (s : ℕ × ℕ) → s.0 < s.1 → covers o s ≡ false
    → ((b : ℕ) → s.0 ≤ b → b < s.1 → MatchOption o ⊥ (λ r. (r.0 ≤ b) × (b < r.1))) → ⊥
not_all_of None s n f all = all s.0 (omega arith) n
not_all_of (Some r) s n f all =
    let first = all s.0 (omega arith) n in
    let last = all (s.1 - 1) (omega arith) (omega arith) in
    let t : covers (Some r) s ≡ true =
    (let g : leb r.0 s.0 ≡ true = le-leb _ _ first.0 in let h : leb s.1 r.1 ≡ true = le-leb _ _ (omega (arith, last.1)) in simp (g, h)) in
    both_ways (covers (Some r) s) f t

-- the search from entry i on, over k entries
module _ (l : List Entry) (s : ℕ × ℕ) where
  Found : ℕ → ℕ → Option ℕ → Type 0
  Found k i o =
      MatchOption o ((j : ℕ) → i ≤ j → j < i + k → HoldsNone l s j)
      (λ n. (i ≤ n) × (n < i + k) × HoldsSome l s n × ((j : ℕ) → i ≤ j → j < n → HoldsNone l s j))

  from : (k i : ℕ) → Found k i (lowest l s k i)
  unfolding lowest Found
  from zero i = λ j a b. absurd (omega arith)
  from (suc k) i =
      elim (cases_Bool (meets (range_of l i) s)) [
        | inl t ↦ rw t (omega arith, omega arith, some_of (range_of l i) s t, λ j a b. absurd (omega arith))
        | inr f ↦ rw f (later (lowest l s k (i + 1)) (from k (i + 1)) (none_of (range_of l i) s f))
      ]
    where
      later : (o : Option ℕ) → Found k (i + 1) o → HoldsNone l s i → Found (suc k) i o
      later None h n = λ j a b. elim (cases_eq j i) [ inl e ↦ rw e n | inr ne ↦ h j (omega arith) (omega arith) ]
      later (Some m) h n =
          (omega arith, omega arith, h.2, λ j a b. elim (cases_eq j i) [ inl e ↦ rw e n | inr ne ↦ h.3 j (omega arith) (omega arith) ])

  pub lowest_found : Lowest l s (deciding l s)
  unfolding Found
  lowest_found = whole (deciding l s) (from count 0)
    where
      whole : (o : Option ℕ) → Found count 0 o → Lowest l s o
      whole None h = λ j b. h j (omega arith) (omega arith)
      whole (Some m) h = (omega arith, h.2, λ j b. h.3 j (omega arith) b)

-- the verdict of a deciding entry
module _ (l : List Entry) (p : ℕ) (k : Kind) (s : ℕ × ℕ) (some : s.0 < s.1) where
  judged_follows : (o : Option ℕ) → Lowest l s o → Follows l p k s (judged l p k s o)
  judged_follows None low =
      cond_both (eqb p 3) (Allowed None) (Fault None (fault_cause k)) (Follows l p k s)
      (λ t. (low, eqb-true p 3 t)) (λ f. (low, eqb-false p 3 f, refl))
  judged_follows (Some i) low =
      cond_both (covers (range_of l i) s) _ _ (Follows l p k s)
      (λ t. covered (all_of (range_of l i) s t))
      (λ f. (low, λ lets. not_all_of (range_of l i) s some f lets.0, refl))
    where
      byte : ℕ
      byte = (entry_of l i).config

      covered : HoldsAll l s i
          → Follows l p k s (cond (eqb p 3 && not (is_locked (entry_of l i).config)) (Allowed (Some i))
          (cond (eqb (bit_and (entry_of l i).config (needed_bit k)) 0) (Fault (Some i) (fault_cause k)) (Allowed (Some i))))
      covered all =
          cond_both (eqb p 3 && not (is_locked (entry_of l i).config)) _ _ (Follows l p k s)
          (λ t. let parts = and_parts (eqb p 3) (not (is_locked (entry_of l i).config)) t in
          (low, (all, inl (eqb-true p 3 parts.0, grind (arith, nat_tests)))))
          (λ f. cond_both (eqb (bit_and (entry_of l i).config (needed_bit k)) 0) _ _ (Follows l p k s)
          (λ z. (
            low,
            λ lets. elim lets.1 [
              | inl m ↦ both_ways (eqb p 3 && not (is_locked (entry_of l i).config)) f (let e : eqb p 3 ≡ true = eq-eqb p 3 m.0 in simp (e, m.1))
              | inr n ↦ n (eqb-true _ _ z)
            ],
            refl,
          ))
          (λ n. (low, (all, inr (eqb-false _ _ n)))))

some_size : (n : ℕ) → is_size n ≡ true → 0 < n
some_size n h = grind (arith, nat_tests)

-- what a verdict comes from: the kind, the span and the judgement on both
parts : (asked : Result (Unit {0}) Refusal) (kinds : Result Kind Refusal) (span : Result (ℕ × ℕ) Refusal) (judge : Kind → ℕ × ℕ → Verdict) (k : Kind) (v : Verdict)
    → kinds ≡ Ok k
    → ◌≡◌ {A = Result Verdict Refusal} (elim asked [
      | Ok _ ↦ elim kinds [
        | Ok k ↦ elim span [ Ok s ↦ Ok (judge k s) | Err e ↦ Err e ]
        | Err e ↦ Err e
      ]
      | Err e ↦ Err e
    ]) (Ok v)
    → (s : ℕ × ℕ) × (span ≡ Ok s) × (judge k s ≡ v)
parts (Ok _) (Ok m) (Ok s) judge k v e h = let same : m ≡ k = cc in (s, refl, let is : judge m s ≡ v = cc in rw (sym same) is)
parts (Ok _) (Ok m) (Err x) judge k v e h = let z : ◌≡◌ {A = ℕ} 0 1 = cc in absurd (omega arith)
parts (Ok _) (Err x) span judge k v e h = let z : ◌≡◌ {A = ℕ} 0 1 = cc in absurd (omega arith)
parts (Err x) kinds span judge k v e h = let z : ◌≡◌ {A = ℕ} 0 1 = cc in absurd (omega arith)

span_is : (a n : ℕ) (s : ℕ × ℕ) → span_asked a n ≡ Ok s → (0 < n) × ((a, a + n) ≡ s)
span_is a n s h =
    elim (cases_Bool (is_size n)) [
      | inl t ↦ elim (cases_Bool (leb (a + n) end)) [
        | inl u ↦ let g = simp (t, u) at h in (some_size n t, cc)
        | inr u ↦ let g = simp (t, u) at h in let z : ◌≡◌ {A = ℕ} 0 1 = cc in absurd (omega arith)
      ]
      | inr f ↦ let g = simp f at h in let z : ◌≡◌ {A = ℕ} 0 1 = cc in absurd (omega arith)
    ]

pub lowest_decides : LowestDecides
lowest_decides = record { decides = decides }
  where
    decides : (l : List Entry) (p n a size : ℕ) (k : Kind) (v : Verdict)
        → kind_of n ≡ Some k → verdict_of l p n a size ≡ Ok v → Follows l p k (a, a + size) v
    decides l p n a size k v e h =
        let known : kind_asked n ≡ Ok k = ap (λ (o : Option Kind). elim o as (λ _. Result Kind Refusal) [ Some k ↦ Ok k | None ↦ Err KindRefused ]) e in
        let from_parts = parts (privilege_asked p) (kind_asked n) (span_asked a size) (λ k s. judged l p k s (deciding l s)) k v known h in
        let span = span_is a size from_parts.0 from_parts.1 in
        let few : a < a + size = omega (arith, span.0) in
        let is : judged l p k (a, a + size) (deciding l (a, a + size)) ≡ v =
        ap (λ (s : ℕ × ℕ). judged l p k s (deciding l s)) span.1 ∙ from_parts.2 in
        subst (Follows l p k (a, a + size)) is (judged_follows l p k (a, a + size) few (deciding l (a, a + size)) (lowest_found l (a, a + size)))
