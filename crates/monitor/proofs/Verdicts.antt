-- the bank's verdicts are those of the roll
use Rattle.std.proofs.Common.{◌≡◌, ℕ, zero, suc, pred, ◌+◌, ◌-◌, ◌/◌, ◌^◌, ◌<◌, ◌≤◌, min, max, Bool, true, false, cond, not, ◌&&◌, ◌||◌, eqb, leb, List, length, Some, None, Ok, Err, Option, Result, sym, refl, ap, ◌∙◌, subst, inl, inr, arith}
use lib.Bits.{bit_and}
use Rattle.std.proofs.lemmas.Bool.{and_from, and_parts, and_right, both_ways, cases_Bool, cases_eq, cases_lt, eq-eqb, le-leb, lt-leb, ltb-true, ne_eqb}
use Rattle.std.proofs.lemmas.Bool.Decides.{nat_tests}
use Rattle.std.proofs.Math.Bool.{and-false, and-true, and_comm, or-false}
use Rattle.refusals.specs.declared.Refusal.{Refusal}
use Rattle.bank.specs.Content.{count, entry_of, is_locked, zero_entry}
use Rattle.bank.specs.Ranges.{end, napot_range, range_by, range_of, trailing_ones, word_below}
use Rattle.bank.specs.Registers.{is_privilege}
use Rattle.bank.specs.Verdicts.{covers as covers_span, deciding, fault_cause, is_size, judged, kind_asked, kind_number, lowest, meets, needed_bit, privilege_asked, span_asked, verdict_of}
use Rattle.bank.specs.declared.entry.Entry.{Entry}
use Rattle.bank.specs.declared.verdict.Kind.{Kind}
use Rattle.bank.specs.declared.verdict.Kind.TheVariants.{Fetch, Load, Store}
use Rattle.bank.specs.declared.verdict.Verdict.{Verdict}
use Rattle.bank.specs.declared.verdict.Verdict.TheVariants.{Allowed, Fault as VerdictFault}
use Rattle.bank.proofs.Words.{size_steps, word_back}
use Rattle.monitor.specs.Bytes.{accessed, stored}
use Rattle.monitor.specs.Content.{access_answer, access_bytes, cause_of, is_allowed}
use Rattle.monitor.specs.Layout.{common_past, first_slot, opened, os_entry, shut}
use Rattle.monitor.specs.Roll.{Roll, apart, apart_below, only, runs_in}
use Rattle.monitor.specs.Slots.{ranged}
use Rattle.monitor.specs.declared.answer.Denial.TheVariants.{Fault}
use Rattle.monitor.specs.declared.answer.Layer.TheVariants.{Protection, Memory}
use Rattle.monitor.specs.declared.slot.Party.{Party}
use Rattle.monitor.specs.declared.slot.Party.TheVariants.{Os, Enclave}
use Rattle.monitor.specs.declared.slot.Slot.{Slot}
use Rattle.monitor.proofs.Access.{size_pos}
use Rattle.monitor.proofs.Held.{Held, entry, rank, slot_entry, system_entry}
use Rattle.monitor.proofs.Plain.{covers, permits, permits_turn, plain_access_answer, plain_access_bytes}
use Rattle.monitor.proofs.Rolls.{inside, range_cases}
use Rattle.monitor.proofs.Sound.{Shaped, Sound}

-- Verdicts, entry by entry.

-- what an entry lets an access do
abbrev lets : Entry → Option (ℕ × ℕ) → ℕ → Kind → ℕ × ℕ → Bool
lets e g p k s = covers_span g s && ((eqb p 3 && not (is_locked e.config)) || not (eqb (bit_and e.config (needed_bit k)) 0))

-- the verdict of the n entries from i on
abbrev allowed_from : List Entry → ℕ → ℕ → ℕ → Kind → ℕ × ℕ → Bool
allowed_from l n i p k s = is_allowed (Ok (judged l p k s (lowest l s n i)))

decided : (x y z : Bool) (o : Option ℕ) (c : ℕ)
    → is_allowed (Ok (cond x (cond y (Allowed o) (cond z (VerdictFault o c) (Allowed o))) (VerdictFault o c))) ≡ (x && (y || not z))
decided true true z o c = refl
decided true false true o c = refl
decided true false false o c = refl
decided false y z o c = refl

one : (l : List Entry) (n i p : ℕ) (k : Kind) (s : ℕ × ℕ)
    → allowed_from l (suc n) i p k s ≡ cond (meets (range_of l i) s) (lets (entry_of l i) (range_of l i) p k s) (allowed_from l n (i + 1) p k s)
unfolding lowest
one l n i p k s = go (meets (range_of l i) s)
  where
    go : (b : Bool)
        → is_allowed (Ok (judged l p k s (cond b (Some i) (lowest l s n (i + 1)))))
        ≡ cond b (lets (entry_of l i) (range_of l i) p k s) (allowed_from l n (i + 1) p k s)
    go true =
        decided (covers_span (range_of l i) s) (eqb p 3 && not (is_locked (entry_of l i).config))
        (eqb (bit_and (entry_of l i).config (needed_bit k)) 0) (Some i) (fault_cause k)
    go false = refl

-- What the entries hold.

-- the range of an entry, with the word of the entry below
abbrev range_in : ℕ → Entry → Option (ℕ × ℕ)
range_in low e = range_by (bit_and e.config 0x18) low e.word

-- one entry, known with its range, and then the others
step : (l : List Entry) (n i p : ℕ) (k : Kind) (s : ℕ × ℕ) (e : Entry) (g : Option (ℕ × ℕ)) → entry_of l i ≡ e → range_in (word_below l i) e ≡ g
    → allowed_from l (suc n) i p k s ≡ cond (meets g s) (lets e g p k s) (allowed_from l n (i + 1) p k s)
step l n i p k s e g h q =
    one l n i p k s
    ∙ ap (λ x. cond (meets (range_in (word_below l i) x) s) (lets x (range_in (word_below l i) x) p k s) (allowed_from l n (i + 1) p k s)) h
    ∙ ap (λ x. cond (meets x s) (lets e x p k s) (allowed_from l n (i + 1) p k s)) q

fixed_0 : napot_range 0x1FF ≡ (0, 4096)
unfolding trailing_ones
fixed_0 = refl

fixed_1 : napot_range 0x5FF ≡ (4096, 8192)
unfolding trailing_ones
fixed_1 = refl

fixed_15 : napot_range 0xFFFFFFFF ≡ (0, 2 ^ 34)
unfolding trailing_ones
fixed_15 = refl

pub slot_range : (r : Roll) (low i f u : ℕ) → Sound r → r.size ≤ 2 ^ 34 → ranged (r.slot i) ≡ Some (f, u)
    → range_in low (slot_entry r.turn i (Some (f, u))) ≡ Some (f, u)
slot_range r low i f u s z h = by_run (runs_in r.turn (only i))
  where
    o : Shaped i f u
    o = s.shape i f u h

    word : f / 4 + (u - f) / 8 - 1 ≡ f / 4 + 2 ^ (o.power - 3) - 1
    word = let t = o.to in let a = o.twelve in let b = o.thirty in omega (arith, size_steps o.power (omega arith) (omega arith))

    fits : f + 2 ^ o.power ≤ 2 ^ 34
    fits =
        let l = s.some i f u h in
        let x = (s.place i (pred u) (inside r i f u (pred u) h (omega arith) (omega arith))).2 in
        let t = o.to in
        omega arith

    is : napot_range (f / 4 + (u - f) / 8 - 1) ≡ (f, u)
    is =
        let a = o.twelve in let b = o.thirty in
        ap napot_range word ∙ word_back f o.power (omega arith) (omega arith) o.aligned fits ∙ ap (λ (x : ℕ). (f, x)) (sym o.to)

    by_run : (w : Bool) → range_in low (entry (cond w opened shut) (f / 4 + (u - f) / 8 - 1)) ≡ Some (f, u)
    by_run true = ap Some is
    by_run false = ap Some is

low_rank : (w : Party) → eqb (rank w) 3 ≡ false
low_rank Os = refl
low_rank (Enclave e) = refl

-- an open entry has the bit of each kind, and a shut one none
right_slot : (k : Kind) (w : Bool) → not (eqb (bit_and (cond w opened shut) (needed_bit k)) 0) ≡ w
right_slot Fetch true = refl
right_slot Load true = refl
right_slot Store true = refl
right_slot Fetch false = refl
right_slot Load false = refl
right_slot Store false = refl

right_shared : (k : Kind) → not (eqb (bit_and 0x9D (needed_bit k)) 0) ≡ not (eqb (kind_number k) 2)
right_shared Fetch = refl
right_shared Load = refl
right_shared Store = refl

pub unlocked_byte : (w : Bool) → is_locked (cond w opened shut) ≡ false
unlocked_byte true = refl
unlocked_byte false = refl

-- Tests.

cond_and : (x y : Bool) → cond x y false ≡ (x && y)
cond_and true y = refl
cond_and false y = refl

swap : (x y : Bool) → (x && y) ≡ ((y && x) || false)
swap x y = and_comm x y ∙ sym (or-false (y && x))

-- a range that is not empty meets a span exactly if the two are not apart
meets_apart : (f u a t : ℕ) → f < u → a < t → meets (Some (f, u)) (a, t) ≡ not (apart (Some (f, u)) a t)
meets_apart f u a t h k = grind (arith, nat_tests)

apart_at : (f : ℕ → Slot) (a t n i : ℕ) → apart_below f a t n ≡ true → i < n → apart (ranged (f i)) a t ≡ true
unfolding apart_below
apart_at f a t zero i h l = absurd (omega arith)
apart_at f a t (suc n) i h l =
    let w = and_parts (apart (ranged (f n)) a t) (apart_below f a t n) h in
    elim (cases_eq i n) [ inl e ↦ rw e w.0 | inr ne ↦ apart_at f a t n i w.1 (omega arith) ]

-- The entry of a live slot lets the enclave do what the roll permits.

lets_slot : (w : Party) (i f u : ℕ) (k : Kind) (a t : ℕ)
    → lets (slot_entry w i (Some (f, u))) (Some (f, u)) (rank w) k (a, t) ≡ (covers (Some (f, u)) a t && runs_in w (only i))
lets_slot w i f u k a t =
    rw (low_rank w, cond_and (leb f a) (leb t u)) (ap (λ x. covers (Some (f, u)) a t && x) (right_slot k (runs_in w (only i))))

-- a slot that covers an access meets no other
covers_none : (r : Roll) (e i a t : ℕ) → Sound r → (e ≡ i → ⊥) → a < t → apart (ranged (r.slot i)) a t ≡ false → covers (ranged (r.slot e)) a t ≡ false
covers_none r e i a t s ne l h = go (ranged (r.slot e)) (ranged (r.slot i)) refl refl h
  where
    go : (x y : Option (ℕ × ℕ)) → ranged (r.slot e) ≡ x → ranged (r.slot i) ≡ y → apart y a t ≡ false → covers x a t ≡ false
    go None y p q k = refl
    go (Some x) None p q k = cc
    go (Some x) (Some y) p q k =
        elim (cases_Bool (covers (Some x) a t)) [
          | inl z ↦
              let n = s.some i y.0 y.1 q in
              let z0 : (x.0 ≤ a) × (t ≤ x.1) = grind (arith, nat_tests) in
              let k0 : (y.0 < t) × (a < y.1) = grind (arith, nat_tests) in
              let m = max a y.0 in
              absurd (ne (s.one e i m (inside r e x.0 x.1 m p (omega arith) (omega arith)) (inside r i y.0 y.1 m q (omega arith) (omega arith))))
          | inr z ↦ z
        ]

-- where slot i is met, the roll permits what slot i covers while it runs
turn_met : (r : Roll) (w : Party) (i f u a t : ℕ) → Sound r → i < os_entry → a < t → ranged (r.slot i) ≡ Some (f, u) → apart (ranged (r.slot i)) a t ≡ false
    → (covers (Some (f, u)) a t && runs_in w (only i)) ≡ permits_turn r w a t
turn_met r Os i f u a t s l lt h k =
    and-false (covers (Some (f, u)) a t)
    ∙ sym (and_right (leb common_past a) (apart_below r.slot a t os_entry)
    (elim (cases_Bool (apart_below r.slot a t os_entry)) [
      | inl z ↦ absurd (both_ways (apart (ranged (r.slot i)) a t) k (apart_at r.slot a t os_entry i z l))
      | inr z ↦ z
    ]))
turn_met r (Enclave e) i f u a t s l lt h k =
    elim (cases_eq e i) [
      | inl q ↦ rw (q, eq-eqb i i refl, h) (and-true (covers (Some (f, u)) a t))
      | inr ne ↦ rw (ne_eqb e i ne, covers_none r e i a t s ne lt k) (and-false (covers (Some (f, u)) a t))
    ]

-- where no slot is met, no enclave may
turn_apart : (r : Roll) (e a t : ℕ) → Sound r → a < t → apart_below r.slot a t os_entry ≡ true → covers (ranged (r.slot e)) a t ≡ false
turn_apart r e a t s lt h =
    range_cases (λ x. covers x a t ≡ false) r e refl
    (λ f u p.
    let n = s.some e f u p in
    let l = (s.place e f (inside r e f u f p (omega arith) n)).0 in
    let k : apart (Some (f, u)) a t ≡ true = subst (λ x. apart x a t ≡ true) p (apart_at r.slot a t os_entry e h l) in
    elim (cases_Bool (covers (Some (f, u)) a t)) [ inl z ↦ grind (arith, nat_tests) | inr z ↦ z ])

-- below the end of the common page nothing is permitted to the running party alone
low_covers : (r : Roll) (w : Party) (a t : ℕ) → Sound r → a < common_past → permits_turn r w a t ≡ false
low_covers r Os a t s l = rw (lt-leb common_past a l)
low_covers r (Enclave e) a t s l =
    range_cases (λ x. covers x a t ≡ false) r e refl
    (λ f u p.
    let n = s.some e f u p in
    let k = (s.place e f (inside r e f u f p (omega arith) n)).1 in
    rw (lt-leb f a (omega arith)))

-- the first two entries are no slots
first_two : (r : Roll) (i a t : ℕ) → Sound r → i < first_slot → apart (ranged (r.slot i)) a t ≡ true
first_two r i a t s l =
    range_cases (λ x. apart x a t ≡ true) r i refl (λ f u p. let z = (s.shape i f u p).from_first in absurd (omega arith))

-- the last entry, open, lets every access do what it asks for
last_opened : (k : Kind) (a t : ℕ) → a < t → t ≤ 2 ^ 34
    → cond (meets (Some (0, 2 ^ 34)) (a, t)) (lets (entry opened 0xFFFFFFFF) (Some (0, 2 ^ 34)) 1 k (a, t)) false ≡ true
last_opened k a t lt top =
    let m : meets (Some (0, 2 ^ 34)) (a, t) ≡ true = grind (arith, nat_tests) in
    let c : covers_span (Some (0, 2 ^ 34)) (a, t) ≡ true = grind (arith, nat_tests) in
    rw (m, c) (right_slot k true)

-- The verdict at the running party's privilege.

module _ (l : List Entry) (r : Roll) (s : Sound r) (b : Held l r) (small : r.size ≤ 2 ^ 34) (k : Kind) (a t : ℕ) (lt : a < t) (top : t ≤ 2 ^ 34) where
  ending : apart_below r.slot a t os_entry ≡ true → common_past ≤ a → allowed_from l 1 os_entry (rank r.turn) k (a, t) ≡ permits_turn r r.turn a t
  unfolding lowest
  ending h far = go r.turn b.last
    where
      go : (w : Party) → entry_of l os_entry ≡ system_entry w → allowed_from l 1 os_entry (rank w) k (a, t) ≡ permits_turn r w a t
      go Os q =
          step l 0 os_entry 1 k (a, t) (entry opened 0xFFFFFFFF) (Some (0, 2 ^ 34)) q (ap Some fixed_15) ∙ last_opened k a t lt top
          ∙ sym (and_from (leb common_past a) (apart_below r.slot a t os_entry) (le-leb common_past a far) h)
      go (Enclave e) q = step l 0 os_entry 0 k (a, t) (entry 0 0xFFFFFFFF) None q refl ∙ sym (turn_apart r e a t s lt h)

  -- the slots from i on
  loop : (n i : ℕ) → i + n ≡ os_entry → first_slot ≤ i → common_past ≤ a → apart_below r.slot a t i ≡ true
      → allowed_from l (suc n) i (rank r.turn) k (a, t) ≡ permits_turn r r.turn a t
  unfolding apart_below
  loop zero i e m far h =
      let q : i ≡ os_entry = omega arith in
      subst (λ j. allowed_from l 1 j (rank r.turn) k (a, t) ≡ permits_turn r r.turn a t) (sym q)
      (ending (subst (λ j. apart_below r.slot a t j ≡ true) q h) far)
  loop (suc n) i e m far h =
      go (ranged (r.slot i)) refl (b.slot i m (omega arith)) (λ z. loop n (i + 1) (omega arith) (omega arith) far (more z))
    where
      more : apart (ranged (r.slot i)) a t ≡ true → apart_below r.slot a t (i + 1) ≡ true
      more z = let q : i + 1 ≡ suc i = omega arith in rw q (and_from (apart (ranged (r.slot i)) a t) (apart_below r.slot a t i) z h)

      go : (x : Option (ℕ × ℕ)) → ranged (r.slot i) ≡ x → entry_of l i ≡ slot_entry r.turn i x
          → (apart (ranged (r.slot i)) a t ≡ true → allowed_from l (suc n) (i + 1) (rank r.turn) k (a, t) ≡ permits_turn r r.turn a t)
          → allowed_from l (suc (suc n)) i (rank r.turn) k (a, t) ≡ permits_turn r r.turn a t
      go None p q z = step l (suc n) i (rank r.turn) k (a, t) zero_entry None q refl ∙ z (ap (λ x. apart x a t) p)
      go (Some x) p q z =
          step l (suc n) i (rank r.turn) k (a, t) (slot_entry r.turn i (Some x)) (Some x) q (slot_range r (word_below l i) i x.0 x.1 s small p)
          ∙ rw (meets_apart x.0 x.1 a t (s.some i x.0 x.1 p) lt) (by (apart (Some x) a t) refl)
        where
          by : (y : Bool) → apart (Some x) a t ≡ y
              → cond (not y) (lets (slot_entry r.turn i (Some x)) (Some x) (rank r.turn) k (a, t)) (allowed_from l (suc n) (i + 1) (rank r.turn) k (a, t))
              ≡ permits_turn r r.turn a t
          by true q = z (ap (λ x. apart x a t) p ∙ q)
          by false q = lets_slot r.turn i x.0 x.1 k a t ∙ turn_met r r.turn i x.0 x.1 a t s (omega arith) lt p (ap (λ x. apart x a t) p ∙ q)

  first : allowed_from l count 0 (rank r.turn) k (a, t)
      ≡ cond (meets (Some (0, 4096)) (a, t)) (lets (entry shut 0x1FF) (Some (0, 4096)) (rank r.turn) k (a, t)) (allowed_from l 15 1 (rank r.turn) k (a, t))
  first = step l 15 0 (rank r.turn) k (a, t) (entry shut 0x1FF) (Some (0, 4096)) b.monitor (ap Some fixed_0)

  second : allowed_from l 15 1 (rank r.turn) k (a, t)
      ≡ cond (meets (Some (4096, 8192)) (a, t)) (lets (entry 0x9D 0x5FF) (Some (4096, 8192)) (rank r.turn) k (a, t)) (allowed_from l 14 2 (rank r.turn) k (a, t))
  second = step l 14 1 (rank r.turn) k (a, t) (entry 0x9D 0x5FF) (Some (4096, 8192)) b.shared (ap Some fixed_1)

  verdict_is : allowed_from l count 0 (rank r.turn) k (a, t) ≡ permits r (kind_number k) a t
  unfolding apart_below permits
  verdict_is =
      elim (cases_lt a 4096) [
        | inl m ↦
            let met : meets (Some (0, 4096)) (a, t) ≡ true = grind (arith, nat_tests) in
            first ∙ rw (met, low_rank r.turn, right_slot k false, low_covers r r.turn a t s (omega arith), lt-leb 4096 a m)
            (and-false (covers_span (Some (0, 4096)) (a, t)) ∙ sym (ap (λ x. x || false) (and-false (not (eqb (kind_number k) 2)))))
        | inr m ↦
            let past : meets (Some (0, 4096)) (a, t) ≡ false = grind (arith, nat_tests) in
            elim (cases_lt a 8192) [
              | inl n ↦
                  let met : meets (Some (4096, 8192)) (a, t) ≡ true = grind (arith, nat_tests) in
                  first ∙ rw past (second ∙
                  rw (met, low_rank r.turn, low_covers r r.turn a t s n, right_shared k, cond_and (leb 4096 a) (leb t 8192))
                  (swap (leb 4096 a && leb t 8192) (not (eqb (kind_number k) 2))))
              | inr n ↦
                  let past_1 : meets (Some (4096, 8192)) (a, t) ≡ false = grind (arith, nat_tests) in
                  let two : apart_below r.slot a t 2 ≡ true =
                  and_from (apart (ranged (r.slot 1)) a t) (apart_below r.slot a t 1) (first_two r 1 a t s (omega arith))
                  (and_from (apart (ranged (r.slot 0)) a t) true (first_two r 0 a t s (omega arith)) refl) in
                  first ∙ rw past (second ∙ rw (past_1, lt-leb t 8192 (omega arith))
                  (loop 13 2 refl (omega arith) n two ∙ rw (and-false (leb 4096 a), and-false (not (eqb (kind_number k) 2)))))
            ]
      ]

-- What is answered, and what it leaves.

-- questions that are all answered yes, and the judgement
chain : (asked : Result (Unit {0}) Refusal) (kinds : Result Kind Refusal) (span : Result (ℕ × ℕ) Refusal) (judge : Kind → ℕ × ℕ → Verdict) (k : Kind) (s : ℕ × ℕ)
    → asked ≡ Ok tt → kinds ≡ Ok k → span ≡ Ok s
    → ◌≡◌ {A = Result Verdict Refusal} (elim asked [
      | Ok _ ↦ elim kinds [
        | Ok k ↦ elim span [ Ok s ↦ Ok (judge k s) | Err e ↦ Err e ]
        | Err e ↦ Err e
      ]
      | Err e ↦ Err e
    ]) (Ok (judge k s))
chain (Ok _) (Ok m) (Ok u) judge k s a b c = let e : m ≡ k = cc in let d : u ≡ s = cc in cc
chain (Ok _) (Ok m) (Err x) judge k s a b c = cc
chain (Ok _) (Err x) span judge k s a b c = cc
chain (Err x) kinds span judge k s a b c = cc

known : (k : Kind) → kind_asked (kind_number k) ≡ Ok k
known Fetch = refl
known Load = refl
known Store = refl

-- a verdict on a well-formed access is the judgement of the deciding entry
judgement : (l : List Entry) (p : ℕ) (k : Kind) (a n : ℕ) → is_privilege p ≡ true → is_size n ≡ true → leb (a + n) end ≡ true
    → verdict_of l p (kind_number k) a n ≡ Ok (judged l p k (a, a + n) (deciding l (a, a + n)))
judgement l p k a n hp hn ht =
    chain (privilege_asked p) (kind_asked (kind_number k)) (span_asked a n) (λ k s. judged l p k s (deciding l s)) k (a, a + n) (rw hp) (known k) (rw (hn, ht))

numbered : (n : ℕ) → n ≤ 2 → (k : Kind) × (n ≡ kind_number k)
numbered zero h = (Fetch, refl)
numbered (suc zero) h = (Load, refl)
numbered (suc (suc zero)) h = (Store, refl)
numbered (suc (suc (suc n))) h = absurd (omega arith)

caused : (k : Kind) → fault_cause k ≡ cause_of (kind_number k)
caused Fetch = refl
caused Load = refl
caused Store = refl

-- a verdict allows, or is a fault of cause c
abbrev pub Shown : Bool → ℕ → Result Verdict Refusal → Type 0
Shown true c v = (o : Option ℕ) × (v ≡ Ok (Allowed o))
Shown false c v = (o : Option ℕ) × (v ≡ Ok (VerdictFault o c))

judged_shown : (l : List Entry) (p : ℕ) (k : Kind) (s : ℕ × ℕ) (o : Option ℕ) → Shown (is_allowed (Ok (judged l p k s o))) (fault_cause k) (Ok (judged l p k s o))
judged_shown l p k s None = go (eqb p 3)
  where
    go : (x : Bool) → let v : Verdict = cond x (Allowed None) (VerdictFault None (fault_cause k)) in Shown (is_allowed (Ok v)) (fault_cause k) (Ok v)
    go true = (None, refl)
    go false = (None, refl)
judged_shown l p k s (Some i) =
    go (covers_span (range_of l i) s) (eqb p 3 && not (is_locked (entry_of l i).config)) (eqb (bit_and (entry_of l i).config (needed_bit k)) 0)
  where
    go : (x y z : Bool)
        → let v : Verdict = cond x (cond y (Allowed (Some i)) (cond z (VerdictFault (Some i) (fault_cause k)) (Allowed (Some i)))) (VerdictFault (Some i) (fault_cause k)) in
        Shown (is_allowed (Ok v)) (fault_cause k) (Ok v)
    go true true z = (Some i, refl)
    go true false true = (Some i, refl)
    go true false false = (Some i, refl)
    go false y z = (Some i, refl)

ranked : (w : Party) → is_privilege (rank w) ≡ true
ranked Os = refl
ranked (Enclave e) = refl

module _ (l : List Entry) (r : Roll) (s : Sound r) (b : Held l r) (small : r.size ≤ 2 ^ 34)
    (kind a n : ℕ) (known_kind : kind ≤ 2) (known-size : is_size n ≡ true) (top : a + n ≤ 2 ^ 34) where
  -- the verdict on a well-formed access, with the cause of a fault
  pub verdict_shown : Shown (permits r kind a (a + n)) (cause_of kind) (verdict_of l (rank r.turn) kind a n)
  verdict_shown = go (numbered kind known_kind)
    where
      go : (k : Kind) × (kind ≡ kind_number k) → Shown (permits r kind a (a + n)) (cause_of kind) (verdict_of l (rank r.turn) kind a n)
      go (k, e) =
          let some = size_pos n known-size in
          let v : Result Verdict Refusal = Ok (judged l (rank r.turn) k (a, a + n) (deciding l (a, a + n))) in
          let d : verdict_of l (rank r.turn) (kind_number k) a n ≡ v =
          judgement l (rank r.turn) k a n (ranked r.turn) known-size (le-leb (a + n) end top) in
          let p : is_allowed v ≡ permits r (kind_number k) a (a + n) = verdict_is l r s b small k a (a + n) (omega arith) top in
          rw (e, d, sym p, sym (caused k)) (judged_shown l (rank r.turn) k (a, a + n) (deciding l (a, a + n)))

  pub verdict_permits : is_allowed (verdict_of l (rank r.turn) kind a n) ≡ permits r kind a (a + n)
  verdict_permits = go (permits r kind a (a + n)) (verdict_of l (rank r.turn) kind a n) verdict_shown
    where
      go : (x : Bool) (v : Result Verdict Refusal) → Shown x (cause_of kind) v → is_allowed v ≡ x
      go true v (o, e) = rw e
      go false v (o, e) = rw e

  pub answer_same : (bs : List ℕ) → access_answer (verdict_of l (rank r.turn) kind a n) bs kind a n ≡ plain_access_answer r bs kind a n
  unfolding plain_access_answer
  answer_same bs = go (permits r kind a (a + n)) (verdict_of l (rank r.turn) kind a n) verdict_shown
    where
      go : (x : Bool) (v : Result Verdict Refusal) → Shown x (cause_of kind) v
          → access_answer v bs kind a n
          ≡ cond x (cond (leb (a + n) (length bs)) (Ok (accessed bs kind a n)) (Err (Fault Memory (cause_of kind)))) (Err (Fault Protection (cause_of kind)))
      go true v (o, e) = ap (λ v. access_answer v bs kind a n) e
      go false v (o, e) = ap (λ v. access_answer v bs kind a n) e

  pub bytes_same : (bs : List ℕ) (v : ℕ) → access_bytes (verdict_of l (rank r.turn) kind a n) bs kind a n v ≡ plain_access_bytes r bs kind a n v
  unfolding plain_access_bytes
  bytes_same bs v = ap (λ x. cond (x && leb (a + n) (length bs)) (stored bs kind a n v) bs) verdict_permits

-- At machine privilege eight bytes of a live range may be stored.

lets_top : (w : Party) (i f u p : ℕ) → f ≤ p → p + 8 ≤ u → lets (slot_entry w i (Some (f, u))) (Some (f, u)) 3 Store (p, p + 8) ≡ true
lets_top w i f u p a b =
    let c : covers_span (Some (f, u)) (p, p + 8) ≡ true = grind (arith, nat_tests) in
    rw (c, unlocked_byte (runs_in w (only i)))

module _ (l : List Entry) (r : Roll) (s : Sound r) (b : Held l r) (small : r.size ≤ 2 ^ 34)
    (e f u p : ℕ) (live : ranged (r.slot e) ≡ Some (f, u)) (from : f ≤ p) (to : p + 8 ≤ u) where
  top_loop : (n i : ℕ) → i + n ≡ os_entry → first_slot ≤ i → i ≤ e → allowed_from l (suc n) i 3 Store (p, p + 8) ≡ true
  top_loop zero i q m o = let z = (s.place e p (inside r e f u p live from (omega arith))).0 in absurd (omega arith)
  top_loop (suc n) i q m o =
      elim (cases_eq i e) [
        | inl d ↦
            let h : ranged (r.slot i) ≡ Some (f, u) = rw d live in
            let met : meets (Some (f, u)) (p, p + 8) ≡ true = grind (arith, nat_tests) in
            step l (suc n) i 3 Store (p, p + 8) (slot_entry r.turn i (Some (f, u))) (Some (f, u))
            (b.slot i m (omega arith) ∙ ap (slot_entry r.turn i) h) (slot_range r (word_below l i) i f u s small h)
            ∙ rw met (lets_top r.turn i f u p from to)
        | inr d ↦ go (ranged (r.slot i)) refl (b.slot i m (omega arith)) d (top_loop n (i + 1) (omega arith) (omega arith) (omega arith))
      ]
    where
      go : (x : Option (ℕ × ℕ)) → ranged (r.slot i) ≡ x → entry_of l i ≡ slot_entry r.turn i x → (i ≡ e → ⊥)
          → allowed_from l (suc n) (i + 1) 3 Store (p, p + 8) ≡ true → allowed_from l (suc (suc n)) i 3 Store (p, p + 8) ≡ true
      go None h k d z = step l (suc n) i 3 Store (p, p + 8) zero_entry None k refl ∙ z
      go (Some x) h k d z =
          step l (suc n) i 3 Store (p, p + 8) (slot_entry r.turn i (Some x)) (Some x) k (slot_range r (word_below l i) i x.0 x.1 s small h)
          ∙ rw past z
        where
          past : meets (Some x) (p, p + 8) ≡ false
          past =
              elim (cases_Bool (meets (Some x) (p, p + 8))) [
                | inl t ↦
                    let y = ltb-true (max x.0 p) (min x.1 (p + 8)) t in
                    let m = max x.0 p in
                    absurd (d (s.one i e m (inside r i x.0 x.1 m h (omega arith) (omega arith)) (inside r e f u m live (omega arith) (omega arith))))
                | inr t ↦ t
              ]

  pub top_verdict : is_allowed (verdict_of l 3 2 p 8) ≡ true
  top_verdict =
      let far = (s.place e p (inside r e f u p live from (omega arith))).1 in
      let least = (s.place e (u - 1) (inside r e f u (u - 1) live (omega arith) (omega arith))).2 in
      let past_0 : meets (Some (0, 4096)) (p, p + 8) ≡ false = grind (arith, nat_tests) in
      let past_1 : meets (Some (4096, 8192)) (p, p + 8) ≡ false = grind (arith, nat_tests) in
      ap is_allowed (judgement l 3 Store p 8 refl refl (le-leb (p + 8) end (omega arith)))
      ∙ step l 15 0 3 Store (p, p + 8) (entry shut 0x1FF) (Some (0, 4096)) b.monitor (ap Some fixed_0)
      ∙ rw past_0 (step l 14 1 3 Store (p, p + 8) (entry 0x9D 0x5FF) (Some (4096, 8192)) b.shared (ap Some fixed_1)
      ∙ rw past_1 (top_loop 13 2 refl (omega arith) (s.shape e f u live).from_first))
