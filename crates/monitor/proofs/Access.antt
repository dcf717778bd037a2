-- which accesses the plain machine carries out, and which bytes they touch
use Rattle.std.proofs.Common.{◌≡◌, ℕ, zero, suc, pred, ◌+◌, ◌<◌, ◌≤◌, max, Bool, true, false, cond, ◌&&◌, eqb, leb, List, length, get_or, Some, None, Option, refl, ap, inl, inr, arith, Ok, Err}
use lib.Seq.{length-sets, sets}
use Rattle.std.proofs.lemmas.Bool.{and_from, and_parts, cases_lt, eqb-true, le-leb, leb-true, or_cases, or_left, or_right}
use Rattle.bank.specs.Verdicts.{is_size}
use Rattle.std.proofs.lemmas.Bool.Decides.{nat_tests}
use Rattle.monitor.specs.Bytes.{accessed, low_bytes, stored}
use Rattle.monitor.specs.Content.{cause_of}
use Rattle.monitor.specs.Layout.{common_first, common_past, os_entry}
use Rattle.monitor.specs.Roll.{Belongs, Holds, May, Roll, apart, apart_below}
use Rattle.monitor.specs.Slots.{InRange, ranged}
use Rattle.monitor.specs.declared.answer.Denial.TheVariants.{Fault}
use Rattle.monitor.specs.declared.answer.Layer.TheVariants.{Protection, Memory}
use Rattle.monitor.specs.declared.slot.Party.{Party}
use Rattle.monitor.specs.declared.slot.Party.TheVariants.{Os, Enclave}
use Rattle.monitor.proofs.Memory.{length_low, number_agree, sets_agree, sets_out}
use Rattle.monitor.proofs.Plain.{common, covers, permits, permits_turn, plain_access_answer, plain_access_bytes}
use Rattle.monitor.proofs.Rolls.{clear_in}
use Rattle.monitor.proofs.Sound.{Sound}

pub size_pos : (n : ℕ) → is_size n ≡ true → 0 < n
size_pos n h = grind (arith, nat_tests)

-- From permission to what belongs to whom.

covers_in : (o : Option (ℕ × ℕ)) (a t p : ℕ) → covers o a t ≡ true → a ≤ p → p < t → InRange o p
covers_in None a t p h l m = cc
covers_in (Some r) a t p h l m = grind (arith, nat_tests)

turn_belongs : (r : Roll) (w : Party) (a t p : ℕ) → Sound r → permits_turn r w a t ≡ true → t ≤ r.size → a ≤ p → p < t → Belongs r w p
turn_belongs r Os a t p s h z l m =
    let w = clear_in r a t s h in let b = w.0 in (omega arith, omega arith, λ i k. w.1 i p k l m)
turn_belongs r (Enclave e) a t p s h z l m = covers_in (ranged (r.slot e)) a t p h l m

pub common_parts : (kind a t : ℕ) → common kind a t ≡ true → (kind ≡ 2 → ⊥) × (common_first ≤ a) × (t ≤ common_past)
common_parts kind a t h = (λ e. grind (arith, nat_tests), grind (arith, nat_tests), grind (arith, nat_tests))

pub permits_may : (r : Roll) (kind a n : ℕ) → Sound r → permits r kind a (a + n) ≡ true → a + n ≤ r.size → May r kind a n
unfolding permits
permits_may r kind a n s h z =
    elim (or_cases (common kind a (a + n)) (permits_turn r r.turn a (a + n)) h) [
      | inl e ↦ inr (common_parts kind a (a + n) e)
      | inr e ↦ inl (λ p l m. turn_belongs r r.turn a (a + n) p s e z l m)
    ]

-- And back.

in_covers : (o : Option (ℕ × ℕ)) (a n : ℕ) → 0 < n → ((p : ℕ) → a ≤ p → p < a + n → InRange o p) → covers o a (a + n) ≡ true
in_covers None a n z h = absurd (h a (omega arith) (omega arith))
in_covers (Some r) a n z h =
    let x = h a (omega arith) (omega arith) in
    let y = h (a + pred n) (omega arith) (omega arith) in
    grind (arith, nat_tests)

in_apart : (o : Option (ℕ × ℕ)) (a n : ℕ) → 0 < n → ((f t : ℕ) → o ≡ Some (f, t) → f < t)
    → ((p : ℕ) → a ≤ p → p < a + n → InRange o p → ⊥) → apart o a (a + n) ≡ true
in_apart None a n z k h = refl
in_apart (Some r) a n z k h =
    let q = k r.0 r.1 refl in
    elim (cases_lt r.0 (a + n)) [
      | inl l ↦
          elim (cases_lt a r.1) [
            | inl m ↦ absurd (h (max a r.0) (omega arith) (omega arith) (omega arith))
            | inr m ↦ grind (arith, nat_tests)
          ]
      | inr l ↦ grind (arith, nat_tests)
    ]

pub in_apart_below : (r : Roll) (a n m : ℕ) → Sound r → 0 < n → ((p : ℕ) → a ≤ p → p < a + n → (i : ℕ) → Holds r i p → ⊥)
    → apart_below r.slot a (a + n) m ≡ true
unfolding apart_below
in_apart_below r a n zero s z h = refl
in_apart_below r a n (suc m) s z h =
    and_from (apart (ranged (r.slot m)) a (a + n)) (apart_below r.slot a (a + n) m)
    (in_apart (ranged (r.slot m)) a n z (s.some m) (λ p l k. h p l k m)) (in_apart_below r a n m s z h)

belongs_turn : (r : Roll) (w : Party) (a n : ℕ) → Sound r → 0 < n → ((p : ℕ) → a ≤ p → p < a + n → Belongs r w p)
    → (permits_turn r w a (a + n) ≡ true) × (a + n ≤ r.size)
belongs_turn r Os a n s z h =
    let x = h a (omega arith) (omega arith) in
    let y = h (a + pred n) (omega arith) (omega arith) in
    let x0 = x.0 in let y1 = y.1 in
    let free = in_apart_below r a n os_entry s z (λ p l k. (h p l k).2) in
    (and_from (leb common_past a) (apart_below r.slot a (a + n) os_entry) (le-leb common_past a x0) free, omega arith)
belongs_turn r (Enclave e) a n s z h =
    let y = (s.place e (a + pred n) (h (a + pred n) (omega arith) (omega arith))).2 in
    (in_covers (ranged (r.slot e)) a n z h, omega arith)

pub may_permits : (r : Roll) (kind a n : ℕ) → Sound r → 0 < n → common_past ≤ r.size → May r kind a n
    → (permits r kind a (a + n) ≡ true) × (a + n ≤ r.size)
unfolding permits
may_permits r kind a n s z b (inl h) =
    let w = belongs_turn r r.turn a n s z h in
    (or_right (common kind a (a + n)) (permits_turn r r.turn a (a + n)) w.0, w.1)
may_permits r kind a n s z b (inr h) =
    let ne = h.0 in let l = h.1 in let m = h.2 in
    let y : common kind a (a + n) ≡ true = grind (arith, nat_tests) in
    (or_left (common kind a (a + n)) (permits_turn r r.turn a (a + n)) y, omega arith)

-- A store touches what belongs to the running party, and nothing else.

stored_out : (bs : List ℕ) (kind a n v p : ℕ) → ((kind ≡ 2) → a ≤ p → p < a + n → ⊥) → get_or (stored bs kind a n v) p 0 ≡ get_or bs p 0
stored_out bs kind a n v p h = go (eqb kind 2) refl
  where
    go : (b : Bool) → eqb kind 2 ≡ b → get_or (cond b (sets bs a (low_bytes n v)) bs) p 0 ≡ get_or bs p 0
    go true e =
        let k = eqb-true kind 2 e in let z = length_low n v in
        sets_out (low_bytes n v) bs a p
        (elim (cases_lt p a) [ inl l ↦ inl l | inr l ↦ elim (cases_lt p (a + n)) [ inl m ↦ absurd (h k l m) | inr m ↦ inr (omega arith) ] ])
    go false e = refl

pub store_stays : (r : Roll) (bs : List ℕ) (kind a n v p : ℕ) → Sound r → length bs ≡ r.size → (Belongs r r.turn p → ⊥)
    → get_or (plain_access_bytes r bs kind a n v) p 0 ≡ get_or bs p 0
unfolding plain_access_bytes
store_stays r bs kind a n v p s e out = go (permits r kind a (a + n) && leb (a + n) (length bs)) refl
  where
    go : (b : Bool) → (permits r kind a (a + n) && leb (a + n) (length bs)) ≡ b → get_or (cond b (stored bs kind a n v) bs) p 0 ≡ get_or bs p 0
    go true q =
        let w = and_parts (permits r kind a (a + n)) (leb (a + n) (length bs)) q in
        let z = leb-true (a + n) (length bs) w.1 in
        stored_out bs kind a n v p (λ k l m. elim (permits_may r kind a n s w.0 (omega arith)) [ inl o ↦ out (o p l m) | inr o ↦ o.0 k ])
    go false q = refl

pub length_access : (r : Roll) (bs : List ℕ) (kind a n v : ℕ) → length (plain_access_bytes r bs kind a n v) ≡ length bs
unfolding plain_access_bytes
length_access r bs kind a n v = go (permits r kind a (a + n) && leb (a + n) (length bs)) (eqb kind 2)
  where
    go : (b c : Bool) → length (cond b (cond c (sets bs a (low_bytes n v)) bs) bs) ≡ length bs
    go true true = length-sets bs a (low_bytes n v)
    go true false = refl
    go false c = refl

-- One access on two memories that agree where it reads.

pub access_same : (r q : Roll) (xs ys : List ℕ) (kind a n : ℕ) → permits r kind a (a + n) ≡ permits q kind a (a + n)
    → (permits r kind a (a + n) ≡ true → leb (a + n) (length xs) ≡ leb (a + n) (length ys))
    → (permits r kind a (a + n) ≡ true → leb (a + n) (length xs) ≡ true → (p : ℕ) → a ≤ p → p < a + n → get_or xs p 0 ≡ get_or ys p 0)
    → plain_access_answer r xs kind a n ≡ plain_access_answer q ys kind a n
unfolding plain_access_answer
access_same r q xs ys kind a n h k g = rw (← h) (go (permits r kind a (a + n)) refl)
  where
    inner : (b : Bool) → permits r kind a (a + n) ≡ true → leb (a + n) (length xs) ≡ b
        → cond b (Ok (accessed xs kind a n)) (Err (Fault Memory (cause_of kind))) ≡ cond b (Ok (accessed ys kind a n)) (Err (Fault Memory (cause_of kind)))
    inner true z w = ap (λ x. Ok (cond (eqb kind 2) 0 x)) (number_agree xs ys a n (g z w))
    inner false z w = refl

    go : (b : Bool) → permits r kind a (a + n) ≡ b
        → cond b (cond (leb (a + n) (length xs)) (Ok (accessed xs kind a n)) (Err (Fault Memory (cause_of kind)))) (Err (Fault Protection (cause_of kind)))
        ≡ cond b (cond (leb (a + n) (length ys)) (Ok (accessed ys kind a n)) (Err (Fault Memory (cause_of kind)))) (Err (Fault Protection (cause_of kind)))
    go true z = rw (← k z) (inner (leb (a + n) (length xs)) z refl)
    go false z = refl

pub access_agree : (r q : Roll) (xs ys : List ℕ) (kind a n v p : ℕ) → permits r kind a (a + n) ≡ permits q kind a (a + n)
    → (permits r kind a (a + n) ≡ true → leb (a + n) (length xs) ≡ leb (a + n) (length ys))
    → p < length xs → p < length ys → get_or xs p 0 ≡ get_or ys p 0
    → get_or (plain_access_bytes r xs kind a n v) p 0 ≡ get_or (plain_access_bytes q ys kind a n v) p 0
unfolding plain_access_bytes
access_agree r q xs ys kind a n v p h k lx ly e = rw (← h) (go (permits r kind a (a + n)) refl)
  where
    inner : (b c : Bool) → get_or (cond b (cond c (sets xs a (low_bytes n v)) xs) xs) p 0 ≡ get_or (cond b (cond c (sets ys a (low_bytes n v)) ys) ys) p 0
    inner true true = sets_agree (low_bytes n v) xs ys a p lx ly (λ _. e)
    inner true false = e
    inner false c = e

    go : (b : Bool) → permits r kind a (a + n) ≡ b
        → get_or (cond (b && leb (a + n) (length xs)) (stored xs kind a n v) xs) p 0 ≡ get_or (cond (b && leb (a + n) (length ys)) (stored ys kind a n v) ys) p 0
    go true z = rw (← k z) (inner (leb (a + n) (length xs)) (eqb kind 2))
    go false z = e
