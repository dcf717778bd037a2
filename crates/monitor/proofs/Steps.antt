-- one call on the plain machine, and two runs that differ in what a set of slots does
use Rattle.std.proofs.Common.{◌≡◌, ℕ, ◌+◌, ◌-◌, ◌<◌, ◌≤◌, Bool, true, false, not, leb, List, length, get_or, replicate, Some, None, Err, Option, sym, refl, ap, ◌∙◌, subst, inl, inr, arith}
use lib.ListN.{get_or-eq_default, length-replicate}
use lib.Seq.{length-sets}
use Rattle.std.proofs.lemmas.Bool.{and_cases, and_parts, both_ways, cases_lt, eqb-true, leb-true, not-false, not-true}
use Rattle.refusals.specs.Questions.{ruled}
use Rattle.monitor.specs.Layout.{common_past}
use Rattle.monitor.specs.Roll.{Accepted, Belongs, Holds, Roll, accept, hands_back, judges, next, only, questions, runs_in, within}
use Rattle.monitor.specs.Slots.{InRange, os_runs, ranged}
use Rattle.monitor.specs.Theorem.{Agree}
use Rattle.monitor.specs.declared.answer.Denial.TheVariants.{Refused}
use Rattle.monitor.specs.declared.call.Call.{Call}
use Rattle.monitor.specs.declared.call.Call.TheVariants.{Pause, Finish, Destroy, Access, Register}
use Rattle.monitor.specs.declared.slot.Party.{Party}
use Rattle.monitor.specs.declared.slot.Party.TheVariants.{Os, Enclave}
use Rattle.monitor.proofs.Access.{access_agree, access_same, length_access, permits_may, store_stays}
use Rattle.monitor.proofs.Memory.{sets_agree, sets_out}
use Rattle.monitor.proofs.Plain.{accepted_answer, accepted_bytes, plain_after, plain_answer, wipe}
use Rattle.monitor.proofs.Rolls.{AllYes, all_yes, holds_next, next_cases, next_size, next_sound, ruled_cases, ruled_pair}
use Rattle.monitor.proofs.Sound.{Sound}

-- Who runs.

runs_turn : (w : Party) (E : ℕ → Bool) → runs_in w E ≡ true → (i : ℕ) × (E i ≡ true) × (w ≡ Enclave i)
runs_turn Os E h = cc
runs_turn (Enclave i) E h = (i, h, refl)

pub within_turn : (E : ℕ → Bool) (r : Roll) (c : Call) → within E r c ≡ true → ((i : ℕ) × (E i ≡ true) × (r.turn ≡ Enclave i)) × (hands_back c ≡ false)
within_turn E r c h =
    let w = and_parts (runs_in r.turn E) (not (hands_back c)) h in
    (runs_turn r.turn E w.0, not-true (hands_back c) w.1)

pub own_turn : (e : ℕ) (r : Roll) (c : Call) → within (only e) r c ≡ true → (r.turn ≡ Enclave e) × (hands_back c ≡ false)
own_turn e r c h =
    let w = within_turn (only e) r c h in
    let i = w.0 in
    (i.2 ∙ ap Enclave (eqb-true i.0 e i.1), w.1)

pub without : (E : ℕ → Bool) (r : Roll) (c : Call) → within E r c ≡ false → hands_back c ≡ false → runs_in r.turn E ≡ false
without E r c h k =
    elim (and_cases (runs_in r.turn E) (not (hands_back c)) h) [
      | inl w ↦ w
      | inr w ↦ absurd (both_ways (hands_back c) k (not-false (hands_back c) w))
    ]

-- what belongs to a party outside a set of slots is held by none of them
pub unseen_by : (r : Roll) (w : Party) (E : ℕ → Bool) (e p : ℕ) → Sound r → E e ≡ true → runs_in w E ≡ false → Belongs r w p → Holds r e p → ⊥
unseen_by r Os E e p s y h b k = b.2 e k
unseen_by r (Enclave i) E e p s y h b k = both_ways (E e) (ap E (sym (s.one i e p b k)) ∙ h) y

pub belongs_past : (r : Roll) (w : Party) (p : ℕ) → Sound r → Belongs r w p → common_past ≤ p
belongs_past r Os p s b = b.0
belongs_past r (Enclave i) p s b = (s.place i p b).1

-- A call inside an enclave leaves the roll as it is.

inside_accept : (r : Roll) (c : Call) → os_runs r.turn ≡ false → hands_back c ≡ false → AllYes (questions r c) → accept r c ≡ r
unfolding accept
inside_accept r Pause t h y = cc
inside_accept r (Finish w) t h y = cc
inside_accept r (Access k a n v) t h y = refl
inside_accept r (Register n w) t h y = refl
inside_accept r _ t h y = absurd (both_ways (os_runs r.turn) t y.1.1.0)

pub inside_roll : (E : ℕ → Bool) (r : Roll) (c : Call) → within E r c ≡ true → next r c ≡ r
inside_roll E r c h =
    let w = within_turn E r c h in
    next_cases (λ (q : Roll). q ≡ r) r c (λ q. inside_accept r c (ap os_runs w.0.2) w.1 (all_yes (questions r c) q)) refl

-- What a call leaves of the bytes.

pub length_wipe : (o : Option (ℕ × ℕ)) (bs : List ℕ) → length (wipe o bs) ≡ length bs
length_wipe None bs = refl
length_wipe (Some r) bs = length-sets bs r.0 (replicate (r.1 - r.0) 0)

pub length_after : (r : Roll) (bs : List ℕ) (c : Call) → length (plain_after r bs c) ≡ length bs
unfolding plain_after
length_after r bs c = ruled_cases (λ (l : List ℕ). length l ≡ length bs) (judges r c) (accepted_bytes r bs c) (λ _. bs) (λ _. acc c) (λ _ _. refl)
  where
    acc : (c : Call) → length (accepted_bytes r bs c) ≡ length bs
    acc (Destroy s) = length_wipe (ranged (r.slot s)) bs
    acc (Access k a n v) = length_access r bs k a n v
    acc _ = refl

wipe_out : (o : Option (ℕ × ℕ)) (bs : List ℕ) (p : ℕ) → (InRange o p → ⊥) → get_or (wipe o bs) p 0 ≡ get_or bs p 0
wipe_out None bs p h = refl
wipe_out (Some r) bs p h =
    let z = length-replicate {A = ℕ} (r.1 - r.0) 0 in
    sets_out (replicate (r.1 - r.0) 0) bs r.0 p
    (elim (cases_lt p r.0) [ inl l ↦ inl l | inr l ↦ elim (cases_lt p r.1) [ inl m ↦ absurd (h (l, m)) | inr m ↦ inr (omega arith) ] ])

wipe_agree : (o : Option (ℕ × ℕ)) (xs ys : List ℕ) (p : ℕ) → p < length xs → p < length ys → ((InRange o p → ⊥) → get_or xs p 0 ≡ get_or ys p 0)
    → get_or (wipe o xs) p 0 ≡ get_or (wipe o ys) p 0
wipe_agree None xs ys p lx ly h = h (λ z. z)
wipe_agree (Some r) xs ys p lx ly h =
    let z = length-replicate {A = ℕ} (r.1 - r.0) 0 in
    sets_agree (replicate (r.1 - r.0) 0) xs ys r.0 p lx ly (λ o. h (λ k. elim o [ inl l ↦ omega arith | inr l ↦ omega arith ]))

-- a byte that is not the running party's, and not in a range that is destroyed, stays
pub bytes_stay : (r : Roll) (bs : List ℕ) (c : Call) (p : ℕ) → Sound r → length bs ≡ r.size
    → (hands_back c ≡ false → Belongs r r.turn p → ⊥) → ((s : ℕ) → c ≡ Destroy s → judges r c ≡ Accepted → Holds r s p → ⊥)
    → get_or (plain_after r bs c) p 0 ≡ get_or bs p 0
unfolding plain_after
bytes_stay r bs c p o e b d =
    ruled_cases (λ (l : List ℕ). get_or l p 0 ≡ get_or bs p 0) (judges r c) (accepted_bytes r bs c) (λ _. bs) (λ q. acc c b (λ s z. d s z q)) (λ _ _. refl)
  where
    acc : (c : Call) → (hands_back c ≡ false → Belongs r r.turn p → ⊥) → ((s : ℕ) → c ≡ Destroy s → Holds r s p → ⊥)
        → get_or (accepted_bytes r bs c) p 0 ≡ get_or bs p 0
    acc (Destroy s) h i = wipe_out (ranged (r.slot s)) bs p (i s refl)
    acc (Access k a n v) h i = store_stays r bs k a n v p o e (h refl)
    acc _ h i = refl

-- Two runs that differ only in what a set of slots does.

pub record Alike (E : ℕ → Bool) (r q : Roll) (xs ys : List ℕ) : Type 0 where
  pub sound : Sound r
  pub same_roll : q ≡ r
  pub len_x : length xs ≡ r.size
  pub len_y : length ys ≡ r.size
  pub same : Agree xs ys (λ p. (i : ℕ) → E i ≡ true → Holds r i p → ⊥)

pub alike_in : (E : ℕ → Bool) (r q : Roll) (xs ys : List ℕ) (c : Call) → within E r c ≡ true → Alike E r q xs ys → Alike E (next r c) q (plain_after r xs c) ys
alike_in E r q xs ys c h a =
    let t = (within_turn E r c h).0 in
    let n = inside_roll E r c h in
    rw n record {
      sound = a.sound;
      same_roll = a.same_roll;
      len_x = length_after r xs c ∙ a.len_x;
      len_y = a.len_y;
      same = λ p out.
          bytes_stay r xs c p a.sound a.len_x (λ _ b. out t.0 t.1 (subst (λ w. Belongs r w p) t.2 b)) (λ s d ok _. destroys s d ok)
          ∙ a.same p out;
    }
  where
    destroys : (s : ℕ) → c ≡ Destroy s → judges r c ≡ Accepted → ⊥
    destroys s d ok =
        let y = all_yes (questions r (Destroy s)) (subst (λ x. judges r x ≡ Accepted) d ok) in
        both_ways (os_runs r.turn) (ap os_runs (within_turn E r c h).0.2) y.1.1.0

pub alike_answer : (E : ℕ → Bool) (r : Roll) (xs ys : List ℕ) (c : Call) → within E r c ≡ false → Alike E r r xs ys → plain_answer r xs c ≡ plain_answer r ys c
unfolding plain_answer
alike_answer E r xs ys c h a = ap (λ x. ruled (judges r c) x (λ e. Err (Refused e))) (acc c h)
  where
    acc : (c : Call) → within E r c ≡ false → accepted_answer r xs c ≡ accepted_answer r ys c
    acc (Access k b n v) h =
        access_same r r xs ys k b n refl (λ _. ap (λ z. leb (b + n) z) (a.len_x ∙ sym a.len_y))
        (λ w z p l m.
        let fits = leb-true (b + n) (length xs) z in let len = a.len_x in
        a.same p (λ e Ee held.
        elim (permits_may r k b n a.sound w (omega arith)) [
          | inl o ↦ unseen_by r r.turn E e p a.sound Ee (without E r (Access k b n v) h refl) (o p l m) held
          | inr o ↦ let y = (a.sound.place e p held).1 in let x = o.2 in omega arith
        ]))
    acc _ h = refl

alike_bytes : (E : ℕ → Bool) (r : Roll) (xs ys : List ℕ) (c : Call) (p : ℕ) → Alike E r r xs ys → p < r.size
    → ((e : ℕ) → E e ≡ true → Holds (next r c) e p → ⊥)
    → get_or (plain_after r xs c) p 0 ≡ get_or (plain_after r ys c) p 0
unfolding plain_after
alike_bytes E r xs ys c p a l out =
    ruled_pair (λ (k m : List ℕ). get_or k p 0 ≡ get_or m p 0) (judges r c) (accepted_bytes r xs c) (accepted_bytes r ys c) (λ _. xs) (λ _. ys)
    (λ _. acc c refl) (λ n q. stays (λ e z y _. cc (sym q ∙ y)))
  where
    lx : p < length xs
    lx = let z = a.len_x in omega arith

    ly : p < length ys
    ly = let z = a.len_y in omega arith

    stays : ((e : ℕ) → c ≡ Destroy e → judges r c ≡ Accepted → Holds r e p → ⊥) → get_or xs p 0 ≡ get_or ys p 0
    stays d = a.same p (λ e Ee h. out e Ee (holds_next r c e p (λ z y. d e z y h) h))

    kept : (d : Call) → c ≡ d → ((e : ℕ) → d ≡ Destroy e → ⊥) → get_or xs p 0 ≡ get_or ys p 0
    kept d q n = stays (λ e z _ _. n e (sym q ∙ z))

    acc : (d : Call) → c ≡ d → get_or (accepted_bytes r xs d) p 0 ≡ get_or (accepted_bytes r ys d) p 0
    acc (Destroy s) q =
        wipe_agree (ranged (r.slot s)) xs ys p lx ly
        (λ out_of_lem. stays (λ e z _ h. let w : s ≡ e = cc in out_of_lem (subst (λ i. Holds r i p) (sym w) h)))
    acc (Access k b n v) q =
        access_agree r r xs ys k b n v p refl (λ _. ap (λ z. leb (b + n) z) (a.len_x ∙ sym a.len_y)) lx ly
        (kept (Access k b n v) q (λ e z. cc))
    acc d q = kept d q (λ e z. cc)

pub alike_out : (E : ℕ → Bool) (r : Roll) (xs ys : List ℕ) (c : Call) → Alike E r r xs ys
    → Alike E (next r c) (next r c) (plain_after r xs c) (plain_after r ys c)
alike_out E r xs ys c a =
    let lx = length_after r xs c ∙ a.len_x ∙ sym (next_size r c) in
    let ly = length_after r ys c ∙ a.len_y ∙ sym (next_size r c) in
    record {
      sound = next_sound r c a.sound;
      same_roll = refl;
      len_x = lx;
      len_y = ly;
      same = λ p out.
          elim (cases_lt p r.size) [
            | inl l ↦ alike_bytes E r xs ys c p a l out
            | inr l ↦ let z = next_size r c in
                get_or-eq_default (plain_after r xs c) 0 {n = p} (omega arith) ∙ sym (get_or-eq_default (plain_after r ys c) 0 {n = p} (omega arith))
          ];
    }
