-- whole runs of the plain machine: it is closed off
use Rattle.std.proofs.Common.{◌≡◌, ℕ, ◌+◌, ◌^◌, ◌<◌, ◌≤◌, Bool, true, false, cond, not, ◌&&◌, eqb, leb, List, [], ◌∷◌, length, get_or, Some, Ok, Err, Result, sym, refl, ap, ◌∙◌, subst, arith}
use Rattle.std.proofs.lemmas.Bool.{and_from, eq-eqb, le-leb, leb-true, not_from_false}
use Rattle.refusals.specs.Questions.{ruled}
use Rattle.monitor.specs.Bytes.{accessed, stored}
use Rattle.monitor.specs.Content.{cause_of}
use Rattle.monitor.specs.Layout.{common_first, common_past, starts}
use Rattle.monitor.specs.Roll.{Accepted, Holds, May, Roll, accept, hands_back, judges, next, only, questions, rolled, start, within}
use Rattle.monitor.specs.Slots.{ranged}
use Rattle.monitor.specs.Theorem.{Agree, Between, ClosedOff, Lasts, Log, Unseen, calls, judged_by, log, others, own, ran}
use Rattle.monitor.specs.declared.answer.Denial.{Denial}
use Rattle.monitor.specs.declared.answer.Denial.TheVariants.{Fault, Refused}
use Rattle.monitor.specs.declared.answer.Layer.{Layer}
use Rattle.monitor.specs.declared.answer.Layer.TheVariants.{Protection, Memory}
use Rattle.monitor.specs.declared.call.Call.{Call}
use Rattle.monitor.specs.declared.call.Call.TheVariants.{Create, Access}
use Rattle.monitor.specs.declared.slot.Party.TheVariants.{Enclave}
use Rattle.monitor.specs.declared.slot.Slot.TheVariants.{Fresh}
use Rattle.monitor.proofs.Access.{may_permits, permits_may, size_pos}
use Rattle.monitor.proofs.Plain.{Simple, accepted_answer, permits, plain, plain_access_answer, plain_access_bytes, plain_after, plain_answer}
use Rattle.monitor.proofs.Rolls.{accepted_starts, all_yes, next_size, next_sound, put_same, rolled_size, rolled_sound, ruled_cases, start_sound, starts_big}
use Rattle.monitor.proofs.Sound.{Sound}
use Rattle.monitor.proofs.Steps.{Alike, alike_answer, alike_in, alike_out, length_after, own_turn}
use Rattle.monitor.proofs.Views.{View, range_fits, view_answer, view_in, view_out}

abbrev pub at : Roll → List ℕ → Simple
at r bs = record { roll = r; bytes = bs }

-- Along a run the machine's roll is the roll, and the memory keeps its length.

pub ran_roll : (r : Roll) (bs : List ℕ) (cs : List Call) → (ran plain (at r bs) cs).roll ≡ rolled r cs
ran_roll r bs [] = refl
ran_roll r bs (c ∷ cs) = ran_roll (next r c) (plain_after r bs c) cs

pub ran_length : (r : Roll) (bs : List ℕ) (cs : List Call) → length (ran plain (at r bs) cs).bytes ≡ length bs
ran_length r bs [] = refl
ran_length r bs (c ∷ cs) = ran_length (next r c) (plain_after r bs c) cs ∙ length_after r bs c

pair_path : (c : Call) (a b : Result ℕ Denial) (l k : Log) → a ≡ b → l ≡ k → ◌≡◌ {A = Log} ((c, a) ∷ l) ((c, b) ∷ k)
pair_path c a b l k p q = cc

-- What a set of slots does is unseen.

record Seen (E : ℕ → Bool) (r q : Roll) (xs ys : List ℕ) (cs : List Call) (l : Log) : Type 0 where
  logs : l ≡ log plain (at q ys) (calls l)
  ends : Alike E (rolled r cs) (ran plain (at q ys) (calls l)).roll (ran plain (at r xs) cs).bytes (ran plain (at q ys) (calls l)).bytes

run_unseen : (E : ℕ → Bool) (r q : Roll) (xs ys : List ℕ) (cs : List Call) → Alike E r q xs ys → Seen E r q xs ys cs (others E r (log plain (at r xs) cs))
run_unseen E r q xs ys [] a = record { logs = refl; ends = a }
run_unseen E r q xs ys (c ∷ cs) a =
    go (within E r c) refl (λ b. run_unseen E (next r c) q (plain_after r xs c) ys cs b)
    (λ b. run_unseen E (next r c) (next q c) (plain_after r xs c) (plain_after q ys c) cs b)
  where
    more : Log
    more = others E (next r c) (log plain (at (next r c) (plain_after r xs c)) cs)

    go : (b : Bool) → within E r c ≡ b
        → (Alike E (next r c) q (plain_after r xs c) ys → Seen E (next r c) q (plain_after r xs c) ys cs more)
        → (Alike E (next r c) (next q c) (plain_after r xs c) (plain_after q ys c)
        → Seen E (next r c) (next q c) (plain_after r xs c) (plain_after q ys c) cs more)
        → Seen E r q xs ys (c ∷ cs) (cond b more ((c, plain_answer r xs c) ∷ more))
    go true h k _ = let s = k (alike_in E r q xs ys c h a) in record { logs = s.logs; ends = s.ends }
    go false h _ k =
        let b : Alike E r r xs ys = record { sound = a.sound; same_roll = refl; len_x = a.len_x; len_y = a.len_y; same = a.same } in
        let s = k (rw a.same_roll (alike_out E r xs ys c b)) in
        record {
          logs = pair_path c (plain_answer r xs c) (plain_answer q ys c) _ _ (rw a.same_roll (alike_answer E r xs ys c h b)) s.logs;
          ends = s.ends;
        }

pub plain_unseen : (E : ℕ → Bool) → Unseen plain E
plain_unseen E bs xs ys h = (
  x.logs ∙ ap (log plain (at r bs)) h ∙ sym y.logs,
  λ p out.
      x.ends.same p out ∙ ap (λ k. get_or (ran plain (at r bs) k).bytes p 0) h
      ∙ sym (y.ends.same p (λ i Ei held. out i Ei (subst (λ w. Holds w i p) (sym rolls) held))),
)
  where
    r : Roll
    r = start (length bs)

    begin : Alike E r r bs bs
    begin = record { sound = start_sound (length bs); same_roll = refl; len_x = refl; len_y = refl; same = λ _ _. refl }

    x : Seen E r r bs bs xs (others E r (log plain (at r bs) xs))
    x = run_unseen E r r bs bs xs begin

    y : Seen E r r bs bs ys (others E r (log plain (at r bs) ys))
    y = run_unseen E r r bs bs ys begin

    rolls : rolled r xs ≡ rolled r ys
    rolls = sym x.ends.same_roll ∙ ap (λ k. (ran plain (at r bs) k).roll) h ∙ y.ends.same_roll

-- A slot sees nothing of what others do.

within_own : (e : ℕ) (q : Roll) (c : Call) → q.turn ≡ Enclave e → hands_back c ≡ false → within (only e) q c ≡ true
within_own e q c h k = rw h (and_from (eqb e e) (not (hands_back c)) (eq-eqb e e refl) (not_from_false (hands_back c) k))

record Viewed (e f t : ℕ) (r q : Roll) (xs ys : List ℕ) (cs : List Call) (l : Log) : Type 0 where
  logs : l ≡ log plain (at q ys) (calls l)
  ends : Agree (ran plain (at r xs) cs).bytes (ran plain (at q ys) (calls l)).bytes (Between f t)

run_viewed : (e f t : ℕ) (r q : Roll) (xs ys : List ℕ) (cs : List Call) → View e f t r q xs ys → Lasts e r cs
    → Viewed e f t r q xs ys cs (own e r (log plain (at r xs) cs))
run_viewed e f t r q xs ys [] v _ = record { logs = refl; ends = v.range }
run_viewed e f t r q xs ys (c ∷ cs) v d =
    go (within (only e) r c) refl (λ b. run_viewed e f t (next r c) (next q c) (plain_after r xs c) (plain_after q ys c) cs b d.1)
    (λ b. run_viewed e f t (next r c) q (plain_after r xs c) ys cs b d.1)
  where
    more : Log
    more = own e (next r c) (log plain (at (next r c) (plain_after r xs c)) cs)

    go : (b : Bool) → within (only e) r c ≡ b
        → (View e f t (next r c) (next q c) (plain_after r xs c) (plain_after q ys c)
        → Viewed e f t (next r c) (next q c) (plain_after r xs c) (plain_after q ys c) cs more)
        → (View e f t (next r c) q (plain_after r xs c) ys → Viewed e f t (next r c) q (plain_after r xs c) ys cs more)
        → Viewed e f t r q xs ys (c ∷ cs) (cond b ((c, plain_answer r xs c) ∷ more) more)
    go true h k _ =
        let w = own_turn e r c h in
        let s = k (view_in e f t r q xs ys w.0 v c h (within_own e q c v.turn_y w.1)) in
        record {
          logs = pair_path c (plain_answer r xs c) (plain_answer q ys c) _ _ (view_answer e f t r q xs ys w.0 v c w.1) s.logs;
          ends = s.ends;
        }
    go false h _ k = let s = k (view_out e f t r q xs ys c h d.0 v) in record { logs = s.logs; ends = s.ends }

create_next : (r : Roll) (e b k : ℕ) → judges r (Create e b k) ≡ Accepted → ranged ((next r (Create e b k)).slot e) ≡ Some (b, b + 2 ^ k)
unfolding next accept
create_next r e b k h =
    ap (λ x. ranged ((ruled x (accept r (Create e b k)) (λ _. r)).slot e)) h ∙ ap ranged (put_same r.slot e (Fresh (b, b + 2 ^ k)))

create_bytes : (r : Roll) (bs : List ℕ) (e b k : ℕ) → plain_after r bs (Create e b k) ≡ bs
unfolding plain_after
create_bytes r bs e b k = ruled_cases (λ (l : List ℕ). l ≡ bs) (judges r (Create e b k)) bs (λ _. bs) (λ _. refl) (λ _ _. refl)

-- two machines, each with slot e live in the same range
viewed_alike : (e f t : ℕ) (r s : Roll) (xs ys : List ℕ) (cs ds : List Call) → Sound r → Sound s
    → length xs ≡ r.size → length ys ≡ s.size → starts r.size ≡ true → starts s.size ≡ true
    → ranged (r.slot e) ≡ Some (f, t) → ranged (s.slot e) ≡ Some (f, t)
    → Agree xs ys (Between f t) → Agree xs ys (Between common_first common_past) → Lasts e r cs → Lasts e s ds
    → calls (own e r (log plain (at r xs) cs)) ≡ calls (own e s (log plain (at s ys) ds))
    → (own e r (log plain (at r xs) cs) ≡ own e s (log plain (at s ys) ds))
    × Agree (ran plain (at r xs) cs).bytes (ran plain (at s ys) ds).bytes (Between f t)
viewed_alike e f t r s xs ys cs ds sound-r sound-s lx ly bx by gx gy range page dx dy h = (
  x.logs ∙ ap (log plain (at q xs)) h ∙ sym y.logs,
  λ p w. x.ends p w ∙ ap (λ k. get_or (ran plain (at q xs) k).bytes p 0) h ∙ sym (y.ends p w),
)
  where
    -- the roll on which slot e always runs
    q : Roll
    q = record { size = r.size; slot = r.slot; turn = Enclave e }

    view : (w : Roll) (zs : List ℕ) → Sound w → ranged (w.slot e) ≡ Some (f, t) → length zs ≡ w.size → starts w.size ≡ true
        → Agree zs xs (Between f t) → Agree zs xs (Between common_first common_past) → View e f t w q zs xs
    view w zs sound g l b same_range same-page = record {
      sound_x = sound;
      range_x = g;
      range_y = gx;
      fits_y = range_fits r e f t sound-r gx;
      turn_y = refl;
      len_x = l;
      len_y = lx;
      starts_x = b;
      starts_y = bx;
      range = same_range;
      page = same-page;
    }

    x : Viewed e f t r q xs xs cs (own e r (log plain (at r xs) cs))
    x = run_viewed e f t r q xs xs cs (view r xs sound-r gx lx bx (λ _ _. refl) (λ _ _. refl)) dx

    y : Viewed e f t s q ys xs ds (own e s (log plain (at s ys) ds))
    y = run_viewed e f t s q ys xs ds (view s ys sound-s gy ly by (λ p w. sym (range p w)) (λ p w. sym (page p w))) dy

-- two machines right before the same accepted create
created_alike : (e base k : ℕ) (m n : Simple) (ys₁ ys₂ : List Call) → Sound m.roll → Sound n.roll
    → length m.bytes ≡ m.roll.size → length n.bytes ≡ n.roll.size
    → let c = Create e base k in
    judges m.roll c ≡ Accepted → judges n.roll c ≡ Accepted
    → Agree m.bytes n.bytes (Between base (base + 2 ^ k)) → Agree m.bytes n.bytes (Between common_first common_past)
    → Lasts e (next m.roll c) ys₁ → Lasts e (next n.roll c) ys₂
    → calls (own e (next m.roll c) (log plain (plain.after m c) ys₁)) ≡ calls (own e (next n.roll c) (log plain (plain.after n c) ys₂))
    → (own e (next m.roll c) (log plain (plain.after m c) ys₁) ≡ own e (next n.roll c) (log plain (plain.after n c) ys₂))
    × Agree (ran plain (plain.after m c) ys₁).bytes (ran plain (plain.after n c) ys₂).bytes (Between base (base + 2 ^ k))
created_alike e base k m n ys₁ ys₂ sm sn lm ln a₁ a₂ range page d₁ d₂ =
    let c = Create e base k in
    let bx = create_bytes m.roll m.bytes e base k in
    let by = create_bytes n.roll n.bytes e base k in
    viewed_alike e base (base + 2 ^ k) (next m.roll c) (next n.roll c) (plain_after m.roll m.bytes c) (plain_after n.roll n.bytes c)
    ys₁ ys₂ (next_sound m.roll c sm) (next_sound n.roll c sn)
    (length_after m.roll m.bytes c ∙ lm ∙ sym (next_size m.roll c)) (length_after n.roll n.bytes c ∙ ln ∙ sym (next_size n.roll c))
    (ap starts (next_size m.roll c) ∙ accepted_starts m.roll c a₁) (ap starts (next_size n.roll c) ∙ accepted_starts n.roll c a₂)
    (create_next m.roll e base k a₁) (create_next n.roll e base k a₂)
    (λ p w. ap (λ l. get_or l p 0) bx ∙ range p w ∙ sym (ap (λ l. get_or l p 0) by))
    (λ p w. ap (λ l. get_or l p 0) bx ∙ page p w ∙ sym (ap (λ l. get_or l p 0) by)) d₁ d₂

-- Accesses are carried out exactly where they may be.

done_may : (r : Roll) (bs : List ℕ) (kind a n w : ℕ) → Sound r → length bs ≡ r.size → plain_access_answer r bs kind a n ≡ Ok w → May r kind a n
unfolding plain_access_answer
done_may r bs kind a n w s z h = go (permits r kind a (a + n)) (leb (a + n) (length bs)) refl refl h
  where
    go : (b c : Bool) → permits r kind a (a + n) ≡ b → leb (a + n) (length bs) ≡ c
        → cond b (cond c (Ok (accessed bs kind a n)) (Err (Fault Memory (cause_of kind)))) (Err (Fault Protection (cause_of kind))) ≡ Ok w → May r kind a n
    go true true p l _ = let m = leb-true (a + n) (length bs) l in permits_may r kind a n s p (omega arith)
    go true false p l q = cc
    go false c p l q = cc

may_done : (r : Roll) (bs : List ℕ) (kind a n v : ℕ) → Sound r → length bs ≡ r.size → common_past ≤ r.size → 0 < n → May r kind a n
    → (plain_access_answer r bs kind a n ≡ Ok (accessed bs kind a n)) × (plain_access_bytes r bs kind a n v ≡ stored bs kind a n v)
unfolding plain_access_answer plain_access_bytes
may_done r bs kind a n v s z big pos m =
    let w = may_permits r kind a n s pos big m in
    let p = w.0 in
    let f = w.1 in
    let l = le-leb (a + n) (length bs) (omega arith) in
    (rw (p, l), rw (p, l))

may_not : (r : Roll) (bs : List ℕ) (kind a n v : ℕ) → Sound r → length bs ≡ r.size → (May r kind a n → ⊥)
    → ((layer : Layer) × (cause : ℕ) × (plain_access_answer r bs kind a n ≡ Err (Fault layer cause))) × (plain_access_bytes r bs kind a n v ≡ bs)
unfolding plain_access_answer plain_access_bytes
may_not r bs kind a n v s z bar = go (permits r kind a (a + n)) (leb (a + n) (length bs)) refl refl
  where
    go : (b c : Bool) → permits r kind a (a + n) ≡ b → leb (a + n) (length bs) ≡ c
        → ((layer : Layer) × (cause : ℕ)
        × (cond b (cond c (Ok (accessed bs kind a n)) (Err (Fault Memory (cause_of kind)))) (Err (Fault Protection (cause_of kind))) ≡ Err (Fault layer cause)))
        × (cond (b && c) (stored bs kind a n v) bs ≡ bs)
    go true true p l = let m = leb-true (a + n) (length bs) l in absurd (bar (permits_may r kind a n s p (omega arith)))
    go true false p l = ((Memory, cause_of kind, refl), refl)
    go false c p l = ((Protection, cause_of kind, refl), refl)

plain_carried_out : (r : Roll) (bs : List ℕ) (kind a n v : ℕ) → Sound r → length bs ≡ r.size
    → let c = Access kind a n v in
    judges r c ≡ Accepted
    → (May r kind a n → (plain_answer r bs c ≡ Ok (accessed bs kind a n)) × (plain_after r bs c ≡ stored bs kind a n v))
    × (((w : ℕ) × (plain_answer r bs c ≡ Ok w)) → May r kind a n)
    × ((May r kind a n → ⊥) → ((layer : Layer) × (cause : ℕ) × (plain_answer r bs c ≡ Err (Fault layer cause))) × (plain_after r bs c ≡ bs))
unfolding plain_answer plain_after
plain_carried_out r bs kind a n v s z ok =
    let x : ruled (judges r (Access kind a n v)) (plain_access_answer r bs kind a n) (λ e. Err (Refused e)) ≡ plain_access_answer r bs kind a n
    = ap (λ y. ruled y (plain_access_answer r bs kind a n) (λ e. Err (Refused e))) ok in
    let u : ruled (judges r (Access kind a n v)) (plain_access_bytes r bs kind a n v) (λ _. bs) ≡ plain_access_bytes r bs kind a n v
    = ap (λ y. ruled y (plain_access_bytes r bs kind a n v) (λ _. bs)) ok in
    let yes = all_yes (questions r (Access kind a n v)) ok in
    let big = starts_big r.size yes.0 in (
      λ m. let y = may_done r bs kind a n v s z (omega arith) (size_pos n yes.1.1.0) m in (x ∙ y.0, u ∙ y.1),
      λ w. done_may r bs kind a n w.0 s z (sym x ∙ w.1),
      λ bar. let y = may_not r bs kind a n v s z bar in ((y.0.0, y.0.1, x ∙ y.0.2), u ∙ y.1),
    )

-- Calls are refused where the roll refuses them.

judged : (r : Roll) (bs : List ℕ) (c : Call) → judged_by (plain_answer r bs c) ≡ judges r c
unfolding plain_answer plain_access_answer
judged r bs c =
    ruled_cases (λ (a : Result ℕ Denial). judged_by a ≡ judges r c) (judges r c) (accepted_answer r bs c) (λ e. Err (Refused e))
    (λ q. acc c ∙ sym q) (λ _ q. sym q)
  where
    access : (b d : Bool) (v w : ℕ) → judged_by (cond b (cond d (Ok v) (Err (Fault Memory w))) (Err (Fault Protection w))) ≡ Accepted
    access true true v w = refl
    access true false v w = refl
    access false d v w = refl

    acc : (c : Call) → judged_by (accepted_answer r bs c) ≡ Accepted
    acc (Access k a n v) = access (permits r k a (a + n)) (leb (a + n) (length bs)) (accessed bs k a n) (cause_of k)
    acc _ = refl

-- All of it.

module _ (bs : List ℕ) (cs : List Call) where
  r : Roll
  r = rolled (start (length bs)) cs

  m : Simple
  m = ran plain (at (start (length bs)) bs) cs

  reached : m.roll ≡ r
  unfolding m r
  reached = ran_roll (start (length bs)) bs cs

  sound_m : Sound m.roll
  unfolding m r
  sound_m = rw reached (rolled_sound (start (length bs)) cs (start_sound (length bs)))

  length_m : length m.bytes ≡ m.roll.size
  unfolding m r
  length_m = ran_length (start (length bs)) bs cs ∙ sym (ap (λ q. q.size) reached ∙ rolled_size (start (length bs)) cs)

pub plain_closed_off : ClosedOff plain
unfolding r m
plain_closed_off = record {
  bytes_of_new = λ bs. refl;
  length_kept = λ bs cs. ran_length (start (length bs)) bs cs;
  judged_as_rolled = λ bs cs c. rw (← reached bs cs) (judged (m bs cs).roll (m bs cs).bytes c);
  unseen_elsewhere = λ e. plain_unseen (only e);
  sees_nothing = λ e base k bs₁ bs₂ xs₁ xs₂ ys₁ ys₂.
      rw (← reached bs₁ xs₁, ← reached bs₂ xs₂)
      (created_alike e base k (m bs₁ xs₁) (m bs₂ xs₂) ys₁ ys₂ (sound_m bs₁ xs₁) (sound_m bs₂ xs₂) (length_m bs₁ xs₁) (length_m bs₂ xs₂));
  carried_out = λ bs cs kind a n v.
      rw (← reached bs cs) (plain_carried_out (m bs cs).roll (m bs cs).bytes kind a n v (sound_m bs cs) (length_m bs cs));
}
