-- what calls make of the roll: every roll is sound, and a live slot keeps its range until it is destroyed
use Rattle.std.proofs.Common.{◌≡◌, ℕ, zero, suc, ◌+◌, ◌%◌, ◌^◌, ◌<◌, ◌≤◌, Bool, true, false, cond, eqb, leb, ◌⊎◌, List, [], ◌∷◌, Some, None, Ok, Err, Option, Result, sym, refl, ap, ◌∙◌, subst, inl, inr, arith, pow_pos}
use Rattle.std.proofs.lemmas.Bool.{and_parts, both_ways, cases_eq, cond-false, cond-true, eq-eqb, eqb-true, leb-true, ne_eqb, not-true}
use Rattle.std.proofs.lemmas.Bool.Decides.{nat_tests}
use Rattle.std.proofs.lemmas.Option.{some_pair_parts}
use Rattle.refusals.specs.Questions.{ruled, ruling}
use Rattle.refusals.specs.declared.Refusal.{Refusal}
use Rattle.monitor.specs.Layout.{common_past, first_slot, os_entry, starts}
use Rattle.monitor.specs.Roll.{Accepted, Holds, Roll, accept, apart, apart_below, clear, halted, is_slot, judges, next, put, questions, rolled, start}
use Rattle.monitor.specs.Slots.{InRange, is_free, is_running, os_runs, ranged, restaged}
use Rattle.monitor.specs.declared.call.Call.{Call}
use Rattle.monitor.specs.declared.call.Call.TheVariants.{Create, Enter, Pause, Finish, Destroy}
use Rattle.monitor.specs.declared.slot.Party.{Party}
use Rattle.monitor.specs.declared.slot.Party.TheVariants.{Os, Enclave}
use Rattle.monitor.specs.declared.slot.Slot.{Slot}
use Rattle.monitor.specs.declared.slot.Slot.TheVariants.{Free, Fresh, Running, Stopped, Finished}
use Rattle.monitor.proofs.Sound.{Sound}

-- Questions.

-- an accepted call had every question answered yes
abbrev pub AllYes : List (Bool × Refusal) → Type 0
AllYes [] = Unit {0}
AllYes (q ∷ qs) = (q.0 ≡ true) × AllYes qs

yes_first : (b : Bool) (e : Refusal) (x : Result (Unit {0}) Refusal) → cond b x (Err e) ≡ Accepted → (b ≡ true) × (x ≡ Accepted)
yes_first true e x h = (refl, h)
yes_first false e x h = cc

pub all_yes : (qs : List (Bool × Refusal)) → ruling qs ≡ Accepted → AllYes qs
all_yes [] h = tt
all_yes (q ∷ qs) h = let y = yes_first q.0 q.1 (ruling qs) h in (y.0, all_yes qs y.1)

pub yes_all : (qs : List (Bool × Refusal)) → AllYes qs → ruling qs ≡ Accepted
yes_all [] y = refl
yes_all (q ∷ qs) y = cond-true q.0 (ruling qs) (Err q.1) y.0 ∙ yes_all qs y.1

-- what holds whether or not a call is accepted holds of what follows
pub ruled_cases : {X : Type 0} (P : X → Type 0) (v : Result (Unit {0}) Refusal) (x : X) (f : Refusal → X)
    → (v ≡ Accepted → P x) → ((e : Refusal) → v ≡ Err e → P (f e)) → P (ruled v x f)
ruled_cases P (Ok _) x f accepted refused = accepted refl
ruled_cases P (Err e) x f accepted refused = refused e refl

-- so of two things that follow from one ruling
pub ruled_pair : {X Y : Type 0} (R : X → Y → Type 0) (v : Result (Unit {0}) Refusal) (x : X) (y : Y) (f : Refusal → X) (g : Refusal → Y)
    → (v ≡ Accepted → R x y) → ((e : Refusal) → v ≡ Err e → R (f e) (g e)) → R (ruled v x f) (ruled v y g)
ruled_pair R (Ok _) x y f g accepted refused = accepted refl
ruled_pair R (Err e) x y f g accepted refused = refused e refl

-- so of the roll
pub next_cases : (P : Roll → Type 0) (r : Roll) (c : Call) → (judges r c ≡ Accepted → P (accept r c)) → P r → P (next r c)
unfolding next
next_cases P r c accepted refused = ruled_cases P (judges r c) (accept r c) (λ _. r) accepted (λ _ _. refused)

-- a memory that starts a machine has more than the two pages
pub starts_big : (n : ℕ) → starts n ≡ true → 16384 ≤ n
starts_big n h = grind (arith, nat_tests)

-- an accepted call finds a memory that starts a machine
pub accepted_starts : (r : Roll) (c : Call) → judges r c ≡ Accepted → starts r.size ≡ true
accepted_starts r Pause h = (all_yes (questions r Pause) h).0
accepted_starts r c h = (all_yes (questions r c) h).0

-- Parties and ranges.

pub os_not : (w : Party) (e : ℕ) → os_runs w ≡ true → w ≡ Enclave e → ⊥
os_not w e h k = cc

pub slot_number : (s : ℕ) → is_slot s ≡ true → (first_slot ≤ s) × (s < os_entry)
slot_number s h = grind (arith, nat_tests)

pub in_ranged : (o : Option (ℕ × ℕ)) (p : ℕ) → InRange o p → (f : ℕ) × (t : ℕ) × (o ≡ Some (f, t)) × (f ≤ p) × (p < t)
in_ranged None p h = absurd h
in_ranged (Some r) p h = (r.0, r.1, refl, h.0, h.1)

-- a byte of a live range
pub inside : (r : Roll) (i f t p : ℕ) → ranged (r.slot i) ≡ Some (f, t) → f ≤ p → p < t → Holds r i p
inside r i f t p h l m = subst (λ x. InRange x p) (sym h) (l, m)

-- what holds of no range, and of the range of a live slot, holds of a slot's
pub range_cases : (P : Option (ℕ × ℕ) → Type 0) (r : Roll) (i : ℕ) → P None → ((f t : ℕ) → ranged (r.slot i) ≡ Some (f, t) → P (Some (f, t)))
    → P (ranged (r.slot i))
range_cases P r i free live = go (ranged (r.slot i)) live
  where
    go : (x : Option (ℕ × ℕ)) → ((f t : ℕ) → x ≡ Some (f, t) → P (Some (f, t))) → P x
    go None k = free
    go (Some g) k = k g.0 g.1 refl

pub free_ranged : (s : Slot) → is_free s ≡ true → ranged s ≡ None
free_ranged Free h = refl
free_ranged _ h = cc

pub restaged_range : (stage : ℕ × ℕ → Slot) → ((r : ℕ × ℕ) → ranged (stage r) ≡ Some r) → (s : Slot) → ranged (restaged stage s) ≡ ranged s
restaged_range stage h Free = refl
restaged_range stage h (Fresh r) = h r
restaged_range stage h (Running r) = h r
restaged_range stage h (Stopped r) = h r
restaged_range stage h (Finished r) = h r

restaged_rests : (stage : ℕ × ℕ → Slot) → ((r : ℕ × ℕ) → is_running (stage r) ≡ false) → (s : Slot) → is_running (restaged stage s) ≡ false
restaged_rests stage h Free = refl
restaged_rests stage h (Fresh r) = h r
restaged_rests stage h (Running r) = h r
restaged_rests stage h (Stopped r) = h r
restaged_rests stage h (Finished r) = h r

restaged_runs : (s : Slot) → is_free s ≡ false → is_running (restaged Running s) ≡ true
restaged_runs Free h = cc
restaged_runs _ h = refl

-- One slot is put to another value.

pub put_same : (f : ℕ → Slot) (i : ℕ) (x : Slot) → put f i x i ≡ x
unfolding put
put_same f i x = cond-true (eqb i i) x (f i) (eq-eqb i i refl)

pub put_other : (f : ℕ → Slot) (i : ℕ) (x : Slot) (j : ℕ) → (j ≡ i → ⊥) → put f i x j ≡ f j
unfolding put
put_other f i x j ne = cond-false (eqb j i) x (f j) (ne_eqb j i ne)

pub put_cases : (P : Slot → Type 0) (f : ℕ → Slot) (i : ℕ) (x : Slot) (j : ℕ) → P (put f i x j) → ((j ≡ i) × P x) ⊎ ((j ≡ i → ⊥) × P (f j))
put_cases P f i x j h =
    elim (cases_eq j i) [
      | inl e ↦ inl (e, subst P (put_same f i x) (subst (λ k. P (put f i x k)) e h))
      | inr ne ↦ inr (ne, subst P (put_other f i x j ne) h)
    ]

-- who holds a byte once slot i is put to x
pub put_in : (f : ℕ → Slot) (i : ℕ) (x : Slot) (j p : ℕ) → InRange (ranged (put f i x j)) p
    → ((j ≡ i) × InRange (ranged x) p) ⊎ ((j ≡ i → ⊥) × InRange (ranged (f j)) p)
put_in f i x j p h = put_cases (λ y. InRange (ranged y) p) f i x j h

-- a slot that runs after one was put to rest is another, and ran before
put_running : (f : ℕ → Slot) (i : ℕ) (x : Slot) (j : ℕ) → is_running x ≡ false → is_running (put f i x j) ≡ true
    → (j ≡ i → ⊥) × (is_running (f j) ≡ true)
put_running f i x j h k =
    elim (put_cases (λ y. is_running y ≡ true) f i x j k) [ inl w ↦ absurd (both_ways (is_running x) h w.1) | inr w ↦ w ]

-- a slot that changes its stage leaves all ranges
put_range : (stage : ℕ × ℕ → Slot) → ((r : ℕ × ℕ) → ranged (stage r) ≡ Some r)
    → (f : ℕ → Slot) (i j : ℕ) → ranged (put f i (restaged stage (f i)) j) ≡ ranged (f j)
put_range stage h f i j =
    elim (cases_eq j i) [
      | inl e ↦ subst (λ k. ranged (put f i (restaged stage (f i)) k) ≡ ranged (f k)) (sym e)
          (ap ranged (put_same f i (restaged stage (f i))) ∙ restaged_range stage h (f i))
      | inr ne ↦ ap ranged (put_other f i (restaged stage (f i)) j ne)
    ]

freed_range : (f : ℕ → Slot) (s i a b : ℕ) → ranged (put f s Free i) ≡ Some (a, b) → ranged (f i) ≡ Some (a, b)
freed_range f s i a b h =
    elim (put_cases (λ y. ranged y ≡ Some (a, b)) f s Free i h) [ inl w ↦ cc w.1 | inr w ↦ w.1 ]

-- Ranges apart.

apart_in : (o : Option (ℕ × ℕ)) (b t p : ℕ) → apart o b t ≡ true → InRange o p → b ≤ p → p < t → ⊥
apart_in None b t p h k l m = k
apart_in (Some r) b t p h k l m = grind (arith, nat_tests)

below_in : (f : ℕ → Slot) (b t n : ℕ) → apart_below f b t n ≡ true → (i p : ℕ) → i < n → InRange (ranged (f i)) p → b ≤ p → p < t → ⊥
unfolding apart_below
below_in f b t zero h i p l k = absurd (let z : ⊥ = omega arith in z)
below_in f b t (suc n) h i p l k =
    let w = and_parts (apart (ranged (f n)) b t) (apart_below f b t n) h in
    elim (cases_eq i n) [
      | inl e ↦ apart_in (ranged (f n)) b t p w.0 (subst (λ j. InRange (ranged (f j)) p) e k)
      | inr ne ↦ below_in f b t n w.1 i p (omega arith) k
    ]

-- where a range is clear, no live range has a byte of it
pub clear_in : (r : Roll) (b t : ℕ) → Sound r → clear r b t ≡ true → (common_past ≤ b) × ((i p : ℕ) → Holds r i p → b ≤ p → p < t → ⊥)
clear_in r b t s h =
    let w = and_parts (leb common_past b) (apart_below r.slot b t os_entry) h in
    (leb-true common_past b w.0, λ i p k. below_in r.slot b t os_entry w.1 i p (s.place i p k).0 k)

-- Every roll is sound.

pub start_sound : (n : ℕ) → Sound (start n)
start_sound n = record {
  place = λ i p h. absurd h;
  one = λ i j p h k. absurd h;
  some = λ i f t h. absurd (cc);
  shape = λ i f t h. absurd (cc);
  at_work = λ e h. absurd (cc);
  alone = λ i h. cc;
}

-- a roll with no other ranges than a sound one
fewer : (r q : Roll) → q.size ≡ r.size → ((i f t : ℕ) → ranged (q.slot i) ≡ Some (f, t) → ranged (r.slot i) ≡ Some (f, t))
    → ((e : ℕ) → q.turn ≡ Enclave e → is_running (q.slot e) ≡ true) → ((i : ℕ) → is_running (q.slot i) ≡ true → q.turn ≡ Enclave i)
    → Sound r → Sound q
fewer r q e k works single s = record {
  place = λ i p w. subst (λ n. (i < os_entry) × (common_past ≤ p) × (p < n)) (sym e) (s.place i p (held i p w));
  one = λ i j p w v. s.one i j p (held i p w) (held j p v);
  some = λ i f t w. s.some i f t (k i f t w);
  shape = λ i f t w. s.shape i f t (k i f t w);
  at_work = works;
  alone = single;
}
  where
    held : (i p : ℕ) → Holds q i p → Holds r i p
    held i p h =
        let w = in_ranged (ranged (q.slot i)) p h in
        inside r i w.0 w.1 p (k i w.0 w.1 w.2) w.3 w.4

-- once a slot is put to a stage that is not running, who else runs is unchanged
rests : (r : Roll) (s : ℕ) (x : Slot) → Sound r → is_running x ≡ false → (i : ℕ) → is_running (put r.slot s x i) ≡ true → r.turn ≡ Enclave i
rests r s x o h i k = o.alone i (put_running r.slot s x i h k).1

created : (r : Roll) (s b k : ℕ) → Sound r → AllYes (questions r (Create s b k)) → Sound (accept r (Create s b k))
unfolding accept
created r s b k o y = record {
  place = λ i p h.
      elim (put_in r.slot s new i p h) [
        | inl w ↦ let e = w.0 in let q = w.1 in let l = free_of.0 in let n = slot_number s y.1.0 in let g = fits in omega arith
        | inr w ↦ o.place i p w.1
      ];
  one = λ i j p h l.
      elim (put_in r.slot s new i p h) [
        | inl w ↦
            elim (put_in r.slot s new j p l) [
              | inl v ↦ w.0 ∙ sym v.0
              | inr v ↦ absurd (free_of.1 j p v.1 w.1.0 w.1.1)
            ]
        | inr w ↦
            elim (put_in r.slot s new j p l) [
              | inl v ↦ absurd (free_of.1 i p w.1 v.1.0 v.1.1)
              | inr v ↦ o.one i j p w.1 v.1
            ]
      ];
  some = λ i f t h.
      elim (put_cases (λ x. ranged x ≡ Some (f, t)) r.slot s new i h) [
        | inl w ↦ let e = some_pair_parts b f (b + 2 ^ k) t w.1 in omega (arith, pow_pos k)
        | inr w ↦ o.some i f t w.1
      ];
  shape = λ i f t h.
      elim (put_cases (λ x. ranged x ≡ Some (f, t)) r.slot s new i h) [
        | inl w ↦ let e = some_pair_parts b f (b + 2 ^ k) t w.1 in
            rw (← e.0, ← e.1, w.0) (record {
              from_first = (slot_number s y.1.0).0;
              power = k;
              twelve = exponent.0;
              thirty = exponent.1;
              to = refl;
              aligned = eqb-true (b % 2 ^ k) 0 y.1.1.1.1.1.0;
            })
        | inr w ↦ o.shape i f t w.1
      ];
  at_work = λ e h. absurd (os_not r.turn e y.1.1.0 h);
  alone = rests r s new o refl;
}
  where
    new : Slot
    new = Fresh (b, b + 2 ^ k)

    free_of : (common_past ≤ b) × ((i p : ℕ) → Holds r i p → b ≤ p → p < b + 2 ^ k → ⊥)
    free_of = clear_in r b (b + 2 ^ k) o y.1.1.1.1.1.1.1.0

    fits : b + 2 ^ k ≤ r.size
    fits = leb-true (b + 2 ^ k) r.size y.1.1.1.1.1.1.0

    exponent : (12 ≤ k) × (k ≤ 30)
    exponent = let e = y.1.1.1.1.0 in grind (arith, nat_tests)

halted_sound : (stage : ℕ × ℕ → Slot) → ((r : ℕ × ℕ) → ranged (stage r) ≡ Some r) → ((r : ℕ × ℕ) → is_running (stage r) ≡ false)
    → (r : Roll) (t : Party) → r.turn ≡ t → Sound r → Sound (halted stage r t)
halted_sound stage keeps still r Os q o = o
halted_sound stage keeps still r (Enclave e) q o =
    fewer r _ refl (λ i f t h. sym (put_range stage keeps r.slot e i) ∙ h) (λ i h. absurd (cc)) none o
  where
    none : (i : ℕ) → is_running (put r.slot e (restaged stage (r.slot e)) i) ≡ true → Os ≡ Enclave i
    none i h =
        let w = put_running r.slot e (restaged stage (r.slot e)) i (restaged_rests stage still (r.slot e)) h in
        let z = o.alone i w.1 in
        absurd (w.0 (cc))

entered : (r : Roll) (s : ℕ) → Sound r → AllYes (questions r (Enter s)) → Sound (accept r (Enter s))
unfolding accept
entered r s o y =
    fewer r _ refl (λ i f t h. sym (put_range Running (λ _. refl) r.slot s i) ∙ h) works single o
  where
    runs : is_running (put r.slot s (restaged Running (r.slot s)) s) ≡ true
    runs = ap is_running (put_same r.slot s (restaged Running (r.slot s))) ∙ restaged_runs (r.slot s) (not-true (is_free (r.slot s)) y.1.1.1.0)

    works : (e : ℕ) → Enclave s ≡ Enclave e → is_running (put r.slot s (restaged Running (r.slot s)) e) ≡ true
    works e h = let z : s ≡ e = cc in subst (λ i. is_running (put r.slot s (restaged Running (r.slot s)) i) ≡ true) z runs

    single : (i : ℕ) → is_running (put r.slot s (restaged Running (r.slot s)) i) ≡ true → Enclave s ≡ Enclave i
    single i h =
        elim (put_cases (λ x. is_running x ≡ true) r.slot s (restaged Running (r.slot s)) i h) [
          | inl w ↦ ap Enclave (sym w.0)
          | inr w ↦ absurd (os_not r.turn i y.1.1.0 (o.alone i w.1))
        ]

accept_sound : (r : Roll) (c : Call) → Sound r → AllYes (questions r c) → Sound (accept r c)
unfolding accept
accept_sound r (Create s b k) o y = created r s b k o y
accept_sound r (Enter s) o y = entered r s o y
accept_sound r Pause o y = halted_sound Stopped (λ _. refl) (λ _. refl) r r.turn refl o
accept_sound r (Finish w) o y = halted_sound Finished (λ _. refl) (λ _. refl) r r.turn refl o
accept_sound r (Destroy s) o y =
    fewer r _ refl (freed_range r.slot s) (λ e h. absurd (os_not r.turn e y.1.1.0 h)) (rests r s Free o refl) o
accept_sound r _ o y = o

pub next_sound : (r : Roll) (c : Call) → Sound r → Sound (next r c)
next_sound r c o = next_cases Sound r c (λ q. accept_sound r c o (all_yes (questions r c) q)) o

pub rolled_sound : (r : Roll) (cs : List Call) → Sound r → Sound (rolled r cs)
rolled_sound r [] o = o
rolled_sound r (c ∷ cs) o = rolled_sound (next r c) cs (next_sound r c o)

-- The memory's length stays.

halted_size : (stage : ℕ × ℕ → Slot) (r : Roll) (t : Party) → (halted stage r t).size ≡ r.size
halted_size stage r Os = refl
halted_size stage r (Enclave e) = refl

accept_size : (r : Roll) (c : Call) → (accept r c).size ≡ r.size
unfolding accept
accept_size r Pause = halted_size Stopped r r.turn
accept_size r (Finish w) = halted_size Finished r r.turn
accept_size r _ = refl

pub next_size : (r : Roll) (c : Call) → (next r c).size ≡ r.size
next_size r c = next_cases (λ (q : Roll). q.size ≡ r.size) r c (λ _. accept_size r c) refl

pub rolled_size : (r : Roll) (cs : List Call) → (rolled r cs).size ≡ r.size
rolled_size r [] = refl
rolled_size r (c ∷ cs) = rolled_size (next r c) cs ∙ next_size r c

-- A live slot keeps its range, until it is destroyed.

halted_ranged : (stage : ℕ × ℕ → Slot) → ((r : ℕ × ℕ) → ranged (stage r) ≡ Some r) → (r : Roll) (t : Party) (e : ℕ)
    → ranged ((halted stage r t).slot e) ≡ ranged (r.slot e)
halted_ranged stage keeps r Os e = refl
halted_ranged stage keeps r (Enclave i) e = put_range stage keeps r.slot i e

accept_ranged : (r : Roll) (c : Call) (e a b : ℕ) → AllYes (questions r c) → (c ≡ Destroy e → ⊥)
    → ranged (r.slot e) ≡ Some (a, b) → ranged ((accept r c).slot e) ≡ Some (a, b)
unfolding accept
accept_ranged r (Create s f k) e a b y d h =
    elim (cases_eq e s) [
      | inl q ↦ let z : ranged (r.slot e) ≡ None = subst (λ i. ranged (r.slot i) ≡ None) (sym q) (free_ranged (r.slot s) y.1.1.1.0) in
          cc (sym z ∙ h)
      | inr ne ↦ ap ranged (put_other r.slot s (Fresh (f, f + 2 ^ k)) e ne) ∙ h
    ]
accept_ranged r (Enter s) e a b y d h = put_range Running (λ _. refl) r.slot s e ∙ h
accept_ranged r Pause e a b y d h = halted_ranged Stopped (λ _. refl) r r.turn e ∙ h
accept_ranged r (Finish w) e a b y d h = halted_ranged Finished (λ _. refl) r r.turn e ∙ h
accept_ranged r (Destroy s) e a b y d h =
    let ne : e ≡ s → ⊥ = λ q. d (ap Destroy (sym q)) in ap ranged (put_other r.slot s Free e ne) ∙ h
accept_ranged r _ e a b y d h = h

pub next_ranged : (r : Roll) (c : Call) (e a b : ℕ) → (c ≡ Destroy e → judges r c ≡ Accepted → ⊥)
    → ranged (r.slot e) ≡ Some (a, b) → ranged ((next r c).slot e) ≡ Some (a, b)
next_ranged r c e a b d h =
    next_cases (λ (q : Roll). ranged (q.slot e) ≡ Some (a, b)) r c (λ q. accept_ranged r c e a b (all_yes (questions r c) q) (λ z. d z q) h) h

pub holds_next : (r : Roll) (c : Call) (e p : ℕ) → (c ≡ Destroy e → judges r c ≡ Accepted → ⊥) → Holds r e p → Holds (next r c) e p
holds_next r c e p d h =
    let w = in_ranged (ranged (r.slot e)) p h in
    inside (next r c) e w.0 w.1 p (next_ranged r c e w.0 w.1 d w.2) w.3 w.4
