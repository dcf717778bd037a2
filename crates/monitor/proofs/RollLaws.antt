-- the laws of the roll, proved
use Rattle.std.proofs.Common.{◌≡◌, ℕ, pred, ◌+◌, ◌%◌, ◌^◌, ◌<◌, ◌≤◌, Bool, true, false, not, ◌&&◌, leb, List, [], ◌∷◌, Some, Err, sym, refl, ap, ◌∙◌, subst, arith, pow_pos}
use Rattle.std.proofs.lemmas.Bool.{and_from, both_ways, cond-false, eq-eqb, le-leb, not_from_false}
use Rattle.std.proofs.lemmas.Bool.Decides.{nat_tests}
use Rattle.refusals.specs.Questions.{ruled}
use Rattle.refusals.specs.declared.Refusal.TheVariants.{NotStarted}
use Rattle.monitor.specs.Laws.{RollLaws}
use Rattle.monitor.specs.Layout.{common_past, first_slot, last_slot, os_entry, starts}
use Rattle.monitor.specs.Roll.{Accepted, Holds, Roll, accept, apart_below, clear, halted, is_slot, judges, next, put, questions, rolled, start}
use Rattle.monitor.specs.Slots.{is_free, is_running, is_unfinished, os_runs, ranged, restaged}
use Rattle.monitor.specs.Theorem.{Lasts}
use Rattle.monitor.specs.declared.call.Call.{Call}
use Rattle.monitor.specs.declared.call.Call.TheVariants.{Create, Enter, Pause, Finish, Destroy, Register}
use Rattle.monitor.specs.declared.slot.Party.{Party}
use Rattle.monitor.specs.declared.slot.Party.TheVariants.{Os, Enclave}
use Rattle.monitor.specs.declared.slot.Slot.{Slot}
use Rattle.monitor.specs.declared.slot.Slot.TheVariants.{Free, Stopped, Finished}
use Rattle.monitor.proofs.Access.{in_apart_below}
use Rattle.monitor.proofs.Rolls.{AllYes, all_yes, next_cases, next_sound, put_other, put_same, inside, rolled_size, rolled_sound, start_sound, yes_all}
use Rattle.monitor.proofs.Sound.{Sound}

-- A slot that finished stays so until it is destroyed.

-- neither free nor unfinished
abbrev Over : Slot → Type 0
Over s = (is_free s ≡ false) × (is_unfinished s ≡ false)

running_unfinished : (s : Slot) → is_running s ≡ true → is_unfinished s ≡ true
running_unfinished Free h = h
running_unfinished (Finished _) h = cc
running_unfinished _ h = refl

unfinished_live : (s : Slot) → is_unfinished s ≡ true → is_free s ≡ false
unfinished_live Free h = cc
unfinished_live _ h = refl

finished_over : (s : Slot) → is_free s ≡ false → Over (restaged Finished s)
finished_over Free h = cc
finished_over _ h = (refl, refl)

put_over : (f : ℕ → Slot) (i : ℕ) (x : Slot) (e : ℕ) → (e ≡ i → ⊥) → Over (f e) → Over (put f i x e)
put_over f i x e ne h = subst Over (sym (put_other f i x e ne)) h

-- the slot that is over is another than one with a property that it has not
apart_from : (f : ℕ → Slot) (P : Slot → Bool) (e i : ℕ) → P (f e) ≡ false → P (f i) ≡ true → e ≡ i → ⊥
apart_from f P e i h k q = both_ways (P (f e)) h (ap (λ j. P (f j)) q ∙ k)

halted_over : (stage : ℕ × ℕ → Slot) (r : Roll) (t : Party) (e : ℕ) → Sound r → r.turn ≡ t → Over (r.slot e) → Over ((halted stage r t).slot e)
halted_over stage r Os e o q h = h
halted_over stage r (Enclave i) e o q h =
    put_over r.slot i (restaged stage (r.slot i)) e
    (apart_from r.slot is_unfinished e i h.1 (running_unfinished (r.slot i) (o.at_work i q))) h

accept_over : (r : Roll) (c : Call) (e : ℕ) → Sound r → AllYes (questions r c) → (c ≡ Destroy e → ⊥) → Over (r.slot e) → Over ((accept r c).slot e)
unfolding accept
accept_over r (Create s b k) e o y d h = put_over r.slot s _ e (apart_from r.slot is_free e s h.0 y.1.1.1.0) h
accept_over r (Enter s) e o y d h = put_over r.slot s _ e (apart_from r.slot is_unfinished e s h.1 y.1.1.1.1.0) h
accept_over r Pause e o y d h = halted_over Stopped r r.turn e o refl h
accept_over r (Finish w) e o y d h = halted_over Finished r r.turn e o refl h
accept_over r (Destroy s) e o y d h = put_over r.slot s Free e (λ q. d (ap Destroy (sym q))) h
accept_over r _ e o y d h = h

next_over : (r : Roll) (c : Call) (e : ℕ) → Sound r → (c ≡ Destroy e → judges r c ≡ Accepted → ⊥) → Over (r.slot e) → Over ((next r c).slot e)
next_over r c e o d h =
    next_cases (λ (q : Roll). Over (q.slot e)) r c (λ q. accept_over r c e o (all_yes (questions r c) q) (λ z. d z q) h) h

rolled_over : (r : Roll) (ds : List Call) (e : ℕ) → Sound r → Lasts e r ds → Over (r.slot e) → Over ((rolled r ds).slot e)
rolled_over r [] e o l h = h
rolled_over r (c ∷ ds) e o l h = rolled_over (next r c) ds e (next_sound r c o) l.1 (next_over r c e o l.0 h)

finish_over : (r : Roll) (e w : ℕ) → Sound r → r.turn ≡ Enclave e → judges r (Finish w) ≡ Accepted → Over ((next r (Finish w)).slot e)
unfolding next accept
finish_over r e w o t h =
    subst (λ x. Over ((ruled x (halted Finished r r.turn) (λ _. r)).slot e)) (sym h)
    (subst (λ p. Over ((halted Finished r p).slot e)) (sym t)
    (subst Over (sym (put_same r.slot e (restaged Finished (r.slot e))))
    (finished_over (r.slot e) (unfinished_live (r.slot e) (running_unfinished (r.slot e) (o.at_work e t))))))

-- What is accepted and refused.

module _ (r : Roll) (sound : Sound r) where
  range_shape : (i f t : ℕ) → ranged (r.slot i) ≡ Some (f, t)
      → (first_slot ≤ i) × (i ≤ last_slot) × (common_past ≤ f) × (t ≤ r.size)
      × ((k : ℕ) × (12 ≤ k) × (k ≤ 30) × (t ≡ f + 2 ^ k) × (f % 2 ^ k ≡ 0))
  range_shape i f t h =
      let some = sound.some i f t h in
      let shape = sound.shape i f t h in
      let first = sound.place i f (inside r i f t f h (omega arith) some) in
      let last = sound.place i (pred t) (inside r i f t (pred t) h (omega arith) (omega arith)) in
      (shape.from_first, omega arith, first.1, omega arith, (shape.power, shape.twelve, shape.thirty, shape.to, shape.aligned))

  finished_shut : (ds : List Call) (e w : ℕ) → r.turn ≡ Enclave e → judges r (Finish w) ≡ Accepted → Lasts e (next r (Finish w)) ds
      → judges (rolled (next r (Finish w)) ds) (Enter e) ≡ Accepted → ⊥
  finished_shut ds e w t h l k =
      let q = rolled (next r (Finish w)) ds in
      let over = rolled_over (next r (Finish w)) ds e (next_sound r (Finish w) sound) l (finish_over r e w sound t h) in
      both_ways (is_unfinished (q.slot e)) over.1 (all_yes (questions q (Enter e)) k).1.1.1.1.0

  not_os : (e s b k : ℕ) → r.turn ≡ Enclave e
      → (judges r (Create s b k) ≡ Accepted → ⊥) × (judges r (Enter s) ≡ Accepted → ⊥) × (judges r (Destroy s) ≡ Accepted → ⊥)
  not_os e s b k t =
      let no_os : os_runs r.turn ≡ false = ap os_runs t in (
        λ h. both_ways (os_runs r.turn) no_os (all_yes (questions r (Create s b k)) h).1.1.0,
        λ h. both_ways (os_runs r.turn) no_os (all_yes (questions r (Enter s)) h).1.1.0,
        λ h. both_ways (os_runs r.turn) no_os (all_yes (questions r (Destroy s)) h).1.1.0,
      )

  module _ (started : starts r.size ≡ true) where
    slot_number : (s : ℕ) → first_slot ≤ s → s ≤ last_slot → is_slot s ≡ true
    slot_number s l m = grind (arith, nat_tests)

    creates : (s b k : ℕ) → r.turn ≡ Os → first_slot ≤ s → s ≤ last_slot → is_free (r.slot s) ≡ true
        → 12 ≤ k → k ≤ 30 → b % 2 ^ k ≡ 0 → b + 2 ^ k ≤ r.size → common_past ≤ b
        → ((i p : ℕ) → Holds r i p → b ≤ p → p < b + 2 ^ k → ⊥) → judges r (Create s b k) ≡ Accepted
    creates s b k t l m free low high even fits past apart =
        let clear_of : clear r b (b + 2 ^ k) ≡ true
        = and_from (leb common_past b) (apart_below r.slot b (b + 2 ^ k) os_entry) (le-leb common_past b past)
        (in_apart_below r b (2 ^ k) os_entry sound (omega (arith, pow_pos k)) (λ p a z i h. apart i p h a z)) in
        let power : (leb 12 k && leb k 30) ≡ true = grind (arith, nat_tests) in
        let multiple = eq-eqb (b % 2 ^ k) 0 even in
        let fits_in = le-leb (b + 2 ^ k) r.size fits in
        yes_all (questions r (Create s b k))
        (started, (slot_number s l m, (ap os_runs t, (free, (power, (multiple, (fits_in, (clear_of, tt))))))))

    enters : (s : ℕ) → r.turn ≡ Os → first_slot ≤ s → s ≤ last_slot → is_unfinished (r.slot s) ≡ true → judges r (Enter s) ≡ Accepted
    enters s t l m h =
        yes_all (questions r (Enter s))
        (started, (slot_number s l m, (ap os_runs t, (not_from_false (is_free (r.slot s)) (unfinished_live (r.slot s) h), (h, tt)))))

    destroys : (s : ℕ) → r.turn ≡ Os → first_slot ≤ s → s ≤ last_slot → is_free (r.slot s) ≡ false → judges r (Destroy s) ≡ Accepted
    destroys s t l m h =
        yes_all (questions r (Destroy s)) (started, (slot_number s l m, (ap os_runs t, (not_from_false (is_free (r.slot s)) h, tt))))

    hands_back_in : (e w : ℕ) → r.turn ≡ Enclave e → (judges r Pause ≡ Accepted) × (judges r (Finish w) ≡ Accepted)
    hands_back_in e w t =
        let runs : not (os_runs r.turn) ≡ true = ap (λ p. not (os_runs p)) t in
        (yes_all (questions r Pause) (started, (runs, tt)), yes_all (questions r (Finish w)) (started, (runs, tt)))

hands_back_not : (r : Roll) (w : ℕ) → r.turn ≡ Os → (judges r Pause ≡ Accepted → ⊥) × (judges r (Finish w) ≡ Accepted → ⊥)
hands_back_not r w t =
    let stops : not (os_runs r.turn) ≡ false = ap (λ p. not (os_runs p)) t in (
      λ h. both_ways (not (os_runs r.turn)) stops (all_yes (questions r Pause) h).1.0,
      λ h. both_ways (not (os_runs r.turn)) stops (all_yes (questions r (Finish w)) h).1.0,
    )

unstarted : (r : Roll) (c : Call) → starts r.size ≡ false → judges r c ≡ Err NotStarted
unstarted r Pause h = cond-false (starts r.size) _ (Err NotStarted) h
unstarted r _ h = cond-false (starts r.size) _ (Err NotStarted) h

-- All of it.

sound_at : (n : ℕ) (cs : List Call) → Sound (rolled (start n) cs)
sound_at n cs = rolled_sound (start n) cs (start_sound n)

started_at : (n : ℕ) (cs : List Call) (b : Bool) → starts n ≡ b → starts (rolled (start n) cs).size ≡ b
started_at n cs b h = ap starts (rolled_size (start n) cs) ∙ h

pub roll_laws : RollLaws
roll_laws = record {
  live_ranges = λ n cs i f t h.
      let w = range_shape (rolled (start n) cs) (sound_at n cs) i f t h in
      (w.0, w.1, w.2, subst (λ z. t ≤ z) (rolled_size (start n) cs) w.3, w.4);
  disjoint = λ n cs. (sound_at n cs).one;
  one_runs = λ n cs e. ((sound_at n cs).alone e, (sound_at n cs).at_work e);
  finished_stays = λ n cs. finished_shut (rolled (start n) cs) (sound_at n cs);
  only_os = λ n cs. not_os (rolled (start n) cs) (sound_at n cs);
  create_accepted = λ n cs s b k go t l m free low high even fits.
      creates (rolled (start n) cs) (sound_at n cs) (started_at n cs true go) s b k t l m free low high even
      (subst (λ z. b + 2 ^ k ≤ z) (sym (rolled_size (start n) cs)) fits);
  enter_accepted = λ n cs s go. enters (rolled (start n) cs) (sound_at n cs) (started_at n cs true go) s;
  destroy_accepted = λ n cs s go. destroys (rolled (start n) cs) (sound_at n cs) (started_at n cs true go) s;
  hand_back = λ n cs e w go. (
    hands_back_in (rolled (start n) cs) (sound_at n cs) (started_at n cs true go) e w,
    hands_back_not (rolled (start n) cs) w,
  );
  not_started = λ n cs c h. unstarted (rolled (start n) cs) c (started_at n cs false h);
  register_refused = λ n cs m w h. both_ways false refl (all_yes (questions (rolled (start n) cs) (Register m w)) h).1.0;
}
