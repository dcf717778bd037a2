-- slot e's view of the memory: two machines that agree in its range and in the common page
use Rattle.std.proofs.Common.{◌≡◌, ℕ, pred, ◌+◌, ◌<◌, ◌≤◌, true, false, ◌&&◌, ◌||◌, leb, ◌⊎◌, List, length, get_or, Some, Err, sym, refl, ap, ◌∙◌, inl, inr, arith}
use Rattle.std.proofs.lemmas.Bool.{both_ways, eq-eqb, le-leb, or_cases}
use Rattle.std.proofs.lemmas.Bool.Decides.{nat_tests}
use Rattle.refusals.specs.Questions.{ruled}
use Rattle.monitor.specs.Layout.{common_first, common_past, starts}
use Rattle.monitor.specs.Roll.{Accepted, Roll, hands_back, judges, next, only, questions, within}
use Rattle.monitor.specs.Slots.{os_runs, ranged}
use Rattle.monitor.specs.Theorem.{Agree, Between}
use Rattle.monitor.specs.declared.answer.Denial.TheVariants.{Refused}
use Rattle.monitor.specs.declared.call.Call.{Call}
use Rattle.monitor.specs.declared.call.Call.TheVariants.{Pause, Finish, Destroy, Access, Register}
use Rattle.monitor.specs.declared.slot.Party.TheVariants.{Enclave}
use Rattle.monitor.proofs.Access.{access_agree, access_same, common_parts}
use Rattle.monitor.proofs.Plain.{accepted_answer, accepted_bytes, common, covers, permits, permits_turn, plain_after, plain_answer}
use Rattle.monitor.proofs.Rolls.{AllYes, all_yes, next_ranged, next_size, next_sound, inside, ruled_pair, starts_big}
use Rattle.monitor.proofs.Sound.{Sound}
use Rattle.monitor.proofs.Steps.{belongs_past, bytes_stay, inside_roll, length_after, own_turn, unseen_by, without}

-- the first machine runs as it likes; the second is the one on which slot e always runs
pub record View (e f t : ℕ) (r q : Roll) (xs ys : List ℕ) : Type 0 where
  pub sound_x : Sound r
  pub range_x : ranged (r.slot e) ≡ Some (f, t)
  pub range_y : ranged (q.slot e) ≡ Some (f, t)
  pub fits_y : t ≤ q.size
  pub turn_y : q.turn ≡ Enclave e
  pub len_x : length xs ≡ r.size
  pub len_y : length ys ≡ q.size
  pub starts_x : starts r.size ≡ true
  pub starts_y : starts q.size ≡ true
  pub range : Agree xs ys (Between f t)
  pub page : Agree xs ys (Between common_first common_past)

-- A call outside slot e.

pub view_out : (e f t : ℕ) (r q : Roll) (xs ys : List ℕ) (c : Call) → within (only e) r c ≡ false → (c ≡ Destroy e → judges r c ≡ Accepted → ⊥)
    → View e f t r q xs ys → View e f t (next r c) q (plain_after r xs c) ys
view_out e f t r q xs ys c h d v =
    let z = next_size r c in
    record {
      sound_x = next_sound r c v.sound_x;
      range_x = next_ranged r c e f t d v.range_x;
      range_y = v.range_y;
      fits_y = v.fits_y;
      turn_y = v.turn_y;
      len_x = length_after r xs c ∙ v.len_x ∙ sym z;
      len_y = v.len_y;
      starts_x = ap starts z ∙ v.starts_x;
      starts_y = v.starts_y;
      range = λ p w.
          let mine = inside r e f t p v.range_x w.0 w.1 in
          bytes_stay r xs c p v.sound_x v.len_x
          (λ k b. unseen_by r r.turn (only e) e p v.sound_x (eq-eqb e e refl) (without (only e) r c h k) b mine)
          (λ s k y g. d (k ∙ ap Destroy (v.sound_x.one s e p g mine)) y)
          ∙ v.range p w;
      page = λ p w.
          bytes_stay r xs c p v.sound_x v.len_x
          (λ k b. let y = belongs_past r r.turn p v.sound_x b in let l = w.1 in omega arith)
          (λ s k y g. let x = (v.sound_x.place s p g).1 in let l = w.1 in omega arith)
          ∙ v.page p w;
    }

-- A call inside slot e.

permits_inside : (r : Roll) (e f u kind a t : ℕ) → r.turn ≡ Enclave e → ranged (r.slot e) ≡ Some (f, u)
    → permits r kind a t ≡ (common kind a t || (leb f a && leb t u))
unfolding permits
permits_inside r e f u kind a t h k =
    ap (λ w. common kind a t || permits_turn r w a t) h ∙ ap (λ b. common kind a t || b) (ap (λ o. covers o a t) k)

-- an access that slot e may make lies in its range or in the common page
reach : (f u kind a t : ℕ) → (common kind a t || (leb f a && leb t u)) ≡ true → ((f ≤ a) × (t ≤ u)) ⊎ ((common_first ≤ a) × (t ≤ common_past))
reach f u kind a t h =
    elim (or_cases (common kind a t) (leb f a && leb t u) h) [
      | inl w ↦ let x = common_parts kind a t w in inr (x.1, x.2)
      | inr w ↦ inl (grind (arith, nat_tests))
    ]

pub range_fits : (r : Roll) (e f u : ℕ) → Sound r → ranged (r.slot e) ≡ Some (f, u) → u ≤ r.size
range_fits r e f u s h =
    let l = s.some e f u h in
    let z = (s.place e (pred u) (inside r e f u (pred u) h (omega arith) (omega arith))).2 in omega arith

inside_judges : (r q : Roll) (e : ℕ) (c : Call) → r.turn ≡ Enclave e → q.turn ≡ Enclave e → starts r.size ≡ true → starts q.size ≡ true
    → hands_back c ≡ false → judges r c ≡ judges q c
inside_judges r q e Pause h g i j n = cc
inside_judges r q e (Finish w) h g i j n = cc
inside_judges r q e (Access k a n v) h g i j _ = rw (i, j)
inside_judges r q e (Register n w) h g i j _ = rw (i, j)
inside_judges r q e _ h g i j n = rw (h, g, i, j)

module _ (e f t : ℕ) (r q : Roll) (xs ys : List ℕ) (turn-x : r.turn ≡ Enclave e) (v : View e f t r q xs ys) where
  same_permits : (kind a u : ℕ) → permits r kind a u ≡ permits q kind a u
  same_permits kind a u = permits_inside r e f t kind a u turn-x v.range_x ∙ sym (permits_inside q e f t kind a u v.turn_y v.range_y)

  reached : (kind a u : ℕ) → permits r kind a u ≡ true → ((f ≤ a) × (u ≤ t)) ⊎ ((common_first ≤ a) × (u ≤ common_past))
  reached kind a u h = reach f t kind a u (sym (permits_inside r e f t kind a u turn-x v.range_x) ∙ h)

  both_fit : (kind a u : ℕ) → permits r kind a u ≡ true → leb u (length xs) ≡ leb u (length ys)
  both_fit kind a u h =
      let fx = range_fits r e f t v.sound_x v.range_x in
      let fy = v.fits_y in
      let lx = v.len_x in let ly = v.len_y in let bx = starts_big r.size v.starts_x in let by = starts_big q.size v.starts_y in
      let fits : (u ≤ length xs) × (u ≤ length ys) = elim (reached kind a u h) [ inl w ↦ omega arith | inr w ↦ omega arith ] in
      le-leb u (length xs) fits.0 ∙ sym (le-leb u (length ys) fits.1)

  pub view_answer : (c : Call) → hands_back c ≡ false → plain_answer r xs c ≡ plain_answer q ys c
  unfolding plain_answer
  view_answer c h = rw (← inside_judges r q e c turn-x v.turn_y v.starts_x v.starts_y h) (ap (λ x. ruled (judges r c) x (λ e. Err (Refused e))) (acc c))
    where
      acc : (c : Call) → accepted_answer r xs c ≡ accepted_answer q ys c
      acc (Access k a n w) =
          access_same r q xs ys k a n (same_permits k a (a + n)) (both_fit k a (a + n))
          (λ h _ p l m.
          elim (reached k a (a + n) h) [
            | inl z ↦ v.range p (let z0 = z.0 in omega arith, let z1 = z.1 in omega arith)
            | inr z ↦ v.page p (let z0 = z.0 in omega arith, let z1 = z.1 in omega arith)
          ])
      acc _ = refl

  view_bytes : (c : Call) (p : ℕ) → hands_back c ≡ false → p < length xs → p < length ys → get_or xs p 0 ≡ get_or ys p 0
      → get_or (plain_after r xs c) p 0 ≡ get_or (plain_after q ys c) p 0
  unfolding plain_after
  view_bytes c p h lx ly e =
      rw (← inside_judges r q _ c turn-x v.turn_y v.starts_x v.starts_y h)
      (ruled_pair (λ (k m : List ℕ). get_or k p 0 ≡ get_or m p 0) (judges r c) (accepted_bytes r xs c) (accepted_bytes q ys c) (λ _. xs) (λ _. ys)
      (λ z. acc c (all_yes (questions r c) z)) (λ _ _. e))
    where
      acc : (d : Call) → AllYes (questions r d) → get_or (accepted_bytes r xs d) p 0 ≡ get_or (accepted_bytes q ys d) p 0
      acc (Destroy s) y = absurd (both_ways (os_runs r.turn) (ap os_runs turn-x) y.1.1.0)
      acc (Access k a n w) y = access_agree r q xs ys k a n w p (same_permits k a (a + n)) (both_fit k a (a + n)) lx ly e
      acc _ y = e

  pub view_in : (c : Call) → within (only e) r c ≡ true → within (only e) q c ≡ true
      → View e f t (next r c) (next q c) (plain_after r xs c) (plain_after q ys c)
  view_in c h k =
      let n = inside_roll (only e) r c h in
      let m = inside_roll (only e) q c k in
      let back = (own_turn e r c h).1 in
      let fx = range_fits r e f t v.sound_x v.range_x in
      let fy = v.fits_y in
      let lx = v.len_x in let ly = v.len_y in let bx = starts_big r.size v.starts_x in let by = starts_big q.size v.starts_y in
      rw (n, m) record {
        sound_x = v.sound_x;
        range_x = v.range_x;
        range_y = v.range_y;
        fits_y = v.fits_y;
        turn_y = v.turn_y;
        len_x = length_after r xs c ∙ v.len_x;
        len_y = length_after q ys c ∙ v.len_y;
        starts_x = v.starts_x;
        starts_y = v.starts_y;
        range = λ p w. let w1 = w.1 in view_bytes c p back (omega arith) (omega arith) (v.range p w);
        page = λ p w. let w1 = w.1 in view_bytes c p back (omega arith) (omega arith) (v.page p w);
      }
