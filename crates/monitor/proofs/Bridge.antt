-- the machine over its bank follows the plain machine, and so is closed off
use Rattle.std.proofs.Common.{◌≡◌, ℕ, zero, suc, ◌+◌, ◌-◌, ◌*◌, ◌/◌, ◌^◌, ◌<◌, ◌≤◌, Bool, true, false, cond, ◌&&◌, eqb, leb, List, [], ◌∷◌, length, set, replicate, Some, None, Err, Option, Result, sym, refl, ap, ◌∙◌, subst, ap₂, inl, inr, arith, length-set, get_or-set_other, get_or-set_same}
use mathlib.Core.Path.{fun_ext}
use lib.ListN.{get_or-replicate, get_or-eq_default}
use lib.Seq.{sets, length-sets}
use Rattle.std.proofs.lemmas.Bool.{cases_Bool, cases_eq, cases_lt, eq-eqb, leb-true, ne_eqb, not-true}
use Rattle.std.proofs.lemmas.Bool.Decides.{nat_tests}
use Rattle.refusals.specs.Questions.{ruled}
use Rattle.bank.specs.Clean.{Clean, is_clean}
use Rattle.bank.specs.Content.{count, entry_of, is_locked, put_word, stored_byte, zero_entry}
use Rattle.bank.specs.Ranges.{end}
use Rattle.bank.specs.Verdicts.{verdict_of}
use Rattle.bank.specs.declared.entry.Entry.{Entry}
use Rattle.bank.proofs.Words.{size_steps}
use Rattle.monitor.specs.Bytes.{low_bytes}
use Rattle.monitor.specs.Content.{
  Content,
  access_answer,
  access_bytes,
  act,
  address,
  after,
  answer,
  banked,
  configure,
  halts,
  is_allowed,
  new_content,
  reply,
  roll_of,
  slot_of,
  wiped,
  wiped_slot,
}
use Rattle.monitor.specs.Layout.{opened, os_entry, shut, starts}
use Rattle.monitor.specs.Roll.{Accepted, Roll, accept, halted, judges, next, only, put, questions, runs_in, start}
use Rattle.monitor.specs.Slots.{InRange, is_free, is_running, is_unfinished, moved, os_runs, ranged, restaged}
use Rattle.monitor.specs.Theorem.{ClosedOff, Unseen, ran}
use Rattle.monitor.specs.declared.answer.Denial.{Denial}
use Rattle.monitor.specs.declared.answer.Denial.TheVariants.{Refused}
use Rattle.monitor.specs.declared.call.Call.{Call}
use Rattle.monitor.specs.declared.call.Call.TheVariants.{Create, Enter, Pause, Finish, Destroy, Access, Register}
use Rattle.monitor.specs.declared.slot.Event.{Event}
use Rattle.monitor.specs.declared.slot.Event.TheVariants.{Create as Creates, Enter as Enters, Pause as Pauses, Finish as Finishes, Destroy as Destroys}
use Rattle.monitor.specs.declared.slot.Party.{Party}
use Rattle.monitor.specs.declared.slot.Party.TheVariants.{Os, Enclave}
use Rattle.monitor.specs.declared.slot.Slot.{Slot}
use Rattle.monitor.specs.declared.slot.Slot.TheVariants.{Free, Fresh, Running, Stopped, Finished}
use Rattle.monitor.proofs.Held.{But, Held, entry, rank, slot_entry, system_entry}
use Rattle.monitor.proofs.Plain.{accepted_answer, accepted_bytes, plain_after, plain_answer, wipe}
use Rattle.monitor.proofs.Registers.{address_is, clean_word, configure_is}
use Rattle.monitor.proofs.Rolls.{AllYes, accepted_starts, all_yes, next_size, next_sound, os_not, put_other, put_same, restaged_range, ruled_cases, ruled_pair, slot_number, start_sound}
use Rattle.monitor.proofs.Runs.{at}
use Rattle.monitor.proofs.Sound.{Sound}
use Rattle.monitor.proofs.Steps.{length_wipe}
use Rattle.monitor.proofs.Transfer.{Follows, transfer, transfer_unseen}
use Rattle.monitor.proofs.Verdicts.{answer_same, bytes_same, top_verdict}
use Rattle.monitor.proofs.Writes.{byte_open, byte_word, clean_but, last_set, new_held, slot_set, unlocked, word_byte}

-- a machine whose bank and privilege are what its own roll says
pub record Good (m : Content) : Type 0 where
  pub held : Held m.bank (roll_of m)
  pub ranked : m.privilege ≡ rank m.party
  pub len : length m.slots ≡ count
  pub sound : Sound (roll_of m)
  pub small : length m.bytes ≤ 2 ^ 34

-- Slots.

roll_path : (a b : ℕ) (f g : ℕ → Slot) (w : Party) → a ≡ b → f ≡ g
    → ◌≡◌ {A = Roll} (record { size = a; slot = f; turn = w }) (record { size = b; slot = g; turn = w })
roll_path a b f g w p q = λ i. record { size = p i; slot = q i; turn = w }

slots_put : (l : List Slot) (s : ℕ) (x y : Slot) → s < length l → x ≡ y → slot_of (set l s x) ≡ put (slot_of l) s y
slots_put l s x y h q = fun_ext (λ i.
    elim (cases_eq i s) [
      | inl e ↦ rw (e, put_same) (get_or-set_same l s x Free h ∙ q)
      | inr ne ↦ get_or-set_other l s i x Free ne ∙ sym (put_other (slot_of l) s y i ne)
    ])

-- the machine's table of stages and events says what the roll says
moved_create : (x : Slot) (g : ℕ × ℕ) → is_free x ≡ true → moved x (Creates g) ≡ Fresh g
moved_create Free g h = refl
moved_create _ g h = cc

moved_enter : (x : Slot) → is_unfinished x ≡ true → is_running x ≡ false → moved x Enters ≡ restaged Running x
moved_enter (Fresh _) h k = refl
moved_enter (Stopped _) h k = refl
moved_enter _ h k = cc

moved_destroy : (x : Slot) → is_free x ≡ false → is_running x ≡ false → moved x Destroys ≡ Free
moved_destroy Free h k = cc
moved_destroy (Running _) h k = cc
moved_destroy _ h k = refl

-- pause and finish, each with the stage that it leads to
record Halting (event : Event) (stage : ℕ × ℕ → Slot) : Type 0 where
  keeps : (g : ℕ × ℕ) → ranged (stage g) ≡ Some g
  leads : (g : ℕ × ℕ) → moved (Running g) event ≡ stage g

pauses : Halting Pauses Stopped
pauses = record { keeps = λ g. refl; leads = λ g. refl }

finishes : Halting Finishes Finished
finishes = record { keeps = λ g. refl; leads = λ g. refl }

moved_halt : (event : Event) (stage : ℕ × ℕ → Slot) → Halting event stage → (x : Slot) → is_running x ≡ true → moved x event ≡ restaged stage x
moved_halt event stage o (Running g) h = o.leads g
moved_halt event stage o _ h = cc

live : (x : Slot) → is_free x ≡ false → (g : ℕ × ℕ) × (ranged x ≡ Some g)
live Free h = cc
live (Fresh g) h = (g, refl)
live (Running g) h = (g, refl)
live (Stopped g) h = (g, refl)
live (Finished g) h = (g, refl)

running_live : (x : Slot) → is_running x ≡ true → is_free x ≡ false
running_live Free h = cc
running_live _ h = refl

os_party : (w : Party) → os_runs w ≡ true → w ≡ Os
os_party Os h = refl
os_party (Enclave e) h = cc

-- while the operating system runs no slot is at the stage of running
at_rest : (r : Roll) (i : ℕ) → Sound r → os_runs r.turn ≡ true → is_running (r.slot i) ≡ false
at_rest r i s h = elim (cases_Bool (is_running (r.slot i))) [ inl k ↦ absurd (os_not r.turn i h (s.alone i k)) | inr k ↦ k ]

-- Bytes.

-- n stores of eight zeros, where each is allowed
clears : (l : List Entry) (bs : List ℕ) (f n : ℕ) → ((p : ℕ) → f ≤ p → p + 8 ≤ f + 8 * n → is_allowed (verdict_of l 3 2 p 8) ≡ true)
    → wiped l bs f n ≡ sets bs f (replicate (8 * n) 0)
unfolding wiped
clears l bs f zero h = refl
clears l bs f (suc n) h =
    let e : 8 * suc n ≡ suc (suc (suc (suc (suc (suc (suc (suc (8 * n)))))))) = omega arith in
    let d : f + 8 ≡ suc (suc (suc (suc (suc (suc (suc (suc f))))))) = omega arith in
    let zs : List ℕ = sets bs f (low_bytes 8 0) in
    ap (λ b. wiped l (cond b zs bs) (f + 8) n) (h f (omega arith) (omega arith))
    ∙ clears l zs (f + 8) n (λ p a b. h p (omega arith) (omega arith))
    ∙ ap (λ i. sets zs i (replicate (8 * n) 0)) d
    ∙ ap (λ k. sets bs f (replicate k 0)) (sym e)

module _ (m : Content) (g : Good m) where
  wiped_is : (s : ℕ) (x : Option (ℕ × ℕ)) → ranged (slot_of m.slots s) ≡ x → wiped_slot m.bank m.bytes x ≡ wipe x m.bytes
  wiped_is s None e = refl
  wiped_is s (Some x) e =
      let o = g.sound.shape s x.0 x.1 e in
      let t = o.to in
      let k12 = o.twelve in
      let k30 = o.thirty in
      let z = size_steps o.power (omega arith) (omega arith) in
      let q : 8 * ((x.1 - x.0) / 8) ≡ x.1 - x.0 = omega arith in
      clears m.bank m.bytes x.0 ((x.1 - x.0) / 8)
      (λ p a b. top_verdict m.bank (roll_of m) g.sound g.held g.small s x.0 x.1 p e a (omega arith))
      ∙ ap (λ n. sets m.bytes x.0 (replicate n 0)) q

  reply_is : (c : Call) → AllYes (questions (roll_of m) c) → reply m c ≡ accepted_answer (roll_of m) m.bytes c
  reply_is (Access kind a n v) y =
      ap (λ p. access_answer (verdict_of m.bank p kind a n) m.bytes kind a n) g.ranked
      ∙ answer_same m.bank (roll_of m) g.sound g.held g.small kind a n (leb-true kind 2 y.1.0) y.1.1.0 (leb-true (a + n) end y.1.1.1.0) m.bytes
  reply_is _ y = refl

  halts_bytes : (event : Event) (w : Party) → (halts event m w).bytes ≡ m.bytes
  halts_bytes event Os = refl
  halts_bytes event (Enclave e) = refl

  act_bytes : (c : Call) → AllYes (questions (roll_of m) c) → (act m c).bytes ≡ accepted_bytes (roll_of m) m.bytes c
  act_bytes Pause y = halts_bytes Pauses m.party
  act_bytes (Finish w) y = halts_bytes Finishes m.party
  act_bytes (Destroy s) y = wiped_is s (ranged (slot_of m.slots s)) refl
  act_bytes (Access kind a n v) y =
      ap (λ p. access_bytes (verdict_of m.bank p kind a n) m.bytes kind a n v) g.ranked
      ∙ bytes_same m.bank (roll_of m) g.sound g.held g.small kind a n (leb-true kind 2 y.1.0) y.1.1.0 (leb-true (a + n) end y.1.1.1.0) m.bytes v
  act_bytes _ y = refl

-- The bank.

entry_runs : (w v : Party) (i : ℕ) (x : Option (ℕ × ℕ)) → runs_in w (only i) ≡ runs_in v (only i) → slot_entry w i x ≡ slot_entry v i x
entry_runs w v i None h = refl
entry_runs w v i (Some x) h = ap (λ b. entry (cond b opened shut) (x.0 / 4 + (x.1 - x.0) / 8 - 1)) h

system_open : (w : Party) → is_locked (system_entry w).config ≡ false
system_open Os = refl
system_open (Enclave e) = refl

system_clean : (w : Party) → is_clean (system_entry w).config ≡ true
system_clean Os = refl
system_clean (Enclave e) = refl

system_word : (w : Party) → (system_entry w).word ≡ 0xFFFFFFFF
system_word Os = refl
system_word (Enclave e) = refl

-- the number of a slot that runs
at_work_number : (r : Roll) (e : ℕ) → Sound r → r.turn ≡ Enclave e → (2 ≤ e) × (e < 15)
at_work_number r e s h =
    let x = live (r.slot e) (running_live (r.slot e) (s.at_work e h)) in
    let f = x.0.0 in let t = x.0.1 in
    let n = s.some e f t x.1 in
    ((s.shape e f t x.1).from_first, (s.place e f (subst (λ y. InRange y f) (sym x.1) (omega arith, n))).0)

module _ (m : Content) (g : Good m) where
  -- slot s is set to x, and its entry to e, as v comes to run
  set_slot : (z e : Entry) (l : List Entry) (s : ℕ) (x : Slot) (v : Party) → But z l (roll_of m) → 2 ≤ s → s < 15 → e ≡ slot_entry v s (ranged x)
      → ((i : ℕ) → (i ≡ s → ⊥) → runs_in m.party (only i) ≡ runs_in v (only i))
      → But z (set l s e) (record { size = length m.bytes; slot = slot_of (set m.slots s x); turn = v })
  set_slot z e l s x v b a o q k =
      slot_set z e l (roll_of m) (record { size = length m.bytes; slot = slot_of (set m.slots s x); turn = v }) s b a o
      (q ∙ ap (λ y. slot_entry v s (ranged y)) (sym (get_or-set_same m.slots s x Free (let n = g.len in omega arith))))
      (λ i ne.
      entry_runs m.party v i (ranged (slot_of m.slots i)) (k i ne)
      ∙ ap (λ y. slot_entry v i (ranged y)) (sym (get_or-set_other m.slots s i x Free ne)))

  base : But (system_entry m.party) m.bank (roll_of m)
  base = g.held

  clean : Clean m.bank
  clean = clean_but (system_entry m.party) m.bank (roll_of m) base (system_clean m.party)

  open_at : (i : ℕ) → 2 ≤ i → i ≤ 15 → is_locked (entry_of m.bank i).config ≡ false
  open_at i a b = unlocked (system_entry m.party) m.bank (roll_of m) base i (system_open m.party) a b

  create_bank : (s w : ℕ) → 2 ≤ s → s < 15 → configure (address m.bank s w) s shut ≡ set m.bank s (entry shut w)
  create_bank s w a b =
      let z = g.held.len in
      ap (λ l. configure l s shut) (address_is m.bank s w (omega arith))
      ∙ configure_is (put_word m.bank s w) s shut (clean_word m.bank s w clean) (omega arith) (omega arith)
      ∙ word_byte m.bank s w shut (omega arith) (open_at s a (omega arith)) (open_at (s + 1) (omega arith) (omega arith))

  destroy_bank : (s : ℕ) → 2 ≤ s → s < 15 → address (configure m.bank s 0) s 0 ≡ set m.bank s zero_entry
  destroy_bank s a b =
      let z = g.held.len in
      address_is (configure m.bank s 0) s 0 (omega arith)
      ∙ ap (λ l. put_word l s 0) (configure_is m.bank s 0 clean (omega arith) (omega arith))
      ∙ byte_word m.bank s 0 0 (omega arith) (open_at s a (omega arith)) (open_at (s + 1) (omega arith) (omega arith)) refl

  create_held : (s b k : ℕ) → AllYes (questions (roll_of m) (Create s b k)) → Held (act m (Create s b k)).bank (roll_of (act m (Create s b k)))
  create_held s b k y =
      let n = slot_number s y.1.0 in
      let x : Slot = moved (slot_of m.slots s) (Creates (b, b + 2 ^ k)) in
      let e : x ≡ Fresh (b, b + 2 ^ k) = moved_create (slot_of m.slots s) (b, b + 2 ^ k) y.1.1.1.0 in
      let os : m.party ≡ Os = os_party m.party y.1.1.0 in
      let q : entry shut w ≡ slot_entry m.party s (ranged x) =
      ap (entry shut) word_is ∙ ap (λ v. slot_entry v s (Some (b, b + 2 ^ k))) (sym os) ∙ ap (λ y. slot_entry m.party s (ranged y)) (sym e) in
      subst (λ l. Held l (roll_of (act m (Create s b k)))) (sym (create_bank s w n.0 n.1))
      (set_slot (system_entry m.party) (entry shut w) m.bank s x m.party base n.0 n.1 q (λ i ne. refl))
    where
      w : ℕ
      w = b / 4 + 2 ^ (k - 3) - 1

      word_is : w ≡ b / 4 + (b + 2 ^ k - b) / 8 - 1
      word_is =
          let e = y.1.1.1.1.0 in
          let exponent : (12 ≤ k) × (k ≤ 30) = grind (arith, nat_tests) in
          let z = size_steps k (omega arith) (omega arith) in
          omega arith

  freed : (s : ℕ) → AllYes (questions (roll_of m) (Destroy s)) → moved (slot_of m.slots s) Destroys ≡ Free
  freed s y = moved_destroy (slot_of m.slots s) (not-true (is_free (slot_of m.slots s)) y.1.1.1.0) (at_rest (roll_of m) s g.sound y.1.1.0)

  destroy_held : (s n : ℕ) → AllYes (questions (roll_of m) (Destroy s))
      → Held (act m (Destroy s)).bank (record { size = n; slot = slot_of (act m (Destroy s)).slots; turn = m.party })
  destroy_held s n y =
      let i = slot_number s y.1.0 in
      let x : Slot = moved (slot_of m.slots s) Destroys in
      let e : x ≡ Free = freed s y in
      let h = set_slot (system_entry m.party) zero_entry m.bank s x m.party base i.0 i.1 (ap (λ y. slot_entry m.party s (ranged y)) (sym e)) (λ i ne. refl) in
      subst (λ l. Held l (record { size = n; slot = slot_of (set m.slots s x); turn = m.party })) (sym (destroy_bank s i.0 i.1))
      (record { len = h.len; monitor = h.monitor; shared = h.shared; slot = h.slot; last = h.last })

  -- a live slot's byte and that of the last entry are written, as v comes to run
  hand_over : (s x y : ℕ) (c : Slot) (v : Party) → x < 256 → y < 256 → 2 ≤ s → s < 15
      → is_free (slot_of m.slots s) ≡ false → ranged c ≡ ranged (slot_of m.slots s)
      → stored_byte x ≡ cond (runs_in v (only s)) opened shut → entry (stored_byte y) 0xFFFFFFFF ≡ system_entry v
      → ((i : ℕ) → (i ≡ s → ⊥) → runs_in m.party (only i) ≡ runs_in v (only i))
      → Held (configure (configure m.bank s x) os_entry y) (record { size = length m.bytes; slot = slot_of (set m.slots s c); turn = v })
  hand_over s x y c v hx hy a b f e p q k =
      subst (λ l. Held l r) (sym bank_is)
      (subst (λ z. But z (set l os_entry last) r)
      (ap (λ (d : Entry). entry (stored_byte y) d.word) one.last ∙ ap (entry (stored_byte y)) (system_word m.party) ∙ q)
      (last_set (system_entry m.party) last l r one))
    where
      r : Roll
      r = record { size = length m.bytes; slot = slot_of (set m.slots s c); turn = v }

      new : Entry
      new = entry (stored_byte x) (entry_of m.bank s).word

      l : List Entry
      l = set m.bank s new

      last : Entry
      last = entry (stored_byte y) (entry_of l os_entry).word

      go : (d : Option (ℕ × ℕ)) → ranged (slot_of m.slots s) ≡ d → entry (stored_byte x) (slot_entry m.party s d).word ≡ slot_entry v s d
      go None h = let z = live (slot_of m.slots s) f in cc (sym h ∙ z.1)
      go (Some d) h = ap (λ i. entry i (d.0 / 4 + (d.1 - d.0) / 8 - 1)) p

      one : But (system_entry m.party) l r
      one =
          set_slot (system_entry m.party) new m.bank s c v base a b
          (ap (λ (d : Entry). entry (stored_byte x) d.word) (base.slot s a b) ∙ go (ranged (slot_of m.slots s)) refl ∙ ap (slot_entry v s) (sym e)) k

      bank_is : configure (configure m.bank s x) os_entry y ≡ set l os_entry last
      bank_is =
          ap (λ i. configure i os_entry y) (configure_is m.bank s x clean (omega arith) hx ∙ byte_open m.bank s x (open_at s a (omega arith)))
          ∙ configure_is l os_entry y (clean_but (system_entry m.party) l r one (system_clean m.party)) (omega arith) hy
          ∙ byte_open l os_entry y (unlocked (system_entry m.party) l r one os_entry (system_open m.party) (omega arith) (omega arith))

  -- The roll.

  in_slots : (s : ℕ) → s < 15 → s < length m.slots
  in_slots s h = let z = g.len in omega arith

  halts_roll : (event : Event) (stage : ℕ × ℕ → Slot) → Halting event stage → (w : Party) → m.party ≡ w → roll_of (halts event m w) ≡ halted stage (roll_of m) w
  halts_roll event stage o Os q = refl
  halts_roll event stage o (Enclave e) q =
      roll_path _ _ _ _ Os refl
      (slots_put m.slots e _ _ (in_slots e (at_work_number (roll_of m) e g.sound q).1) (moved_halt event stage o (slot_of m.slots e) (g.sound.at_work e q)))

  access_size : (kind a n v : ℕ) → length (act m (Access kind a n v)).bytes ≡ length m.bytes
  access_size kind a n v = go (is_allowed (verdict_of m.bank m.privilege kind a n) && leb (a + n) (length m.bytes)) (eqb kind 2)
    where
      go : (b c : Bool) → length (cond b (cond c (sets m.bytes a (low_bytes n v)) m.bytes) m.bytes) ≡ length m.bytes
      go true true = length-sets m.bytes a (low_bytes n v)
      go true false = refl
      go false c = refl

  act_roll : (c : Call) → AllYes (questions (roll_of m) c) → roll_of (act m c) ≡ accept (roll_of m) c
  unfolding accept
  act_roll (Create s b k) y =
      roll_path _ _ _ _ m.party refl
      (slots_put m.slots s _ _ (in_slots s (slot_number s y.1.0).1) (moved_create (slot_of m.slots s) (b, b + 2 ^ k) y.1.1.1.0))
  act_roll (Enter s) y =
      roll_path _ _ _ _ (Enclave s) refl
      (slots_put m.slots s _ _ (in_slots s (slot_number s y.1.0).1) (moved_enter (slot_of m.slots s) y.1.1.1.1.0 (at_rest (roll_of m) s g.sound y.1.1.0)))
  act_roll Pause y = halts_roll Pauses Stopped pauses m.party refl
  act_roll (Finish w) y = halts_roll Finishes Finished finishes m.party refl
  act_roll (Destroy s) y =
      roll_path _ _ _ _ m.party (ap length (act_bytes m g (Destroy s) y) ∙ length_wipe (ranged (slot_of m.slots s)) m.bytes)
      (slots_put m.slots s _ _ (in_slots s (slot_number s y.1.0).1) (freed s y))
  act_roll (Access kind a n v) y = roll_path _ _ _ _ m.party (access_size kind a n v) refl
  act_roll (Register n w) y = refl

  -- What of a good machine does not concern the roll.

  record Fit (n : Content) : Type 0 where
    held : Held n.bank (roll_of n)
    ranked : n.privilege ≡ rank n.party
    len : length n.slots ≡ count

  self : Fit m
  self = record { held = g.held; ranked = g.ranked; len = g.len }

  halts_fit : (event : Event) (stage : ℕ × ℕ → Slot) → Halting event stage → (w : Party) → m.party ≡ w → Fit (halts event m w)
  halts_fit event stage o Os q = self
  halts_fit event stage o (Enclave e) q =
      let n = at_work_number (roll_of m) e g.sound q in
      let runs = g.sound.at_work e q in
      let x : Slot = slot_of m.slots e in
      record {
        held = hand_over e shut opened (moved x event) Os (omega arith) (omega arith) n.0 n.1 (running_live x runs)
            (ap ranged (moved_halt event stage o x runs) ∙ restaged_range stage o.keeps x) refl refl
            (λ i ne. ap (λ w. runs_in w (only i)) q ∙ ne_eqb e i (λ z. ne (sym z)));
        ranked = refl;
        len = length-set m.slots e (moved x event) ∙ g.len;
      }

  act_fit : (c : Call) → AllYes (questions (roll_of m) c) → Fit (act m c)
  act_fit (Create s b k) y = record { held = create_held s b k y; ranked = g.ranked; len = length-set m.slots s _ ∙ g.len }
  act_fit (Enter s) y =
      let n = slot_number s y.1.0 in
      let x : Slot = slot_of m.slots s in
      record {
        held = hand_over s opened 0 (moved x Enters) (Enclave s) (omega arith) (omega arith) n.0 n.1 (not-true (is_free x) y.1.1.1.0)
            (ap ranged (moved_enter x y.1.1.1.1.0 (at_rest (roll_of m) s g.sound y.1.1.0)) ∙ restaged_range Running (λ _. refl) x)
            (rw (eq-eqb s s refl)) refl
            (λ i ne. ap (λ w. runs_in w (only i)) (os_party m.party y.1.1.0) ∙ sym (ne_eqb s i (λ z. ne (sym z))));
        ranked = refl;
        len = length-set m.slots s (moved x Enters) ∙ g.len;
      }
  act_fit Pause y = halts_fit Pauses Stopped pauses m.party refl
  act_fit (Finish w) y = halts_fit Finishes Finished finishes m.party refl
  act_fit (Destroy s) y = record { held = destroy_held s _ y; ranked = g.ranked; len = length-set m.slots s _ ∙ g.len }
  act_fit (Access kind a n v) y = record {
    held = record { len = g.held.len; monitor = g.held.monitor; shared = g.held.shared; slot = g.held.slot; last = g.held.last };
    ranked = g.ranked;
    len = g.len;
  }
  act_fit (Register n w) y = self

-- A call, of a machine that is good wherever its memory starts one.

abbrev pub Sturdy : Content → Type 0
Sturdy m = starts (length m.bytes) ≡ true → Good m

module _ (m : Content) (h : Sturdy m) (c : Call) where
  -- where the call is accepted, the machine is good
  accepted : judges (roll_of m) c ≡ Accepted → Good m × AllYes (questions (roll_of m) c)
  accepted q = (h (accepted_starts (roll_of m) c q), all_yes (questions (roll_of m) c) q)

  answer_is : answer m c ≡ plain_answer (roll_of m) m.bytes c
  unfolding answer plain_answer
  answer_is =
      ruled_pair (λ (a b : Result ℕ Denial). a ≡ b) (judges (roll_of m) c) (reply m c) (accepted_answer (roll_of m) m.bytes c)
      (λ e. Err (Refused e)) (λ e. Err (Refused e)) (λ q. let y = accepted q in reply_is m y.0 c y.1) (λ _ _. refl)

  bytes_is : (after m c).bytes ≡ plain_after (roll_of m) m.bytes c
  unfolding after plain_after
  bytes_is =
      ruled_pair (λ (n : Content) (l : List ℕ). n.bytes ≡ l) (judges (roll_of m) c) (act m c) (accepted_bytes (roll_of m) m.bytes c)
      (λ _. m) (λ _. m.bytes) (λ q. let y = accepted q in act_bytes m y.0 c y.1) (λ _ _. refl)

  roll_is : roll_of (after m c) ≡ next (roll_of m) c
  unfolding after next
  roll_is =
      ruled_pair (λ (n : Content) (r : Roll). roll_of n ≡ r) (judges (roll_of m) c) (act m c) (accept (roll_of m) c)
      (λ _. m) (λ _. roll_of m) (λ q. let y = accepted q in act_roll m y.0 c y.1) (λ _ _. refl)

  after_fit : (g : Good m) → Fit m g (after m c)
  unfolding after
  after_fit g =
      ruled_cases (Fit m g) (judges (roll_of m) c) (act m c) (λ _. m) (λ q. act_fit m g c (all_yes (questions (roll_of m) c) q)) (λ _ _. self m g)

  pub after_good : Sturdy (after m c)
  after_good t =
      let z : length (after m c).bytes ≡ length m.bytes = ap (λ (r : Roll). r.size) roll_is ∙ next_size (roll_of m) c in
      let g : Good m = h (rw (sym z) t) in
      let f = after_fit g in
      let s = g.small in
      record {
        held = f.held;
        ranked = f.ranked;
        len = f.len;
        sound = subst Sound (sym roll_is) (next_sound (roll_of m) c g.sound);
        small = omega arith;
      }

-- A new machine.

new_slots : (i : ℕ) → slot_of (replicate count Free) i ≡ Free
new_slots i = elim (cases_lt i 16) [ inl l ↦ get_or-replicate 16 i Free Free l | inr l ↦ get_or-eq_default (replicate 16 Free) Free {n = i} l ]

new_roll : (bs : List ℕ) → roll_of (new_content bs) ≡ start (length bs)
new_roll bs = roll_path _ _ _ _ Os refl (fun_ext new_slots)

pub new_good : (bs : List ℕ) → Sturdy (new_content bs)
new_good bs t = record {
  held = subst (Held (new_content bs).bank) (sym (new_roll bs)) (rw t (new_held (length bs)));
  ranked = refl;
  len = refl;
  sound = subst Sound (sym (new_roll bs)) (start_sound (length bs));
  small = starts_small (length bs) t;
}
  where
    starts_small : (n : ℕ) → starts n ≡ true → n ≤ 2 ^ 34
    starts_small n h = grind (arith, nat_tests)

-- The theorem.

follows : Follows banked
follows = record {
  Near = λ m n. (n ≡ at (roll_of m) m.bytes) × Sturdy m;
  begin = λ bs. (ap (λ r. at r bs) (sym (new_roll bs)), new_good bs);
  answers = λ m n c h. rw h.0 (answer_is m h.1 c);
  goes_on = λ m n c h. (rw h.0 (ap₂ at (sym (roll_is m h.1 c)) (sym (bytes_is m h.1 c))), after_good m h.1 c);
  bytes = λ m n h. rw h.0;
}

pub closed_off : ClosedOff banked
closed_off = transfer banked follows

pub closed_off_sets : (E : ℕ → Bool) → Unseen banked E
closed_off_sets = transfer_unseen banked follows

-- Destroy leaves nothing of the range.

pub ran_good : (m : Content) (cs : List Call) → Sturdy m → Sturdy (ran banked m cs)
ran_good m [] h = h
ran_good m (c ∷ cs) h = ran_good (after m c) cs (after_good m h c)

plain_destroy : (r : Roll) (bs : List ℕ) (s f t : ℕ) → judges r (Destroy s) ≡ Accepted → ranged (r.slot s) ≡ Some (f, t)
    → plain_after r bs (Destroy s) ≡ sets bs f (replicate (t - f) 0)
unfolding plain_after
plain_destroy r bs s f t q e = ap (λ x. ruled x (wipe (ranged (r.slot s)) bs) (λ _. bs)) q ∙ ap (λ o. wipe o bs) e

-- after any calls, an accepted destroy leaves zeros in the whole range of its slot, and every other byte as it was
pub destroy_clears : (bs : List ℕ) (cs : List Call) (s f t : ℕ)
    → let m = ran banked (new_content bs) cs in
    judges (roll_of m) (Destroy s) ≡ Accepted → ranged (slot_of m.slots s) ≡ Some (f, t)
    → (after m (Destroy s)).bytes ≡ sets m.bytes f (replicate (t - f) 0)
destroy_clears bs cs s f t q e =
    let m : Content = ran banked (new_content bs) cs in
    bytes_is m (ran_good (new_content bs) cs (new_good bs)) (Destroy s) ∙ plain_destroy (roll_of m) m.bytes s f t q e
