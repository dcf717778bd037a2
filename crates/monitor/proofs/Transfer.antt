-- a machine that answers and keeps its bytes as the plain machine does is closed off too
use Rattle.std.proofs.Common.{◌≡◌, ℕ, Bool, List, [], ◌∷◌, refl, ap, ◌∙◌}
use Rattle.monitor.specs.Roll.{only}
use Rattle.monitor.specs.Theorem.{ClosedOff, System, Unseen, log, ran}
use Rattle.monitor.specs.declared.call.Call.{Call}
use Rattle.monitor.specs.declared.call.Call.TheVariants.{Create, Access}
use Rattle.monitor.proofs.Plain.{Simple, plain}
use Rattle.monitor.proofs.Runs.{plain_closed_off, plain_unseen}

pub record Follows (S : System) : Type 1 where
  pub Near : S.Machine → Simple → Type 0
  pub begin : (bs : List ℕ) → Near (S.make bs) (plain.make bs)
  pub answers : (m : S.Machine) (n : Simple) (c : Call) → Near m n → S.answer m c ≡ plain.answer n c
  pub goes_on : (m : S.Machine) (n : Simple) (c : Call) → Near m n → Near (S.after m c) (plain.after n c)
  pub bytes : (m : S.Machine) (n : Simple) → Near m n → S.bytes m ≡ n.bytes

module _ (S : System) (F : Follows S) where
  logs : (m : S.Machine) (n : Simple) (cs : List Call) → F.Near m n → log S m cs ≡ log plain n cs
  logs m n [] h = refl
  logs m n (c ∷ cs) h =
      let a : S.answer m c ≡ plain.answer n c = F.answers m n c h in
      let l : log S (S.after m c) cs ≡ log plain (plain.after n c) cs = logs (S.after m c) (plain.after n c) cs (F.goes_on m n c h) in
      ap (λ x. (c, x) ∷ log S (S.after m c) cs) a ∙ ap (λ k. (c, plain.answer n c) ∷ k) l

  ends : (m : S.Machine) (n : Simple) (cs : List Call) → F.Near m n → F.Near (ran S m cs) (ran plain n cs)
  ends m n [] h = h
  ends m n (c ∷ cs) h = ends (S.after m c) (plain.after n c) cs (F.goes_on m n c h)

  module _ (bs : List ℕ) (cs : List Call) where
    near : F.Near (ran S (S.make bs) cs) (ran plain (plain.make bs) cs)
    near = ends (S.make bs) (plain.make bs) cs (F.begin bs)

    log_same : log S (S.make bs) cs ≡ log plain (plain.make bs) cs
    log_same = logs (S.make bs) (plain.make bs) cs (F.begin bs)

    same_bytes : S.bytes (ran S (S.make bs) cs) ≡ (ran plain (plain.make bs) cs).bytes
    same_bytes = F.bytes _ _ near

  pub transfer_unseen : (E : ℕ → Bool) → Unseen S E
  transfer_unseen E bs xs ys = rw (log_same bs xs, log_same bs ys, same_bytes bs xs, same_bytes bs ys) (plain_unseen E bs xs ys)

  pub transfer : ClosedOff S
  transfer = record {
    bytes_of_new = λ bs. F.bytes _ _ (F.begin bs);
    length_kept = λ bs cs. rw (same_bytes bs cs) (plain_closed_off.length_kept bs cs);
    judged_as_rolled = λ bs cs c. rw (F.answers _ _ c (near bs cs)) (plain_closed_off.judged_as_rolled bs cs c);
    unseen_elsewhere = λ e. transfer_unseen (only e);
    sees_nothing = λ e base k bs₁ bs₂ xs₁ xs₂ ys₁ ys₂.
        let c = Create e base k in
        let n₁ = F.goes_on _ _ c (near bs₁ xs₁) in
        let n₂ = F.goes_on _ _ c (near bs₂ xs₂) in
        rw (same_bytes bs₁ xs₁, same_bytes bs₂ xs₂, logs _ _ ys₁ n₁, logs _ _ ys₂ n₂, F.bytes _ _ (ends _ _ ys₁ n₁), F.bytes _ _ (ends _ _ ys₂ n₂))
        (plain_closed_off.sees_nothing e base k bs₁ bs₂ xs₁ xs₂ ys₁ ys₂);
    carried_out = λ bs cs kind a n v.
        let c = Access kind a n v in
        rw (F.answers _ _ c (near bs cs), F.bytes _ _ (F.goes_on _ _ c (near bs cs)), same_bytes bs cs)
        (plain_closed_off.carried_out bs cs kind a n v);
  }
