-- an access that the bank refuses is refused by the questions put to it
use Rattle.std.proofs.Common.{◌≡◌, ℕ, zero, suc, ◌+◌, ◌<◌, true, false, List, [], ◌∷◌, Some, None, Ok, Err, Option, Result, arith, refl, ap, ◌∙◌}
use Rattle.std.proofs.lemmas.Bool.Decides.{nat_tests}
use Rattle.std.specs.Prelude.{nat_le, ◌==◌}
use Rattle.bank.specs.Privilege.{privilege_number}
use Rattle.bank.specs.Ranges.{end}
use Rattle.bank.specs.Verdicts.{deciding, is_size, judged, kind_asked, kind_of, span_asked, verdict_of}
use Rattle.bank.specs.declared.entry.Entry.{Entry}
use Rattle.bank.specs.declared.privilege.Privilege.{Privilege}
use Rattle.bank.specs.declared.privilege.Privilege.TheVariants.{User, Supervisor, Machine}
use Rattle.bank.specs.declared.verdict.Kind.{Kind}
use Rattle.bank.specs.declared.verdict.Kind.TheVariants.{Fetch, Load, Store}
use Rattle.bank.specs.declared.verdict.Verdict.{Verdict}
use Rattle.monitor.specs.Layout.{starts}
use Rattle.monitor.specs.Roll.{Roll, judges}
use Rattle.monitor.specs.declared.call.Call.TheVariants.{Access}
use Rattle.refusals.specs.Questions.{ruled, ruling}
use Rattle.refusals.specs.declared.Refusal.{Refusal}
use Rattle.refusals.specs.declared.Refusal.TheVariants.{Kind as KindRefused, Size, Span}

-- past the question of the privilege
abbrev spanned : List Entry → ℕ → Result Kind Refusal → Result (ℕ × ℕ) Refusal → Result Verdict Refusal
spanned l p ks s =
    elim ks [ Ok k ↦ elim s [ Ok x ↦ Ok (judged l p k x (deciding l x)) | Err e ↦ Err e ] | Err e ↦ Err e ]

past_privilege : (l : List Entry) (p : Privilege) (kind a n : ℕ) → verdict_of l (privilege_number p) kind a n ≡ spanned l (privilege_number p) (kind_asked kind) (span_asked a n)
past_privilege l User kind a n = refl
past_privilege l Supervisor kind a n = refl
past_privilege l Machine kind a n = refl

past_kind : (l : List Entry) (p : ℕ) (k : Kind) (a n : ℕ) (e : Refusal) (asked : Result (Unit {0}) Refusal) → ◌≡◌ {A = Result Verdict Refusal} (Err e) (spanned l p (Ok k) (ruled asked (Ok (a, a + n)) Err))
    → asked ≡ Err e
past_kind l p k a n e (Ok u) h = cc
past_kind l p k a n e (Err d) h = cc

is_past : (k : ℕ) → 2 < k → nat_le k 2 ≡ false
is_past k h = grind (arith, nat_tests)

no_kind : (k : ℕ) → 2 < k → kind_asked k ≡ Err KindRefused
no_kind k h =
    let a : (k == 0) ≡ false = grind (arith, nat_tests) in
    let b : (k == 1) ≡ false = grind (arith, nat_tests) in
    let c : (k == 2) ≡ false = grind (arith, nat_tests) in
    let none : kind_of k ≡ None = simp (a, b, c) in
    ap (λ (o : Option Kind). elim o as (λ _. Result Kind Refusal) [ Some k ↦ Ok k | None ↦ Err KindRefused ]) none

module _ (r : Roll) (ok : starts r.size ≡ true) (l : List Entry) (p : Privilege) where
  pub access_refused : (kind a n v : ℕ) (e : Refusal) → ◌≡◌ {A = Result Verdict Refusal} (Err e) (verdict_of l (privilege_number p) kind a n) → judges r (Access kind a n v) ≡ Err e
  access_refused zero a n v e h = rw ok (past_kind l (privilege_number p) Fetch a n e (ruling ((is_size n, Size) ∷ (nat_le (a + n) end, Span) ∷ [])) (h ∙ past_privilege l p 0 a n))
  access_refused (suc zero) a n v e h = rw ok (past_kind l (privilege_number p) Load a n e (ruling ((is_size n, Size) ∷ (nat_le (a + n) end, Span) ∷ [])) (h ∙ past_privilege l p 1 a n))
  access_refused (suc (suc zero)) a n v e h = rw ok (past_kind l (privilege_number p) Store a n e (ruling ((is_size n, Size) ∷ (nat_le (a + n) end, Span) ∷ [])) (h ∙ past_privilege l p 2 a n))
  access_refused (suc (suc (suc kind))) a n v e h =
      let k : ℕ = suc (suc (suc kind)) in
      let f : nat_le k 2 ≡ false = is_past k (omega arith) in
      let g = h ∙ past_privilege l p k a n ∙ ap (λ ks. spanned l (privilege_number p) ks (span_asked a n)) (no_kind k (omega arith)) in
      rw (ok, f) (cc)
