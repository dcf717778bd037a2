-- an entry's byte by way of its register
use Rattle.std.proofs.Common.{◌≡◌, ℕ, ◌+◌, ◌/◌, ◌%◌, ◌<◌, true, List, set, Ok, Result, ap, ◌∙◌, arith}
use Rattle.std.proofs.lemmas.Bool.Decides.{nat_tests}
use Rattle.bank.specs.Registers.{holds, is_register, read_answer, written}
use Rattle.bank.specs.declared.entry.Entry.{Entry}
use Rattle.monitor.specs.Content.{configure, four, word}
use Rattle.refusals.specs.declared.Refusal.{Refusal}

module _ (l : List Entry) (p s b : ℕ) (three : p ≡ 3) (small : s < 16) where
  read_is : (w : ℕ) → ◌≡◌ {A = Result ℕ Refusal} (Ok w) (read_answer l p (0x3A0 + s / 4)) → w ≡ holds l (0x3A0 + s / 4)
  read_is w h =
      let r : is_register (0x3A0 + s / 4) ≡ true = grind (arith, nat_tests) in
      let g = simp (three, r) at h in
      cc

  pub configured :
      (w r : ℕ) (bytes : List ℕ) (after : List Entry)
      → ◌≡◌ {A = Result ℕ Refusal} (Ok w) (read_answer l p (0x3A0 + s / 4)) → bytes ≡ four w → r ≡ word (set bytes (s % 4) b)
      → after ≡ written l 3 (0x3A0 + s / 4) r → after ≡ configure l s b
  unfolding configure
  configured w r bytes after h d m e =
      e ∙ ap (λ x. written l 3 (0x3A0 + s / 4) x) (m ∙ ap (λ x. word (set x (s % 4) b)) (d ∙ ap four (read_is w h)))
