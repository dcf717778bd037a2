-- a range apart from each of the first slots
use Rattle.std.proofs.Common.{◌≡◌, ℕ, zero, suc, ◌+◌, Bool, ◌&&◌, List, take, ap, sym, ◌∙◌, refl, inl, inr, add-one, arith}
use Rattle.std.proofs.Math.Bool.{and_comm}
use Rattle.std.proofs.lemmas.Bool.{cases_lt}
use Rattle.std.proofs.lemmas.List.{get_or_past, take_all}
use Rattle.std.proofs.lemmas.List.Folds.{list_all_more}
use Rattle.std.specs.List.{list_all}
use Rattle.std.specs.Prelude.{length}
use Rattle.monitor.specs.Content.{slot_of}
use Rattle.monitor.specs.Roll.{apart, apart_below}
use Rattle.monitor.specs.Slots.{ranged}
use Rattle.monitor.specs.declared.slot.Slot.{Slot}
use Rattle.monitor.specs.declared.slot.Slot.TheVariants.{Free}

module _ (l : List Slot) (b t : ℕ) where
  abbrev pub is_apart : Slot → Bool
  is_apart s = apart (ranged s) b t

  -- past the list's end there is no slot to be apart from
  more : (n : ℕ) → list_all is_apart (take (n + 1) l) ≡ (is_apart (slot_of l n) && list_all is_apart (take n l))
  more n =
      elim (cases_lt n (length l)) [
        | inl h ↦ list_all_more is_apart l n Free h ∙ and_comm (list_all is_apart (take n l)) (is_apart (slot_of l n))
        | inr h ↦
            ap (list_all is_apart) (take_all (n + 1) l (omega arith) ∙ sym (take_all n l h))
            ∙ sym (ap (λ s. is_apart s && list_all is_apart (take n l)) (get_or_past l n Free h))
      ]

  pub apart_below-all : (n : ℕ) → apart_below (slot_of l) b t n ≡ list_all is_apart (take n l)
  unfolding apart_below
  apart_below-all zero = refl
  apart_below-all (suc n) =
      ap (λ x. is_apart (slot_of l n) && x) (apart_below-all n) ∙ sym (more n) ∙ ap (λ k. list_all is_apart (take k l)) (add-one n)
