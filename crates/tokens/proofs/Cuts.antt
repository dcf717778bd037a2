-- a text is cut at the first byte of its kind
use Rattle.std.proofs.Common.{◌≡◌, ℕ, suc, ◌+◌, ◌≤◌, Bool, true, false, cond, not, eqb, ltb, List, [], ◌∷◌, length, take, drop, Some, None, sym, refl, ap, ◌∙◌, arith}
use Rattle.std.proofs.lemmas.List.{length-map, take_all}
use Rattle.std.proofs.lemmas.Bool.{cond_both, cond-true, lt-ltb, ltb-false}
use Rattle.std.specs.List.{position, position_or_len}
use Prim.Native.Nat.compare
use Rattle.tokens.specs.Cut.{after, before, extend}
use Rattle.tokens.specs.Lines.{lines, lines_left, script_lines, without_return}
use Rattle.tokens.specs.Words.{words, words_left}

-- what is before the first such byte, and after it, by its place
module _ (b : ℕ) where
  abbrev place : List ℕ → ℕ
  place xs = position_or_len (λ x. eqb x b) xs

  before_place : (xs : List ℕ) → before b xs ≡ take (place xs) xs
  before_place [] = refl
  before_place (x ∷ xs) =
      elim (eqb x b) as (λ (v : Bool). cond v [] (x ∷ before b xs) ≡ take (cond (not v) (1 + place xs) 0) (x ∷ xs)) [
        | true ↦ refl
        | false ↦ let e : 1 + place xs ≡ suc (place xs) = omega arith in rw e (ap (λ l. x ∷ l) (before_place xs))
      ]

  after_place : (xs : List ℕ) → after b xs ≡ cond (ltb (place xs) (length xs)) (Some (drop (place xs + 1) xs)) None
  after_place [] = refl
  after_place (x ∷ xs) =
      elim (eqb x b) as (λ (v : Bool). cond v (Some xs) (after b xs) ≡ cond (ltb (cond (not v) (1 + place xs) 0) (length (x ∷ xs))) (Some (drop (cond (not v) (1 + place xs) 0 + 1) (x ∷ xs))) None) [
        | true ↦ sym (cond-true (ltb 0 (suc (length xs))) (Some xs) None (lt-ltb 0 (suc (length xs)) (omega arith)))
        | false ↦ let e : 1 + place xs ≡ suc (place xs) = omega arith in let f : suc (place xs) + 1 ≡ suc (place xs + 1) = omega arith in rw (e, f, compare.suc-suc) (after_place xs)
      ]

  -- where there is one, and where there is none
  some_by : (t : Bool) (xs : List ℕ) (i : ℕ) → Some i ≡ cond t (Some (place xs)) None → ltb (place xs) (length xs) ≡ t → (take i xs ≡ before b xs) × (Some (drop (i + 1) xs) ≡ after b xs)
  some_by true xs i e is =
      let same : i ≡ place xs = cc in
      rw same (sym (before_place xs), sym (after_place xs ∙ ap (λ (t : Bool). cond t (Some (drop (place xs + 1) xs)) None) is))
  some_by false xs i e is = let z : ◌≡◌ {A = ℕ} 0 1 = cc in absurd (omega arith)

  none_by : (t : Bool) (xs : List ℕ) → None ≡ cond t (Some (place xs)) None → ltb (place xs) (length xs) ≡ t → (xs ≡ before b xs) × (None ≡ after b xs)
  none_by true xs e is = let z : ◌≡◌ {A = ℕ} 0 1 = cc in absurd (omega arith)
  none_by false xs e is = (
    sym (before_place xs ∙ take_all (place xs) xs (ltb-false (place xs) (length xs) is)),
    sym (after_place xs ∙ ap (λ (t : Bool). cond t (Some (drop (place xs + 1) xs)) None) is),
  )

  pub cut_some : (xs : List ℕ) (i : ℕ) → Some i ≡ position (λ x. eqb x b) xs → (take i xs ≡ before b xs) × (Some (drop (i + 1) xs) ≡ after b xs)
  cut_some xs i e = some_by (ltb (place xs) (length xs)) xs i e refl

  pub cut_none : (xs : List ℕ) → None ≡ position (λ x. eqb x b) xs → (xs ≡ before b xs) × (None ≡ after b xs)
  cut_none xs e = none_by (ltb (place xs) (length xs)) xs e refl

-- the first word, and the words after it
pub words_cut : (xs : List ℕ) → words xs ≡ before 32 xs ∷ words_left (after 32 xs)
words_cut [] = refl
words_cut (x ∷ xs) =
    elim (eqb x 32) as (λ (v : Bool). cond v ([] ∷ words xs) (extend x (words xs)) ≡ cond v [] (x ∷ before 32 xs) ∷ words_left (cond v (Some xs) (after 32 xs))) [
      | true ↦ refl
      | false ↦ ap (extend x) (words_cut xs)
    ]

-- the first line of a text that is not empty, and the lines after it
lines_by : (x : ℕ) (xs : List ℕ) → extend x (lines xs) ≡ (x ∷ before 10 xs) ∷ lines_left (after 10 xs) → lines (x ∷ xs) ≡ before 10 (x ∷ xs) ∷ lines_left (after 10 (x ∷ xs))
lines_by x xs more =
    elim (eqb x 10) as (λ (v : Bool). cond v ([] ∷ lines xs) (extend x (lines xs)) ≡ cond v [] (x ∷ before 10 xs) ∷ lines_left (cond v (Some xs) (after 10 xs))) [
      | true ↦ refl
      | false ↦ more
    ]

pub lines_cut : (x : ℕ) (xs : List ℕ) → lines (x ∷ xs) ≡ before 10 (x ∷ xs) ∷ lines_left (after 10 (x ∷ xs))
lines_cut x [] = lines_by x [] refl
lines_cut x (y ∷ ys) = lines_by x (y ∷ ys) (ap (extend x) (lines_cut y ys))

-- no more lines than bytes
few_lines : (xs : List ℕ) → length (lines xs) ≤ length xs
few_lines [] = omega arith
few_lines (x ∷ xs) =
    cond_both (eqb x 10) ([] ∷ lines xs) (extend x (lines xs)) (λ ls. length ls ≤ length (x ∷ xs)) (λ _. omega (arith, few_lines xs)) (λ _. omega (arith, extend_few (lines xs), few_lines xs))
  where
    extend_few : (ls : List (List ℕ)) → length (extend x ls) ≤ length ls + 1
    extend_few [] = omega arith
    extend_few (l ∷ ls) = omega arith

pub lines_few : (xs : List ℕ) → length (script_lines xs) ≤ length xs
lines_few xs = omega (arith, length-map (lines xs) without_return, few_lines xs)
