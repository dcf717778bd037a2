-- a list that is made one part after another in a buffer, or refused
use Rattle.std.proofs.Common.{◌≡◌, ℕ, suc, ◌+◌, ◌-◌, ◌<◌, ◌≤◌, true, List, [], ◌∷◌, ◌++◌, length, get_or, take, drop, is_ok, Ok, Err, Result, sym, refl, ap, ◌∙◌, arith}
use Rattle.refusals.specs.declared.Refusal.{Refusal}
use Rattle.std.proofs.lemmas.List.{at_drop_more, append_assoc, drop-drop, take_at}
use Rattle.std.proofs.lemmas.Slice.{take-put_mid, drop-put_mid}
use Rattle.tape.specs.Refusal.{after, each, measured, placed, prepend, refused_at, verdict}
use Rattle.tape.specs.declared.refusal.TapeRefusal.{TapeRefusal}
use borrow.Rule.Slice.PartMut.{put_mid}

module _ {X : Type 0} where
  prepend_prepend : (xs ys : List X) (r : Result (List X) TapeRefusal) → prepend xs (prepend ys r) ≡ prepend (xs ++ ys) r
  prepend_prepend xs ys (Ok zs) = ap Ok (sym (append_assoc xs ys zs))
  prepend_prepend xs ys (Err e) = refl

  -- what the look at a list says of it
  pub refused : (r : Result (List X) TapeRefusal) (e : TapeRefusal) → Err e ≡ verdict r → r ≡ Err e
  refused (Ok xs) e h = let z : ◌≡◌ {A = ℕ} 0 1 = cc in absurd (omega arith)
  refused (Err d) e h = cc

  -- a refusal further on refuses the whole
  pub refused_whole : (whole here : Result (List X) TapeRefusal) (xs : List X) (e : TapeRefusal)
      → whole ≡ prepend xs here → here ≡ Err e → is_ok whole ≡ true → ⊥
  refused_whole whole here xs e p q t = let z : whole ≡ Err e = p ∙ ap (prepend xs) q in grind arith

  -- a list that is not refused, by its first part and the rest
  pub parts : {Y : Type 0} (f : Y → List X) (d : Result Y Refusal) (i : ℕ) (r : Result (List X) TapeRefusal) (all : List X) → after f d i r ≡ Ok all
      → (y : Y) × (rest : List X) × (d ≡ Ok y) × (r ≡ Ok rest) × (all ≡ f y ++ rest)
  parts f (Ok y) i (Ok rest) all h = (y, rest, refl, refl, (cc))
  parts f (Ok y) i (Err e) all h = let z : ◌≡◌ {A = ℕ} 0 1 = cc in absurd (omega arith)
  parts f (Err e) i r all h = let z : ◌≡◌ {A = ℕ} 0 1 = cc in absurd (omega arith)

  -- what was read stands at the front of the places
  pub got_front : (r : Result (List X) TapeRefusal) (old new : List X) (n : ℕ) → Ok n ≡ measured r → new ≡ placed r old → r ≡ Ok (take n new)
  got_front (Ok xs) old new n c e = let m : length xs ≡ n = cc in ap Ok (sym (ap (take n) e ∙ take_at xs (drop (length xs) old) n m))
  got_front (Err f) old new n c e = let z : ◌≡◌ {A = ℕ} 0 1 = cc in absurd (omega arith)

-- what the members of a list make, one member more
module _ {X Y Z : Type 0} (f : X → Result Y Refusal) (g : Y → List Z) (xs : List X) (i : ℕ) where
  one_more : (d : X) → i < length xs → each f g i (drop i xs) ≡ after g (f (get_or xs i d)) i (each f g (i + 1) (drop (i + 1) xs))
  one_more d h = at_drop_more (each f g i) xs i d h

  pub stops : (d : X) (e : Refusal) → i < length xs → Err e ≡ f (get_or xs i d) → each f g i (drop i xs) ≡ Err (refused_at e i)
  stops d e h told = one_more d h ∙ ap (λ r. after g r i (each f g (i + 1) (drop (i + 1) xs))) (sym told)

  pub goes : (d : X) (y : Y) → i < length xs → Ok y ≡ f (get_or xs i d) → each f g i (drop i xs) ≡ prepend (g y) (each f g (i + 1) (drop (i + 1) xs))
  goes d y h told = one_more d h ∙ ap (λ r. after g r i (each f g (i + 1) (drop (i + 1) xs))) (sym told)

-- as many parts as members, where each makes one
module _ {X Y : Type 0} (f : X → Result Y Refusal) where
  measured_more : (r : Result Y Refusal) (i n : ℕ) (rest : Result (List Y) TapeRefusal)
      → (Ok tt ≡ verdict rest → Ok n ≡ measured rest) → Ok tt ≡ verdict (after (λ y. y ∷ []) r i rest) → Ok (suc n) ≡ measured (after (λ y. y ∷ []) r i rest)
  measured_more (Ok y) i n (Ok ys) ih h = let g = ih refl in let e : n ≡ length ys = cc in ap (λ k. Ok (suc k)) e
  measured_more (Ok y) i n (Err e) ih h = let z : ◌≡◌ {A = ℕ} 0 1 = cc in absurd (omega arith)
  measured_more (Err e) i n rest ih h = let z : ◌≡◌ {A = ℕ} 0 1 = cc in absurd (omega arith)

  pub each_measured : (i : ℕ) (xs : List X) → Ok tt ≡ verdict (each f (λ y. y ∷ []) i xs) → Ok (length xs) ≡ measured (each f (λ y. y ∷ []) i xs)
  each_measured i [] h = refl
  each_measured i (x ∷ xs) h = measured_more (f x) i (length xs) (each f (λ y. y ∷ []) (i + 1) xs) (each_measured (i + 1) xs) h

-- a loop puts one record more at the front of a tape
pub record_more : (whole here rest : Result (List ℕ) TapeRefusal) (tape old bs part new : List ℕ) (k n : ℕ)
    → whole ≡ prepend (take k tape) here → here ≡ prepend bs rest → drop k tape ≡ drop k old
    → n ≡ k + 16 → n ≤ length tape → length bs ≡ 16 → part ≡ bs → new ≡ put_mid k (k + 16 - k) tape part
    → (whole ≡ prepend (take n new) rest) × (drop n new ≡ drop n old)
record_more whole here rest tape old bs part new k n e f same up fits long is put =
    let at : k ≤ length tape = omega arith in
    let size : length part ≡ k + 16 - k = ap length is ∙ omega arith in
    let to : n ≡ k + length part = omega arith in
    let past : k + (k + 16 - k) ≤ n = omega arith in
    let front : take n new ≡ take k tape ++ bs = ap (take n) put ∙ take-put_mid k (k + 16 - k) tape part n to at ∙ ap (λ l. take k tape ++ l) is in
    let back : drop n new ≡ drop n tape = ap (drop n) put ∙ drop-put_mid k (k + 16 - k) tape part n past at size in (
      e ∙ ap (prepend (take k tape)) f ∙ prepend_prepend (take k tape) bs rest ∙ ap (λ l. prepend l rest) (sym front),
      back ∙ ap (λ j. drop j tape) up ∙ sym (drop-drop 16 k tape) ∙ ap (drop 16) same ∙ drop-drop 16 k old ∙ ap (λ j. drop j old) (sym up),
    )
