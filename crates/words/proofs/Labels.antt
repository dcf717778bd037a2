-- the fields whose labels are left
use Rattle.std.proofs.Common.{◌≡◌, ℕ, ◌+◌, ◌<◌, Bool, true, cond, List, [], ◌∷◌, ◌++◌, map, length, get_or, take, set, drop, Some, None, Option, sym, refl, ap, ◌∙◌, Bor}
use Rattle.std.proofs.lemmas.List.{append_assoc, drop_more, take_more_set}
use Rattle.std.specs.Option.{option_map}
use Rattle.std.specs.Str.{bytes_eq}
use Rattle.tokens.specs.Options.{and_then}
use Rattle.words.specs.Fields.{fields_of, number_first}
use Rattle.words.specs.Numbers.{number_value}

abbrev pub names : List (Bor (List ℕ)) → List (List ℕ)
names labels = map (λ x. x.now) labels

abbrev pub in_front : List ℕ → Option (List ℕ) → Option (List ℕ)
in_front xs o = option_map (λ ns. xs ++ ns) o

in_front_one : (xs : List ℕ) (n : ℕ) (o : Option (List ℕ)) → in_front xs (option_map (λ ns. n ∷ ns) o) ≡ in_front (xs ++ n ∷ []) o
in_front_one xs n None = refl
in_front_one xs n (Some ns) = ap Some (sym (append_assoc xs (n ∷ []) ns))

-- the fields of the whole line, where these labels and these words are left
module _ (whole : Option (List ℕ)) (xs : List ℕ) (labels : List (Bor (List ℕ))) (i : ℕ) (ws : List (List ℕ)) (left : whole ≡ in_front xs (fields_of (names (drop i labels)) ws)) where
  module _ (d : Bor (List ℕ)) (some : i < length labels) where
    abbrev label : List ℕ
    label = (get_or labels i d).now

    abbrev others : List (List ℕ)
    others = names (drop (i + 1) labels)

    step : whole ≡ in_front xs (fields_of (label ∷ others) ws)
    step = left ∙ ap (λ (ls : List (Bor (List ℕ))). in_front xs (fields_of (names ls) ws)) (drop_more labels i d some)

    pub fields_few : ws ≡ [] → None ≡ whole
    fields_few is = sym (step ∙ ap (λ (us : List (List ℕ)). in_front xs (fields_of (label ∷ others) us)) is)

    module _ (w : List ℕ) (us : List (List ℕ)) (is : ws ≡ w ∷ us) (t : Bool) (named : t ≡ bytes_eq w label) where
      first : whole ≡ in_front xs (and_then (cond t (number_first us) None) (λ p. option_map (λ ns. p.0 ∷ ns) (fields_of others p.1)))
      first =
          step
          ∙ ap (λ (vs : List (List ℕ)). in_front xs (fields_of (label ∷ others) vs)) is
          ∙ ap (λ (v : Bool). in_front xs (and_then (cond v (number_first us) None) (λ p. option_map (λ ns. p.0 ∷ ns) (fields_of others p.1)))) (sym named)

      module _ (yes : t ≡ true) where
        number : whole ≡ in_front xs (and_then (number_first us) (λ p. option_map (λ ns. p.0 ∷ ns) (fields_of others p.1)))
        number = first ∙ ap (λ (v : Bool). in_front xs (and_then (cond v (number_first us) None) (λ p. option_map (λ ns. p.0 ∷ ns) (fields_of others p.1)))) yes

        module _ (v : List ℕ) (vs : List (List ℕ)) (more : us ≡ v ∷ vs) where
          value : (o : Option ℕ) → o ≡ number_value v → whole ≡ in_front xs (and_then {X = ℕ × List (List ℕ)} (option_map (λ n. (n, vs)) o) (λ p. option_map (λ ns. p.0 ∷ ns) (fields_of others p.1)))
          value o one =
              number
              ∙ ap (λ (us : List (List ℕ)). in_front xs (and_then (number_first us) (λ p. option_map (λ ns. p.0 ∷ ns) (fields_of others p.1)))) more
              ∙ ap (λ (o : Option ℕ). in_front xs (and_then {X = ℕ × List (List ℕ)} (option_map (λ n. (n, vs)) o) (λ p. option_map (λ ns. p.0 ∷ ns) (fields_of others p.1)))) (sym one)

          pub fields_more : (places : List ℕ) (n : ℕ) → xs ≡ take i places → i < length places → Some n ≡ number_value v → whole ≡ in_front (take (i + 1) (set places i n)) (fields_of others vs)
          fields_more places n front fits one =
              value (Some n) one
              ∙ in_front_one xs n (fields_of others vs)
              ∙ ap (λ ys. in_front ys (fields_of others vs)) (ap (λ ys. ys ++ n ∷ []) front ∙ sym (take_more_set places i n fits))
