-- one, two or three fields as so many
use Rattle.std.proofs.Common.{◌≡◌, ℕ, List, [], ◌∷◌, Some, None, Option, get_or, refl, ap, ◌∙◌, arith}
use Rattle.std.specs.Option.{option_map}
use Rattle.tokens.specs.Options.{and_then}
use Rattle.words.specs.Fields.{ended, field_of, fields_of, one_of, three_of, two_of}

pub fields_one : (a : List ℕ) (ws : List (List ℕ)) → fields_of (a ∷ []) ws ≡ option_map (λ n. n ∷ []) (one_of a ws)
fields_one a ws = by (field_of a ws)
  where
    by : (o : Option (ℕ × List (List ℕ))) → and_then o (λ p. option_map (λ ns. p.0 ∷ ns) (fields_of [] p.1)) ≡ option_map (λ n. n ∷ []) (and_then o (λ p. ended p.0 p.1))
    by None = refl
    by (Some (n, [])) = refl
    by (Some (n, w ∷ us)) = refl

pub fields_two : (a b : List ℕ) (ws : List (List ℕ)) → fields_of (a ∷ b ∷ []) ws ≡ option_map (λ p. p.0 ∷ p.1 ∷ []) (two_of a b ws)
fields_two a b ws = by (field_of a ws)
  where
    back : (n : ℕ) (o : Option ℕ) → option_map (λ ns. n ∷ ns) (option_map (λ m. m ∷ []) o) ≡ option_map (λ (p : ℕ × ℕ). p.0 ∷ p.1 ∷ []) (option_map (λ m. (n, m)) o)
    back n None = refl
    back n (Some m) = refl

    by : (o : Option (ℕ × List (List ℕ))) → and_then o (λ p. option_map (λ ns. p.0 ∷ ns) (fields_of (b ∷ []) p.1)) ≡ option_map (λ (p : ℕ × ℕ). p.0 ∷ p.1 ∷ []) (and_then o (λ p. option_map (λ m. (p.0, m)) (one_of b p.1)))
    by None = refl
    by (Some p) = ap (option_map (λ ns. p.0 ∷ ns)) (fields_one b p.1) ∙ back p.0 (one_of b p.1)

pub fields_three : (a b c : List ℕ) (ws : List (List ℕ)) → fields_of (a ∷ b ∷ c ∷ []) ws ≡ option_map (λ p. p.0 ∷ p.1 ∷ p.2 ∷ []) (three_of a b c ws)
fields_three a b c ws = by (field_of a ws)
  where
    back : (n : ℕ) (o : Option (ℕ × ℕ)) → option_map (λ ns. n ∷ ns) (option_map (λ (q : ℕ × ℕ). q.0 ∷ q.1 ∷ []) o) ≡ option_map (λ (p : ℕ × ℕ × ℕ). p.0 ∷ p.1 ∷ p.2 ∷ []) (option_map (λ (q : ℕ × ℕ). (n, q.0, q.1)) o)
    back n None = refl
    back n (Some q) = refl

    by : (o : Option (ℕ × List (List ℕ))) → and_then o (λ p. option_map (λ ns. p.0 ∷ ns) (fields_of (b ∷ c ∷ []) p.1)) ≡ option_map (λ (p : ℕ × ℕ × ℕ). p.0 ∷ p.1 ∷ p.2 ∷ []) (and_then o (λ p. option_map (λ (q : ℕ × ℕ). (p.0, q.0, q.1)) (two_of b c p.1)))
    by None = refl
    by (Some p) = ap (option_map (λ ns. p.0 ∷ ns)) (fields_two b c p.1) ∙ back p.0 (two_of b c p.1)

-- their numbers, one by one
pub two_from : (a b : List ℕ) (ws : List (List ℕ)) (ns : List ℕ) → Some ns ≡ fields_of (a ∷ b ∷ []) ws → two_of a b ws ≡ Some (get_or ns 0 0, get_or ns 1 0)
two_from a b ws ns is = by (two_of a b ws) (is ∙ fields_two a b ws)
  where
    by : (o : Option (ℕ × ℕ)) → Some ns ≡ option_map (λ p. p.0 ∷ p.1 ∷ []) o → o ≡ Some (get_or ns 0 0, get_or ns 1 0)
    by None e = let z : ◌≡◌ {A = ℕ} 0 1 = cc in absurd (omega arith)
    by (Some p) e = let same : ns ≡ p.0 ∷ p.1 ∷ [] = cc in rw same refl

pub three_from : (a b c : List ℕ) (ws : List (List ℕ)) (ns : List ℕ) → Some ns ≡ fields_of (a ∷ b ∷ c ∷ []) ws → three_of a b c ws ≡ Some (get_or ns 0 0, get_or ns 1 0, get_or ns 2 0)
three_from a b c ws ns is = by (three_of a b c ws) (is ∙ fields_three a b c ws)
  where
    by : (o : Option (ℕ × ℕ × ℕ)) → Some ns ≡ option_map (λ p. p.0 ∷ p.1 ∷ p.2 ∷ []) o → o ≡ Some (get_or ns 0 0, get_or ns 1 0, get_or ns 2 0)
    by None e = let z : ◌≡◌ {A = ℕ} 0 1 = cc in absurd (omega arith)
    by (Some p) e = let same : ns ≡ p.0 ∷ p.1 ∷ p.2 ∷ [] = cc in rw same refl
