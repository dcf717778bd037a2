-- words of bytes above the space
use Rattle.std.proofs.Common.{◌≡◌, ℕ, zero, suc, ◌/◌, ◌%◌, ◌^◌, ◌+◌, Bool, true, ◌&&◌, eqb, ltb, List, [], ◌∷◌, ◌++◌, sym, refl, ap, ◌∙◌, arith}
use Rattle.std.proofs.lemmas.List.{append-nil}
use Rattle.std.proofs.lemmas.Bool.{and_from, and_parts, cond_both, cond-false, lt-ltb, ltb-true, ne_eqb}
use Rattle.std.specs.Char.{digit_char}
use Rattle.tokens.specs.Cut.{extend}
use Rattle.tokens.specs.Digits.{hex_text}
use Rattle.tokens.specs.Words.{words}

-- every byte is above the space
abbrev pub dark : List ℕ → Bool
dark [] = true
dark (x ∷ xs) = ltb 32 x && dark xs

pub digit_dark : (d : ℕ) → ltb 32 (digit_char d) ≡ true
digit_dark d = cond_both (ltb d 10) (48 + d) (87 + d) (λ x. ltb 32 x ≡ true) (λ _. lt-ltb 32 (48 + d) (omega arith)) (λ _. lt-ltb 32 (87 + d) (omega arith))

pub dark-hex_text : (k n : ℕ) → dark (hex_text k n) ≡ true
dark-hex_text zero n = refl
dark-hex_text (suc k) n = and_from (ltb 32 (digit_char (n / 16 ^ k % 16))) (dark (hex_text k n)) (digit_dark (n / 16 ^ k % 16)) (dark-hex_text k n)

-- a word in front of what begins with a space, or of nothing
pub words_front : (w rest : List ℕ) (ws : List (List ℕ)) → dark w ≡ true → words rest ≡ [] ∷ ws → words (w ++ rest) ≡ w ∷ ws
words_front [] rest ws t h = h
words_front (x ∷ xs) rest ws t h =
    let parts = and_parts (ltb 32 x) (dark xs) t in
    let more = ltb-true 32 x parts.0 in
    cond-false (eqb x 32) ([] ∷ words (xs ++ rest)) (extend x (words (xs ++ rest))) (ne_eqb x 32 (λ e. omega arith))
    ∙ ap (extend x) (words_front xs rest ws parts.1 h)

-- a line of one word
pub words_one : (w : List ℕ) → dark w ≡ true → words w ≡ w ∷ []
words_one w t = ap words (sym (append-nil w)) ∙ words_front w [] [] t refl
