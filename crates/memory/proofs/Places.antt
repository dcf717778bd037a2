-- where each byte of a memory lies
use Rattle.std.proofs.Common.{◌≡◌, ℕ, zero, suc, ◌/◌, ◌%◌, ◌^◌, ◌<◌, ◌≢◌, List, length, get_or, set, Some, refl, ap, ◌∙◌, arith, length-set, rules}
use Rattle.std.proofs.lemmas.List.{get_or-set_other, get_or-set_same, set_past}
use Rattle.std.proofs.lemmas.Option.{gets, slice_get-get_or}
use Rattle.std.specs.List.{slice_get}
use Rattle.memory.specs.Laws.{BytesInPlace, HalvesInTurn, ReadsBack, WordsInPlace}
use Rattle.memory.specs.Words.{four, spread}
use Rattle.memory.proofs.Front.{front_rest, length_front, nth_front}
use Rattle.memory.proofs.InTurn.{even_read, length_joined, odd_read}
use Rattle.memory.proofs.Spread.{length_spread, spread_read}

nth_here : (bs : List ℕ) (p b : ℕ) → p < length bs → slice_get (set bs p b) p ≡ Some b
nth_here bs p b h = grind (gets, rules, get_or-set_same, length-set)

nth_others : (bs : List ℕ) (p q b : ℕ) → q ≢ p → slice_get (set bs p b) q ≡ slice_get bs q
nth_others bs p q b n = grind (gets, rules, get_or-set_other, length-set)

pub reads_back : ReadsBack
reads_back = record { here = nth_here; others = nth_others; past = λ bs p b h. set_past bs p b h; long = λ bs p b. length-set bs p b }

pub bytes_in_place : BytesInPlace
bytes_in_place = record { long = length_front; place = λ xs p h. nth_front xs p (omega (arith, length_front xs)); whole = front_rest }

digit : (w r : ℕ) → r < 4 → get_or (four w) r 0 ≡ w / 256 ^ r % 256
digit w zero h = let e : w / 1 ≡ w = omega arith in rw e
digit w (suc zero) h = refl
digit w (suc (suc zero)) h = refl
digit w (suc (suc (suc zero))) h = refl
digit w (suc (suc (suc (suc r)))) h = absurd (omega arith)

pub words_in_place : WordsInPlace
words_in_place =
    record {
      long = λ ws. omega (arith, length_front (spread ws), length_spread ws);
      place = λ ws p h.
          let cut : p < 2 ^ 34 = omega (arith, length_front (spread ws)) in
          let inside : p / 4 < length ws = omega (arith, length_front (spread ws), length_spread ws) in
          nth_front (spread ws) p cut
          ∙ slice_get-get_or (spread ws) p 0 (omega (arith, length_spread ws))
          ∙ ap Some (spread_read ws p inside ∙ digit (get_or ws (p / 4) 0) (p % 4) (omega arith));
    }

pub halves_in_turn : HalvesInTurn
halves_in_turn = record { long = length_joined; even = even_read; odd = odd_read }

pub ruleset laws = (reads_back, bytes_in_place, words_in_place, halves_in_turn)
