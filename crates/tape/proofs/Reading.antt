-- a tape that is read, by its records
use Rattle.std.proofs.Common.{◌≡◌, ℕ, zero, suc, ◌+◌, ◌/◌, ◌%◌, ◌≤◌, List, [], ◌∷◌, length, take, drop, sym, refl, ap}
use Rattle.std.proofs.lemmas.Bool.{eq-eqb, le-leb}
use Rattle.std.specs.Simd.{first_chunks}
use Rattle.tape.specs.Reader.{decoding, read_tape, reading}
use Rattle.tape.specs.Record.{decoded}
use Rattle.tape.specs.Refusal.{after}

decoding_chunks : (n i : ℕ) (bytes : List ℕ) → decoding i (first_chunks 16 n bytes) ≡ reading n i bytes
decoding_chunks zero i bytes = refl
decoding_chunks (suc n) i bytes = ap (after (λ x. x ∷ []) (decoded (take 16 bytes)) i) (decoding_chunks n (i + 1) (drop 16 bytes))

-- a tape of whole records that there are places for
pub read_records : (bytes : List ℕ) (places : ℕ) (records : List (List ℕ)) → records ≡ first_chunks 16 (length bytes / 16) bytes
    → length bytes % 16 ≡ 0 → length bytes / 16 ≤ places → read_tape bytes places ≡ decoding 0 records
read_records bytes places records are whole h =
    rw (eq-eqb (length bytes % 16) 0 whole, le-leb (length bytes / 16) places h, are) (sym (decoding_chunks (length bytes / 16) 0 bytes))
