-- a record and its item determine one another
use Rattle.std.proofs.Common.{◌≡◌, ℕ, ◌+◌, ◌-◌, ◌*◌, ◌/◌, ◌%◌, ◌^◌, ◌<◌, ◌≤◌, Bool, true, ◌&&◌, eqb, leb, List, [], ◌∷◌, length, Ok, Err, Result, sym, refl, ap, ◌∙◌, subst, ⊎_elim, mod-eq_of_lt, zero-add, arith}
use Rattle.refusals.specs.Questions.{ruled, ruling}
use Rattle.refusals.specs.declared.Refusal.{Refusal}
use Rattle.refusals.specs.declared.Refusal.TheVariants.{Operation, Fields}
use Rattle.std.proofs.lemmas.Int.Digits.{number_lt}
use Rattle.std.proofs.lemmas.Bool.{and_parts, cases_eq, eqb-true, leb-true}
use Rattle.std.proofs.lemmas.Bool.Decides.{nat_tests}
use Rattle.std.specs.Int.Digits.{number_from_digits, AllBelowBase}
use Rattle.tape.proofs.Packing.{number_bytes_of, bytes_of_number}
use Rattle.tape.specs.Item.{Fitting, is_operation, item, item_questions, largest_of, within}
use Rattle.tape.specs.Record.{bytes_of, decoded, encoded, packed, record_questions, split}
use Rattle.tape.specs.declared.item.Item.{Item}
use Rattle.tape.specs.declared.record.Unpacked.{Unpacked}

-- what holds at each of the nine operations

pub at : (P : ℕ → Type 0) (k n : ℕ) → P k → ((n ≡ k → ⊥) → P n) → P n
at P k n p q = ⊎_elim (λ e. subst P (sym e) p) q (cases_eq n k)

pub by_operation : (P : ℕ → Type 0) → P 1 → P 2 → P 3 → P 4 → P 5 → P 6 → P 7 → P 8 → P 9 → (n : ℕ) → is_operation n ≡ true → P n
by_operation P p1 p2 p3 p4 p5 p6 p7 p8 p9 n h =
    let both = and_parts (leb 1 n) (leb n 9) h in
    let low = leb-true 1 n both.0 in
    let high = leb-true n 9 both.1 in
    at P 1 n p1 (λ n1. at P 2 n p2 (λ n2. at P 3 n p3 (λ n3. at P 4 n p4 (λ n4. at P 5 n p5 (λ n5. at P 6 n p6 (λ n6. at P 7 n p7 (λ n7. at P 8 n p8 (λ n8.
    let nine : n ≡ 9 = omega arith in subst P (sym nine) p9))))))))

-- questions that are all answered yes

two : (a b : Bool) → ruling ((a, Operation) ∷ (b, Fields) ∷ []) ≡ Ok tt → (a ≡ true) × (b ≡ true)
two a b h = grind arith

three : (a b c : Bool) → ruling ((a, Operation) ∷ (b, Fields) ∷ (c, Fields) ∷ []) ≡ Ok tt → (a ≡ true) × (b ≡ true) × (c ≡ true)
three a b c h = grind arith

pub accepted : {X : Type 0} (q : Result (Unit {0}) Refusal) (x y : X) → ruled q (Ok x) Err ≡ Ok y → (q ≡ Ok tt) × (x ≡ y)
accepted (Ok _) x y h = (refl, (cc))
accepted (Err e) x y h = let z : ◌≡◌ {A = ℕ} 0 1 = cc in absurd (omega arith)

pub item_passed : (i : Item) → ruling (item_questions i) ≡ Ok tt → (is_operation i.operation ≡ true) × (within i (largest_of i.operation) ≡ true)
item_passed i h = two (is_operation i.operation) (within i (largest_of i.operation)) h

record_passed : (u : Unpacked) → ruling (record_questions u) ≡ Ok tt
    → (is_operation u.item.operation ≡ true) × (within u.item (largest_of u.item.operation) ≡ true) × (eqb u.spare 0 ≡ true)
record_passed u h = three (is_operation u.item.operation) (within u.item (largest_of u.item.operation)) (eqb u.spare 0) h

-- fields that are not too large, by numbers
pub record UnderMost (s w a v s' w' a' v' : ℕ) : Type 0 where
  pub slot : s ≤ s'
  pub width : w ≤ w'
  pub address : a ≤ a'
  pub value : v ≤ v'

pub under : (s w a v s' w' a' v' : ℕ) → (leb s s' && leb w w' && leb a a' && leb v v') ≡ true → UnderMost s w a v s' w' a' v'
under s w a v s' w' a' v' h = record { slot = grind (arith, nat_tests); width = grind (arith, nat_tests); address = grind (arith, nat_tests); value = grind (arith, nat_tests) }

-- what is accepted fits its bits
Bits : ℕ → Type 0
Bits n = (s w a v : ℕ) → within (item n s w a v) (largest_of n) ≡ true → (Fitting (item n s w a v)) × (v < 2 ^ 64)

fits : (n s w a v s' w' a' v' : ℕ) → n < 16 → s' < 16 → w' < 4 → a' < 2 ^ 34 → v' < 2 ^ 64 → UnderMost s w a v s' w' a' v'
    → (Fitting (item n s w a v)) × (v < 2 ^ 64)
fits n s w a v s' w' a' v' hn hs hw ha hv u =
    (record { operation_fits = omega arith; slot_fits = omega arith; width_fits = omega arith; address_fits = omega arith }, omega arith)

bits : (n : ℕ) → is_operation n ≡ true → Bits n
unfolding Bits largest_of
bits = by_operation Bits
    (λ s w a v h. fits 1 s w a v 15 0 (2 ^ 34 - 1) (2 ^ 64 - 1) (omega arith) (omega arith) (omega arith) (omega arith) (omega arith) (under s w a v 15 0 (2 ^ 34 - 1) (2 ^ 64 - 1) h))
    (λ s w a v h. fits 2 s w a v 15 0 0 0 (omega arith) (omega arith) (omega arith) (omega arith) (omega arith) (under s w a v 15 0 0 0 h))
    (λ s w a v h. fits 3 s w a v 0 0 0 0 (omega arith) (omega arith) (omega arith) (omega arith) (omega arith) (under s w a v 0 0 0 0 h))
    (λ s w a v h. fits 4 s w a v 0 0 0 (2 ^ 64 - 1) (omega arith) (omega arith) (omega arith) (omega arith) (omega arith) (under s w a v 0 0 0 (2 ^ 64 - 1) h))
    (λ s w a v h. fits 5 s w a v 15 0 0 0 (omega arith) (omega arith) (omega arith) (omega arith) (omega arith) (under s w a v 15 0 0 0 h))
    (λ s w a v h. fits 6 s w a v 0 3 (2 ^ 34 - 1) 0 (omega arith) (omega arith) (omega arith) (omega arith) (omega arith) (under s w a v 0 3 (2 ^ 34 - 1) 0 h))
    (λ s w a v h. fits 7 s w a v 0 3 (2 ^ 34 - 1) (2 ^ 64 - 1) (omega arith) (omega arith) (omega arith) (omega arith) (omega arith) (under s w a v 0 3 (2 ^ 34 - 1) (2 ^ 64 - 1) h))
    (λ s w a v h. fits 8 s w a v 0 3 (2 ^ 34 - 1) 0 (omega arith) (omega arith) (omega arith) (omega arith) (omega arith) (under s w a v 0 3 (2 ^ 34 - 1) 0 h))
    (λ s w a v h. fits 9 s w a v 0 0 (2 ^ 34 - 1) (2 ^ 32 - 1) (omega arith) (omega arith) (omega arith) (omega arith) (omega arith) (under s w a v 0 0 (2 ^ 34 - 1) (2 ^ 32 - 1) h))

pub accepted_fits : (i : Item) → ruling (item_questions i) ≡ Ok tt → (Fitting i) × (i.value < 2 ^ 64)
unfolding Bits
accepted_fits i h =
    let p = item_passed i h in
    bits i.operation p.0 i.slot i.width i.address i.value p.1

-- packing and splitting

split_packed : (i : Item) → Fitting i → i.value < 2 ^ 64 → ◌≡◌ {A = Unpacked} (split (packed i)) (record { spare = 0; item = i })
split_packed i h v =
    let n : ℕ = packed i in
    let a : n / 2 ^ 124 ≡ i.operation = omega arith in
    let b : n / 2 ^ 120 % 16 ≡ i.slot = omega arith in
    let w : n / 2 ^ 118 % 4 ≡ i.width = omega arith in
    let s : n / 2 ^ 98 % 2 ^ 20 ≡ 0 = omega arith in
    let e : n / 2 ^ 64 % 2 ^ 34 ≡ i.address = omega arith in
    let f : n % 2 ^ 64 ≡ i.value = omega arith in
    let same : ◌≡◌ {A = Unpacked} (split n) (record { spare = 0; item = item i.operation i.slot i.width i.address i.value }) = cc in
    same

packed_split : (n : ℕ) → n < 2 ^ 128 → (split n).spare ≡ 0 → packed (split n).item ≡ n
packed_split n h z =
    let a : n / 2 ^ 64 ≡ n / 2 ^ 98 * 2 ^ 34 + n / 2 ^ 64 % 2 ^ 34 = omega arith in
    let b : n / 2 ^ 98 ≡ n / 2 ^ 118 * 2 ^ 20 + n / 2 ^ 98 % 2 ^ 20 = omega arith in
    let w : n / 2 ^ 118 ≡ n / 2 ^ 120 * 4 + n / 2 ^ 118 % 4 = omega arith in
    let s : n / 2 ^ 120 ≡ n / 2 ^ 124 * 16 + n / 2 ^ 120 % 16 = omega arith in
    omega arith

decides : Unpacked → Result Item Refusal
decides u = ruled (ruling (record_questions u)) (Ok u.item) Err

no_spare : (i : Item) → ruling (item_questions i) ≡ Ok tt → decides (record { spare = 0; item = i }) ≡ Ok i
unfolding decides
no_spare i h =
    let p = item_passed i h in
    rw (p.0, p.1)

-- an item that is written as a record is read back
pub decode_encode : (i : Item) (bytes : List ℕ) → encoded i ≡ Ok bytes → decoded bytes ≡ Ok i
unfolding decides
decode_encode i bytes h =
    let told = accepted (ruling (item_questions i)) (bytes_of 16 (packed i)) bytes h in
    let r = accepted_fits i told.0 in
    let f = r.0 in
    let n : ℕ = packed i in
    let small : n < 2 ^ 128 = omega arith in
    let back : number_from_digits 256 (bytes_of 16 n) ≡ n = number_bytes_of 16 0 n ∙ omega (arith, mod-eq_of_lt small) in
    rw (← told.1) (ap (λ m. decides (split m)) back ∙ ap decides (split_packed i r.0 r.1) ∙ no_spare i told.0)

-- a record that is read is the one that its item is written as
pub encode_decode : (bytes : List ℕ) (i : Item) → AllBelowBase 256 bytes → length bytes ≡ 16 → decoded bytes ≡ Ok i → encoded i ≡ Ok bytes
encode_decode bytes i u len h =
    let n : ℕ = number_from_digits 256 bytes in
    let small : n < 2 ^ 128 = rw len at (number_lt 256 bytes u) in
    let told = accepted (ruling (record_questions (split n))) (split n).item i h in
    let p = record_passed (split n) told.0 in
    let none : (split n).spare ≡ 0 = eqb-true (split n).spare 0 p.2 in
    let own : bytes_of 16 n ≡ bytes = ap (bytes_of 16) (sym (zero-add n)) ∙ (rw len at (bytes_of_number 0 bytes u)) in
    let done : encoded (split n).item ≡ Ok bytes = rw (p.0, p.1) (ap Ok (ap (bytes_of 16) (packed_split n small none) ∙ own)) in
    subst (λ x. encoded x ≡ Ok bytes) told.1 done

-- the item of a record is accepted
pub record_item : (bytes : List ℕ) (i : Item) → decoded bytes ≡ Ok i → ruling (item_questions i) ≡ Ok tt
record_item bytes i h =
    let u : Unpacked = split (number_from_digits 256 bytes) in
    let told = accepted (ruling (record_questions u)) u.item i h in
    let p = record_passed u told.0 in
    let done : ruling (item_questions u.item) ≡ Ok tt = rw (p.0, p.1) in
    subst (λ x. ruling (item_questions x) ≡ Ok tt) told.1 done

-- a record has 16 bytes
pub encoded_length : (i : Item) (bytes : List ℕ) → Ok bytes ≡ encoded i → length bytes ≡ 16
encoded_length i bytes h = let told = accepted (ruling (item_questions i)) (bytes_of 16 (packed i)) bytes (sym h) in ap length (sym told.1)
