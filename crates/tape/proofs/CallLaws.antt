-- an item that is accepted and its call determine one another
use Rattle.std.proofs.Common.{◌≡◌, ℕ, ◌-◌, ◌^◌, ◌<◌, ◌≤◌, true, Some, None, Ok, Err, sym, refl, ap, ◌∙◌, subst, arith}
use Rattle.monitor.specs.declared.call.Call.{Call}
use Rattle.monitor.specs.declared.call.Call.TheVariants.{Create, Enter, Pause, Finish, Destroy, Access, Register}
use Rattle.refusals.specs.Questions.{ruled, ruling}
use Rattle.refusals.specs.declared.Refusal.TheVariants.{Fields}
use Rattle.std.proofs.lemmas.Bool.Decides.{nat_tests}
use Rattle.tape.proofs.Records.{accepted, accepted_fits, at, by_operation, item_passed, under}
use Rattle.tape.specs.Calls.{call_of, item_of, meaning, numbers, operation_of, width_of}
use Rattle.tape.specs.Item.{is_operation, item, item_questions, largest_of, within}
use Rattle.tape.specs.Laws.{OneCall}
use Rattle.tape.specs.Operation.{access_operation}
use Rattle.tape.specs.Sizes.{width_of as size_width}
use Rattle.tape.specs.declared.operation.Operation.{Operation}
use Rattle.tape.specs.declared.item.Item.{Item}

-- sizes and widths

Width : ℕ → Type 0
Width w = width_of (2 ^ w) ≡ w

width_back : (w : ℕ) → w ≤ 3 → width_of (2 ^ w) ≡ w
unfolding Width
width_back w h =
    at Width 0 w refl (λ n0. at Width 1 w refl (λ n1. at Width 2 w refl (λ n2. let e : w ≡ 3 = omega arith in subst Width (sym e) refl)))

other_size : (n : ℕ) → (n ≡ 1 → ⊥) → (n ≡ 2 → ⊥) → (n ≡ 4 → ⊥) → (n ≡ 8 → ⊥) → width_of n ≡ 4
other_size n a b c d = grind (arith, nat_tests)

Size : ℕ → Type 0
Size n = 2 ^ width_of n ≡ n

size_back : (n : ℕ) → width_of n < 4 → 2 ^ width_of n ≡ n
unfolding Size
size_back n h =
    at Size 1 n refl (λ n1. at Size 2 n refl (λ n2. at Size 4 n refl (λ n4. at Size 8 n refl (λ n8. absurd (omega (arith, other_size n n1 n2 n4 n8))))))

-- the numbers of an item's call are the item
Back : ℕ → Type 0
Back n = (s w a v : ℕ) → within (item n s w a v) (largest_of n) ≡ true → numbers (meaning (item n s w a v)) ≡ item n s w a v

back : (n : ℕ) → is_operation n ≡ true → Back n
unfolding Back largest_of
back = by_operation Back
    (λ s w a v h. let u = under s w a v 15 0 (2 ^ 34 - 1) (2 ^ 64 - 1) h in let ew : 0 ≡ w = omega arith in (cc))
    (λ s w a v h. let u = under s w a v 15 0 0 0 h in let ew : 0 ≡ w = omega arith in let ea : 0 ≡ a = omega arith in let ev : 0 ≡ v = omega arith in (cc))
    (λ s w a v h. let u = under s w a v 0 0 0 0 h in let es : 0 ≡ s = omega arith in let ew : 0 ≡ w = omega arith in let ea : 0 ≡ a = omega arith in let ev : 0 ≡ v = omega arith in (cc))
    (λ s w a v h. let u = under s w a v 0 0 0 (2 ^ 64 - 1) h in let es : 0 ≡ s = omega arith in let ew : 0 ≡ w = omega arith in let ea : 0 ≡ a = omega arith in (cc))
    (λ s w a v h. let u = under s w a v 15 0 0 0 h in let ew : 0 ≡ w = omega arith in let ea : 0 ≡ a = omega arith in let ev : 0 ≡ v = omega arith in (cc))
    (λ s w a v h. let u = under s w a v 0 3 (2 ^ 34 - 1) 0 h in let es : 0 ≡ s = omega arith in let ew = width_back w u.width in (cc))
    (λ s w a v h. let u = under s w a v 0 3 (2 ^ 34 - 1) (2 ^ 64 - 1) h in let es : 0 ≡ s = omega arith in let ew = width_back w u.width in (cc))
    (λ s w a v h. let u = under s w a v 0 3 (2 ^ 34 - 1) 0 h in let es : 0 ≡ s = omega arith in let ew = width_back w u.width in (cc))
    (λ s w a v h. let u = under s w a v 0 0 (2 ^ 34 - 1) (2 ^ 32 - 1) h in let es : 0 ≡ s = omega arith in let ew : 0 ≡ w = omega arith in (cc))

item_back : (i : Item) (c : Call) → call_of i ≡ Ok c → item_of c ≡ Ok i
unfolding Back
item_back i c h =
    let told = accepted (ruling (item_questions i)) (meaning i) c h in
    let p = item_passed i told.0 in
    let e : numbers (meaning i) ≡ i = back i.operation p.0 i.slot i.width i.address i.value p.1 in
    let done : item_of (meaning i) ≡ Ok i = ap (λ x. ruled (ruling (item_questions x)) (Ok x) Err) e ∙ ap (λ q. ruled q (Ok i) Err) told.0 in
    subst (λ x. item_of x ≡ Ok i) told.1 done

-- the call of a call's numbers is the call
no_kind : (kind : ℕ) → (kind ≡ 0 → ⊥) → (kind ≡ 1 → ⊥) → (kind ≡ 2 → ⊥) → operation_of kind ≡ 0
no_kind kind a b c = grind (arith, nat_tests)

Kind : ℕ → Type 0
Kind kind = (a w v : ℕ) → meaning (item (operation_of kind) 0 w a v) ≡ Access kind a (2 ^ w) v

kinds : (kind : ℕ) → is_operation (operation_of kind) ≡ true → Kind kind
unfolding Kind
kinds kind h =
    at Kind 0 kind (λ a w v. refl) (λ n0. at Kind 1 kind (λ a w v. refl) (λ n1. at Kind 2 kind (λ a w v. refl) (λ n2.
    let f : is_operation 0 ≡ true = subst (λ k. is_operation k ≡ true) (no_kind kind n0 n1 n2) h in
    let z : ◌≡◌ {A = ℕ} 0 1 = cc in absurd (omega arith))))

meant : (c : Call) → ruling (item_questions (numbers c)) ≡ Ok tt → meaning (numbers c) ≡ c
unfolding Kind
meant (Create s b k) h = refl
meant (Enter s) h = refl
meant Pause h = refl
meant (Finish w) h = refl
meant (Destroy s) h = refl
meant (Access kind a n v) h =
    let i : Item = item (operation_of kind) 0 (width_of n) a v in
    let p = item_passed i h in
    let f = accepted_fits i h in
    kinds kind p.0 a (width_of n) v ∙ ap (λ k. Access kind a k v) (size_back n f.0.width_fits)
meant (Register n w) h = refl

-- an access of a size that no width stands for
no_such : (n : ℕ) → None ≡ size_width n → width_of n ≡ 4
no_such n h = grind (arith, nat_tests)

Wide : ℕ → Type 0
Wide kind = (a n v : ℕ) → width_of n ≡ 4 → item_of (Access kind a n v) ≡ Err Fields

wide : (kind : ℕ) (o : Operation) → Some o ≡ access_operation kind → Wide kind
unfolding Wide largest_of
wide kind o h =
    at Wide 0 kind (λ a n v w. rw w refl) (λ n0. at Wide 1 kind (λ a n v w. rw w refl) (λ n1. at Wide 2 kind (λ a n v w. rw w refl) (λ n2.
    let none : access_operation kind ≡ None = grind (arith, nat_tests) in
    let z : ◌≡◌ {A = ℕ} 0 1 = cc in absurd (omega arith))))

pub no_width : (kind a n v : ℕ) (o : Operation) → Some o ≡ access_operation kind → None ≡ size_width n → item_of (Access kind a n v) ≡ Err Fields
unfolding Wide
no_width kind a n v o k w = wide kind o k a n v (no_such n w)

call_back : (c : Call) (i : Item) → item_of c ≡ Ok i → call_of i ≡ Ok c
call_back c i h =
    let told = accepted (ruling (item_questions (numbers c))) (numbers c) i h in
    let done : call_of (numbers c) ≡ Ok c = ap (λ q. ruled q (Ok (meaning (numbers c))) Err) told.0 ∙ ap Ok (meant c told.0) in
    subst (λ x. call_of x ≡ Ok c) told.1 done

pub one_call : OneCall
one_call = record { item_back = item_back; call_back = call_back }
