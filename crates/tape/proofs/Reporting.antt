-- what a report is of any tape
use Rattle.std.proofs.Common.{◌≡◌, ℕ, zero, suc, ◌+◌, ◌/◌, ◌<◌, ltb, List, [], ◌∷◌, ◌++◌, length, take, drop, Ok, Err, codes, decimal, Result, inl, sym, refl, ap, ◌∙◌, lit<, lit≤}
use Rattle.monitor.specs.Content.{Content, after as content_after, banked}
use Rattle.monitor.specs.Theorem.{log}
use Rattle.monitor.specs.declared.call.Call.{Call}
use Rattle.refusals.specs.Questions.{ruled}
use Rattle.std.proofs.lemmas.Fmt.{decimal_digit, decimal_step}
use Rattle.std.proofs.lemmas.Bool.{lt-ltb}
use Rattle.tape.proofs.Parts.{parts}
use Rattle.tape.proofs.Records.{record_item}
use Rattle.tape.proofs.Trips.{held_short, read_held}
use Rattle.tape.specs.Calls.{call_of, calls_of, meaning, one_call}
use Rattle.tape.specs.Laws.{ReportLaws, SameText}
use Rattle.tape.specs.Reader.{read_tape, reading}
use Rattle.tape.specs.Record.{decoded}
use Rattle.tape.specs.Reports.{Left, report_after, report_text, short_tape}
use Rattle.tape.specs.declared.item.Item.{Item}

log_length : (m : Content) (cs : List Call) → length (log banked m cs) ≡ length cs
log_length m [] = refl
log_length m (c ∷ cs) = ap suc (log_length (content_after m c) cs)

-- each item that is read is a call
calls_length : (n i : ℕ) (bytes : List ℕ) (items : List Item) → reading n i bytes ≡ Ok items → length (calls_of items) ≡ n
calls_length zero i bytes items h = let none : [] ≡ items = cc in ap (λ l. length (calls_of l)) (sym none)
calls_length (suc n) i bytes items h =
    let p = parts (λ x. x ∷ []) (decoded (take 16 bytes)) i (reading n (i + 1) (drop 16 bytes)) items h in
    let c : call_of p.0 ≡ Ok (meaning p.0) = ap (λ q. ruled q (Ok (meaning p.0)) Err) (record_item (take 16 bytes) p.0 p.2) in
    ap (λ l. length (calls_of l)) p.4
    ∙ ap (λ r. length (one_call r ++ calls_of p.1)) c
    ∙ ap suc (calls_length n (i + 1) (drop 16 bytes) p.1 p.3)

each : (m : Content) (tape : List ℕ) (items : List Item) → short_tape tape ≡ Ok items → length (log banked m (calls_of items)) ≡ length tape / 16
each m tape items h =
    let r = read_held tape 4096 items (held_short (ltb 65536 (length tape)) (read_tape tape 4096) _ items h) in
    log_length m (calls_of items) ∙ calls_length (length tape / 16) 0 tape items r.1

forty_one : decimal 41 ≡ 52 ∷ 49 ∷ []
forty_one = decimal_step 41 (lit≤ tt) (lit< tt) ∙ ap (λ l. l ++ (49 ∷ [])) (decimal_digit 4 (lit< tt))

most : decimal 4096 ≡ 52 ∷ 48 ∷ 57 ∷ 54 ∷ []
most =
    decimal_step 4096 (lit≤ tt) (lit< tt)
    ∙ ap (λ l. l ++ (54 ∷ []))
    (decimal_step 409 (lit≤ tt) (lit< tt)
    ∙ ap (λ l. l ++ (57 ∷ [])) (decimal_step 40 (lit≤ tt) (lit< tt) ∙ ap (λ l. l ++ (48 ∷ [])) (decimal_digit 4 (lit< tt))))

too_long : (m : Content) (tape : List ℕ) → 65536 < length tape → (report_text m tape ≡ codes "tape 41 4096\n") × (report_after m tape ≡ m)
too_long m tape h = rw (lt-ltb 65536 (length tape) h) (rw (forty_one, most), refl)

pub report_laws : ReportLaws
report_laws = record { each = each; empty = λ m. (refl, refl); too_long = too_long }

pub same_text : SameText
same_text = record {
  any = λ m n bs tape p q. ap (λ k. report_text k tape) (p ∙ sym q);
  shipped = λ m n bs tape p q. ap (λ k. report_text k tape) (p ∙ sym q);
}

-- a machine that is left as it was
pub left_alone : {X Y : Type 0} (r : Result X Y) (m after : Content) → after ≡ m → Left r m after m
left_alone (Ok x) m after e = sym e
left_alone (Err y) m after e = inl refl
