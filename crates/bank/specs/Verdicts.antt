-- verdicts: their questions, the deciding entry, and what follows from it
use Rattle.std.specs.Prelude.{ℕ, zero, suc, ◌+◌, min, max, Bool, true, false, cond, not, ◌&&◌, List, [], ◌∷◌, Some, None, Ok, Err, Option, Result, ◌==◌, bit_and, nat_le, nat_lt}
use Rattle.bank.specs.Content.{count, entry_of, is_locked}
use Rattle.bank.specs.Ranges.{end, range_of}
use Rattle.bank.specs.Registers.{is_privilege}
use Rattle.bank.specs.declared.entry.Entry.{Entry}
use Rattle.bank.specs.declared.verdict.Kind.{Kind}
use Rattle.bank.specs.declared.verdict.Kind.TheVariants.{Fetch, Load, Store}
use Rattle.bank.specs.declared.verdict.Verdict.{Verdict}
use Rattle.bank.specs.declared.verdict.Verdict.TheVariants.{Allowed, Fault}
use Rattle.refusals.specs.Questions.{ruled, ruling}
use Rattle.refusals.specs.declared.Refusal.{Refusal}
use Rattle.refusals.specs.declared.Refusal.TheVariants.{Privilege as PrivilegeRefused, Kind as KindRefused, Size, Span}

-- the number of each kind of access, and the kind of a number: 0, 1 or 2
abbrev pub kind_number : Kind → ℕ
kind_number Fetch = 0
kind_number Load = 1
kind_number Store = 2

abbrev pub kind_of : ℕ → Option Kind
kind_of n = cond (n == 0) (Some Fetch) (cond (n == 1) (Some Load) (cond (n == 2) (Some Store) None))

-- the bit that an access needs: X, R or W
abbrev pub needed_bit : Kind → ℕ
needed_bit Fetch = 4
needed_bit Load = 1
needed_bit Store = 2

-- the cause of a fault
abbrev pub fault_cause : Kind → ℕ
fault_cause Fetch = 1
fault_cause Load = 5
fault_cause Store = 7

-- size 1, 2, 4 or 8?
abbrev pub is_size : ℕ → Bool
is_size n = cond (n == 1) true (cond (n == 2) true (cond (n == 4) true (n == 8)))

-- a range holds some byte of the span
abbrev pub meets : Option (ℕ × ℕ) → ℕ × ℕ → Bool
meets None s = false
meets (Some r) s = nat_lt (max r.0 s.0) (min r.1 s.1)

-- a range holds every byte of the span
abbrev pub covers : Option (ℕ × ℕ) → ℕ × ℕ → Bool
covers None s = false
covers (Some r) s = cond (nat_le r.0 s.0) (nat_le s.1 r.1) false

-- the lowest of the k entries from i on whose range holds any byte of the span
unfoldable pub lowest : List Entry → ℕ × ℕ → ℕ → ℕ → Option ℕ
lowest l s zero i = None
lowest l s (suc k) i = cond (meets (range_of l i) s) (Some i) (lowest l s k (i + 1))

abbrev pub deciding : List Entry → ℕ × ℕ → Option ℕ
deciding l s = lowest l s count 0

-- the verdict where entry i, or none, decides
abbrev pub judged : List Entry → ℕ → Kind → ℕ × ℕ → Option ℕ → Verdict
judged l p k s None = cond (p == 3) (Allowed None) (Fault None (fault_cause k))
judged l p k s (Some i) =
    cond (covers (range_of l i) s)
    (cond (p == 3 && not (is_locked (entry_of l i).config)) (Allowed (Some i))
    (cond (bit_and (entry_of l i).config (needed_bit k) == 0) (Fault (Some i) (fault_cause k)) (Allowed (Some i))))
    (Fault (Some i) (fault_cause k))

-- privilege 0, 1 or 3?
abbrev pub privilege_asked : ℕ → Result (Unit {0}) Refusal
privilege_asked p = ruling ((is_privilege p, PrivilegeRefused) ∷ [])

-- kind 0, 1 or 2?
abbrev pub kind_asked : ℕ → Result Kind Refusal
kind_asked n = elim (kind_of n) [ Some k ↦ Ok k | None ↦ Err KindRefused ]

-- a size, and an end at or below 2 ^ 34? Then the span: the first byte, and the one after the last
abbrev pub span_asked : ℕ → ℕ → Result (ℕ × ℕ) Refusal
span_asked a n = ruled (ruling ((is_size n, Size) ∷ (nat_le (a + n) end, Span) ∷ [])) (Ok (a, a + n)) Err

-- the questions in their order, and the verdict
abbrev pub verdict_of : List Entry → ℕ → ℕ → ℕ → ℕ → Result Verdict Refusal
verdict_of l p n a size =
    elim (privilege_asked p) [
      | Ok _ ↦ elim (kind_asked n) [
        | Ok k ↦ elim (span_asked a size) [ Ok s ↦ Ok (judged l p k s (deciding l s)) | Err e ↦ Err e ]
        | Err e ↦ Err e
      ]
      | Err e ↦ Err e
    ]
