-- what a stored byte never has
use Rattle.std.specs.Prelude.{◌≡◌, ℕ, Bool, true, false, cond, not, List, ◌==◌, bit_and, nat_lt}
use Rattle.bank.specs.Content.{entry_of}
use Rattle.bank.specs.declared.entry.Entry.{Entry}

-- a byte with bits 6 and 5 clear, and not W (bit 1) without R (bit 0)
abbrev pub is_clean : ℕ → Bool
is_clean b = cond (nat_lt b 256) (cond (bit_and b 0x60 == 0) (not (bit_and b 3 == 2)) false) false

-- every byte of the list is clean
abbrev pub Clean : List Entry → Type 0
Clean l = (i : ℕ) → is_clean (entry_of l i).config ≡ true
