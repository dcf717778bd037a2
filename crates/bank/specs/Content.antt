-- the entries of a bank, and how bytes and words are written to them
use Rattle.std.specs.Prelude.{ℕ, ◌+◌, ◌*◌, ◌/◌, ◌%◌, Bool, false, cond, not, ◌&&◌, List, replicate, ◌==◌, nat_le, bit_and, slice_index_or, slice_set}
use Rattle.bank.specs.declared.entry.Entry.{Entry}

-- low ≤ n ≤ high
abbrev pub between : ℕ → ℕ → ℕ → Bool
between low n high = cond (nat_le low n) (nat_le n high) false

-- how many entries a bank has
abbrev pub count : ℕ
count = 16

abbrev pub zero_entry : Entry
zero_entry = record { config = 0; word = 0 }

-- a new or reset bank
abbrev pub blank : List Entry
blank = replicate count zero_entry

abbrev pub entry_of : List Entry → ℕ → Entry
entry_of l i = slice_index_or l i zero_entry

-- a byte as it is stored: bits 6 and 5 cleared, and W (bit 1) cleared where R (bit 0) is clear
abbrev pub stored_byte : ℕ → ℕ
stored_byte b = cond (bit_and (bit_and b 0x9F) 1 == 0) (bit_and (bit_and b 0x9F) 0xFD) (bit_and b 0x9F)

-- L (bit 7)
abbrev pub is_locked : ℕ → Bool
is_locked b = not (bit_and b 0x80 == 0)

-- mode TOR in bits 4 and 3
abbrev pub is_tor : ℕ → Bool
is_tor b = bit_and b 0x18 == 8

abbrev pub with_byte : List Entry → ℕ → ℕ → List Entry
with_byte l i b = slice_set l i (record { config = b; word = (entry_of l i).word })

abbrev pub with_word : List Entry → ℕ → ℕ → List Entry
with_word l i w = slice_set l i (record { config = (entry_of l i).config; word = w })

-- a byte written to entry i: a locked entry keeps its own
abbrev pub put_byte : List Entry → ℕ → ℕ → List Entry
put_byte l i b = cond (is_locked (entry_of l i).config) l (with_byte l i (stored_byte b))

-- entry i + 1 is locked in mode TOR, so that word i is the bottom of a locked range
abbrev pub bounds_locked_above : List Entry → ℕ → Bool
bounds_locked_above l i =
    cond (i + 1 == count) false (is_locked (entry_of l (i + 1)).config && is_tor (entry_of l (i + 1)).config)

-- a word written to entry i: it stays where entry i is locked, or bounds a locked range
abbrev pub put_word : List Entry → ℕ → ℕ → List Entry
put_word l i w = cond (is_locked (entry_of l i).config) l (cond (bounds_locked_above l i) l (with_word l i w))

-- the four bytes of a word, the lowest to entry i, one entry after another
unfoldable pub put_four : List Entry → ℕ → ℕ → List Entry
put_four l i w =
    put_byte (put_byte (put_byte (put_byte l i (w % 256)) (i + 1) (w / 256 % 256)) (i + 2) (w / 65536 % 256)) (i + 3)
    (w / 16777216 % 256)

-- four configuration bytes as one word
abbrev pub four_bytes : List Entry → ℕ → ℕ
four_bytes l i =
    (entry_of l i).config + (entry_of l (i + 1)).config * 256 + (entry_of l (i + 2)).config * 65536
    + (entry_of l (i + 3)).config * 16777216
