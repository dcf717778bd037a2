-- worked examples, shown of the definitions
use Rattle.std.specs.Prelude.{◌≡◌, ℕ, ◌^◌, List, Some, Ok}
use Rattle.bank.specs.Content.{blank, stored_byte}
use Rattle.bank.specs.Ranges.{napot_range, range_of}
use Rattle.bank.specs.Registers.{write_answer, written}
use Rattle.bank.specs.Verdicts.{verdict_of}
use Rattle.bank.specs.declared.entry.Entry.{Entry}
use Rattle.bank.specs.declared.verdict.Verdict.TheVariants.{Fault}

-- a new bank with words 0x2000 and 0x3000 in entries 0 and 1, and then a word written to 0x3A0
abbrev pub two_tor : ℕ → List Entry
two_tor bytes = written (written (written blank 3 0x3B0 0x2000) 3 0x3B1 0x3000) 3 0x3A0 bytes

pub record Examples : Type 0 where
  -- NAPOT words
  pub first_page : napot_range 0x1FF ≡ (0, 4096)
  pub second_page : napot_range 0x5FF ≡ (4096, 8192)
  pub eight_bytes : napot_range 0 ≡ (0, 8)
  pub all_ones : napot_range 0xFFFFFFFF ≡ (0, 2 ^ 34)
  pub all_but_one : napot_range 0x7FFFFFFF ≡ (0, 2 ^ 34)
  -- stored bytes
  pub byte_ff : stored_byte 0xFF ≡ 0x9F
  pub byte_1a : stored_byte 0x1A ≡ 0x18
  -- entries 0 and 1 in mode TOR, the second readable only
  pub tor_range : range_of (two_tor 0x0000090F) 1 ≡ Some (0x8000, 0xC000)
  pub store_faults : verdict_of (two_tor 0x0000090F) 0 2 0x8000 4 ≡ Ok (Fault (Some 1) 7)
  pub straddle_faults : verdict_of (two_tor 0x0000090F) 3 1 0x7FFE 4 ≡ Ok (Fault (Some 0) 5)
  -- the second locked too: its byte and the word below it stay
  pub locked_byte : write_answer (two_tor 0x0000890F) 3 0x3A0 0 ≡ Ok 0x00008900
  pub locked_bottom : (w : ℕ) → write_answer (two_tor 0x0000890F) 3 0x3B0 w ≡ Ok 0x2000
