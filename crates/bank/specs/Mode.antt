-- the mode of a configuration byte, by bits 4 and 3
use Rattle.std.specs.Prelude.{ℕ, cond, ◌==◌, bit_and}
use Rattle.bank.specs.declared.mode.Mode.{Mode}
use Rattle.bank.specs.declared.mode.Mode.TheVariants.{Off, Tor, Na4, Napot}

abbrev pub mode_of : ℕ → Mode
mode_of b = cond (bit_and b 0x18 == 0) Off (cond (bit_and b 0x18 == 0x08) Tor (cond (bit_and b 0x18 == 0x10) Na4 Napot))
