-- an enclave that runs has the number of an entry
use Rattle.std.specs.Prelude.{Bool, true, nat_lt}
use Rattle.monitor.specs.declared.slot.Party.{Party}
use Rattle.monitor.specs.declared.slot.Party.TheVariants.{Os, Enclave}

abbrev pub is_entry : Party → Bool
is_entry Os = true
is_entry (Enclave e) = nat_lt e 16
