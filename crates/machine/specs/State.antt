-- what clauses see of a machine, over whatever memory
use Rattle.std.specs.Prelude.{ℕ, List, Some, None, Option}
use Rattle.monitor.specs.Content.{Content}
use Rattle.monitor.specs.declared.slot.Party.{Party}
use Rattle.monitor.specs.declared.slot.Party.TheVariants.{Os, Enclave}

-- its content, and what its memory's buffers hold besides
pub record State : Type 0 where
  pub content : Content
  pub beyond : List ℕ

-- who runs: the enclave of a slot, named by its entry, or the operating system
abbrev pub party_of : Option ℕ → Party
party_of None = Os
party_of (Some e) = Enclave e
