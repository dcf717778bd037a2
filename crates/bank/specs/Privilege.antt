-- the privilege of an access, and its number
use Rattle.std.specs.Prelude.{ℕ, cond, Ok, Err, Result, ◌==◌}
use Rattle.bank.specs.declared.privilege.Privilege.{Privilege}
use Rattle.bank.specs.declared.privilege.Privilege.TheVariants.{User, Supervisor, Machine}
use Rattle.refusals.specs.declared.Refusal.{Refusal}
use Rattle.refusals.specs.declared.Refusal.TheVariants.{Privilege as PrivilegeRefused}

abbrev pub privilege_number : Privilege → ℕ
privilege_number User = 0
privilege_number Supervisor = 1
privilege_number Machine = 3

abbrev pub privilege_of : ℕ → Result Privilege Refusal
privilege_of n = cond (n == 0) (Ok User) (cond (n == 1) (Ok Supervisor) (cond (n == 3) (Ok Machine) (Err PrivilegeRefused)))
