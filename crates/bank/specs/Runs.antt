-- what is done to a bank one after another: writes, and writes with resets between them
use Rattle.std.specs.Prelude.{ℕ, List, [], ◌∷◌}
use Rattle.bank.specs.Content.{blank}
use Rattle.bank.specs.Registers.{written}
use Rattle.bank.specs.declared.entry.Entry.{Entry}

pub record Write : Type 0 where
  pub privilege : ℕ
  pub number : ℕ
  pub word : ℕ

abbrev pub after_write : List Entry → Write → List Entry
after_write l w = written l w.privilege w.number w.word

abbrev pub after_writes : List Entry → List Write → List Entry
after_writes l [] = l
after_writes l (w ∷ ws) = after_writes (after_write l w) ws

pub data Change : Type 0 where
  writes : Write → Change
  resets : Change

abbrev pub after_change : List Entry → Change → List Entry
after_change l (writes w) = after_write l w
after_change l resets = blank

abbrev pub after_changes : List Entry → List Change → List Entry
after_changes l [] = l
after_changes l (c ∷ cs) = after_changes (after_change l c) cs
