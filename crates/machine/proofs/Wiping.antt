-- zeros stored eight bytes at a time
use Rattle.std.proofs.Common.{◌≡◌, ℕ, suc, ◌+◌, List}
use Rattle.bank.specs.declared.entry.Entry.{Entry}
use Rattle.monitor.specs.Content.{wiped, wiped_eight}

module _ (l : List Entry) (bs : List ℕ) where
  pub wiped_more : (cs : List ℕ) (p q n m : ℕ) → q ≡ p + 8 → n ≡ suc m → cs ≡ wiped_eight l bs p → wiped l cs q m ≡ wiped l bs p n
  unfolding wiped
  wiped_more cs p q n m e f h = rw (f, e, h)

  pub wiped_done : (p n : ℕ) → n ≡ 0 → wiped l bs p n ≡ bs
  unfolding wiped
  wiped_done p n h = rw h
