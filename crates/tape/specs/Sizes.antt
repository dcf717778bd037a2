-- the sizes of accesses, and the widths that stand for them on a tape
use Rattle.std.specs.Prelude.{ℕ, cond, Some, None, Option, ◌==◌}

abbrev pub size_of : ℕ → ℕ
size_of w = cond (w == 0) 1 (cond (w == 1) 2 (cond (w == 2) 4 8))

abbrev pub width_of : ℕ → Option ℕ
width_of size = cond (size == 1) (Some 0) (cond (size == 2) (Some 1) (cond (size == 4) (Some 2) (cond (size == 8) (Some 3) None)))
