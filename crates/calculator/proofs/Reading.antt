-- the number that digits write, digit by digit
use Rattle.std.proofs.Common.{ℕ, ◌^◌, ◌<◌, ◌≤◌, arith}
use native.Mathlib.Nat.{pow-le-pow_right}

-- fewer than 16 digits leave room for one more
pub room : (n i : ℕ) → n < 16 ^ i → i < 16 → n < 16 ^ 15
room n i h fewer =
    let p : i ≤ 15 = omega arith in
    let q : 16 ^ i ≤ 16 ^ 15 = pow-le-pow_right {n = 16} (omega arith) p in
    omega arith
