-- Bounds of indices, sums and tests, over plain variables. Assumes nothing.
use Prim.Native.Nat.{ℕ, ◌+◌, ◌*◌, ◌^◌, ◌<◌, ◌≤◌}
use mathlib.Core.Path.{◌≡◌}
use native.Mathlib.Omega.{arith}

-- an index below the number that is the length
pub below : (i n length : ℕ) → length ≡ n → i < n → i < length
below i n length e l = omega arith

-- a total of words, and the sums on the way to it
pub sum_fits : (l s m : ℕ) → l + s + 1 ≤ m → m < 65536 → l + s < 2 ^ 32
sum_fits l s m h k = omega arith

pub total_fits : (l s m : ℕ) → l + s + 1 ≤ m → m < 65536 → l + s + 1 < 2 ^ 32
total_fits l s m h k = omega arith
