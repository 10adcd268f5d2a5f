-- The bytes from a place on, as the code finds them. Assumes nothing.
use Prim.Native.Nat.{ℕ, ◌≤◌, ◌<◌}
use mathlib.Core.Bool.{true, false}
use mathlib.Core.List.{List}
use mathlib.Core.Path.{◌≡◌}
use native.Mathlib.Omega.{arith}
use lib.ListN.{length, drop, length-drop, drop_of_length-le}
use lib.Seq.{drop-cons}
use Rattle.record.specs.Reading.{nothing_behind}
use Rattle.record.specs.Found.{place_of}

pub place_here : (bs : List ℕ) (k : ℕ) → k ≤ length bs → place_of (length bs) (drop k bs) ≡ k
place_here bs k h = omega (arith, length-drop k bs)

pub something_behind : (bs : List ℕ) (k : ℕ) → k < length bs → nothing_behind (drop k bs) ≡ false
unfolding nothing_behind
something_behind bs k h = rw (drop-cons bs k 0 h)

pub none_behind : (bs : List ℕ) (k : ℕ) → length bs ≤ k → nothing_behind (drop k bs) ≡ true
unfolding nothing_behind
none_behind bs k h = rw (drop_of_length-le bs h)
