-- Comparisons as the code makes them, by a difference, and as the definitions do, by a sum. Both are decided by the same
-- fact on numbers. Assumes nothing.
use Prim.Native.Nat.{ℕ, ◌+◌, ◌-◌, ◌<◌, ◌≤◌}
use mathlib.Core.Bool.{Bool, true, false}
use mathlib.Core.Path.{◌≡◌, sym, ◌∙◌, refl}
use native.Mathlib.Omega.{arith}
use lib.Dec.{leb, ltb}
use borrow.Author.Tests.{le-leb, lt-leb, lt-ltb, le-ltb, ltb-true, ltb-false}

-- tests that hold together are equal
pub same_test : (x y : Bool) → (x ≡ true → y ≡ true) → (x ≡ false → y ≡ false) → x ≡ y
same_test true y t f = sym (t refl)
same_test false y t f = sym (f refl)

-- n fits into what is left of m above l
pub below_difference : (m l n : ℕ) → l ≤ m → ltb n (m - l) ≡ leb (l + n + 1) m
below_difference m l n o =
    same_test (ltb n (m - l)) (leb (l + n + 1) m)
    (λ t. let h : n < m - l = ltb-true n (m - l) t in le-leb (l + n + 1) m (omega arith))
    (λ t. let h : m - l ≤ n = ltb-false n (m - l) t in lt-leb (l + n + 1) m (omega arith))

-- one more word reaches to m where the last lies below it
pub one_more : (n m : ℕ) → leb (n + 1) m ≡ ltb n m
one_more n m =
    sym
    (same_test (ltb n m) (leb (n + 1) m)
    (λ t. let h : n < m = ltb-true n m t in le-leb (n + 1) m (omega arith))
    (λ t. let h : m ≤ n = ltb-false n m t in lt-leb (n + 1) m (omega arith)))

-- a test of the code that came out true
pub reached : {t : Bool} {a b : ℕ} → t ≡ ltb a b → t ≡ true → a < b
reached {t} {a} {b} e h = ltb-true a b (sym e ∙ h)
