-- Lines as text: what one and two digits are, and runs of stores. Assumes nothing.
use Prim.Native.Nat.{ℕ, suc, ◌+◌, ◌/◌, ◌%◌, ◌≤◌, ◌<◌}
use mathlib.Core.Bool.{Bool, true, false}
use mathlib.Core.List.{List, [], ◌∷◌, ◌++◌}
use mathlib.Core.Path.{◌≡◌, refl}
use native.Mathlib.Omega.{arith}
use native.Mathlib.Numerals.{add-one}
use native.Mathlib.Nat.{add-suc, suc-add, add-zero}
use lib.Dec.{ltb}
use lib.ListN.{length, set}
use lib.Seq.{sets}
use borrow.Author.Tests.{lt-ltb, le-ltb, ltb-true, ltb-false}
use Rattle.pieces.specs.Text.{digit, digits, decimal, line}

-- one digit, and two
pub line_one : (a : ℕ) → a < 10 → line a ≡ digit a ∷ 10 ∷ []
unfolding line decimal digits
line_one a h = rw (lt-ltb a 10 h)

pub line_two : (a : ℕ) → 10 ≤ a → a < 100 → line a ≡ digit (a / 10) ∷ digit (a % 10) ∷ 10 ∷ []
unfolding line decimal digits
line_two a h k = rw (le-ltb a 10 h, lt-ltb (a / 10) 10 (omega arith))

-- a line of an answer below 100 has at most three characters
pub line_short : (a : ℕ) → a < 100 → length (line a) ≤ 3
line_short a h = by (ltb a 10) refl
  where
    by : (t : Bool) → ltb a 10 ≡ t → length (line a) ≤ 3
    by true e = rw (line_one a (ltb-true a 10 e)) (omega arith)
    by false e = rw (line_two a (ltb-false a 10 e) h) (omega arith)

-- stores one behind the other
pub sets_more : {A : Type 0} (l : List A) (i : ℕ) (xs ys : List A) → sets (sets l i xs) (i + length xs) ys ≡ sets l i (xs ++ ys)
sets_more l i [] ys = rw (add-zero i)
sets_more l i (x ∷ xs) ys = rw (add-suc i (length xs), ← suc-add i (length xs)) (sets_more (set l i x) (suc i) xs ys)

-- what the code stores of one digit and of two
pub stored_one : (l : List ℕ) (at a d : ℕ) → a < 10 → d ≡ 48 + a → (set (set l at d) (at + 1) 10 ≡ sets l at (line a)) × (at + 2 ≡ at + length (line a))
stored_one l at a d h e = (rw (line_one a h, e, add-one at), rw (line_one a h))

pub stored_two : (l : List ℕ) (at a d e : ℕ) → 10 ≤ a → a < 100 → d ≡ 48 + a / 10 → e ≡ 48 + a % 10 → (set (set (set l at d) (at + 1) e) (at + 2) 10 ≡ sets l at (line a)) × (at + 3 ≡ at + length (line a))
stored_two l at a d e h k p q = let t : at + 2 ≡ suc (suc at) = omega arith in (rw (line_two a h k, p, q, add-one at, t), rw (line_two a h k))
