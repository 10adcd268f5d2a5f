-- The table of kinds at any number: it computes at each that it has, and past its end there is none. How many fields a kind has and the
-- limit of the last make its whole row again. Assumes nothing.
use Prim.Native.Nat.{ℕ, zero, suc, ◌+◌, ◌≤◌, ◌<◌}
use native.Mathlib.Nat.{le_of_suc-le-suc, not-suc-le-zero}
use native.Mathlib.Omega.{arith}
use mathlib.Core.Bool.{Bool, true, false}
use mathlib.Core.List.{List, [], ◌∷◌}
use mathlib.Core.Logic.{◌⊎◌, inl, inr, ⊎_elim}
use mathlib.Core.Option.{Option, none, some}
use mathlib.Core.Path.{◌≡◌, refl}
use borrow.Author.Tests.{eqb-true, eqb-false, ltb-true, ltb-false}
use lib.Dec.{eqb, ltb}
use lib.ListN.{length}
use Rattle.record.specs.Fields.{most16, kind_table, row, kinds}
use Rattle.record.specs.Found.{fields_in, last_in}

-- ---- what holds of each of m numbers from n on

abbrev pub Each : (ℕ → Type 0) → ℕ → ℕ → Type 0
Each P n zero = Unit
Each P n (suc m) = P n × Each P (suc n) m

n_or_more : (n k : ℕ) → n ≤ k → (k ≡ n) ⊎ (n < k)
n_or_more n k h = go (eqb k n) refl
  where
    go : (t : Bool) → eqb k n ≡ t → (k ≡ n) ⊎ (n < k)
    go true e = inl (eqb-true k n e)
    go false e = let d = eqb-false k n e in inr (omega arith)

pub each : (P : ℕ → Type 0) (n m : ℕ) → Each P n m → (k : ℕ) → n ≤ k → k < n + m → P k
each P n zero ps k l h = absurd (omega arith)
each P n (suc m) ps k l h = ⊎_elim (λ e. rw e ps.0) (λ g. each P (suc n) m ps.1 k g (omega arith)) (n_or_more n k l)

-- ---- past the end

row_past : (k : ℕ) (rs : List (List ℕ)) → length rs ≤ k → row k rs ≡ none
unfolding row
row_past k [] h = refl
row_past zero (r ∷ rs) h = absurd (not-suc-le-zero h)
row_past (suc k) (r ∷ rs) h = row_past k rs (le_of_suc-le-suc h)

pub no_kind : (k : ℕ) → 11 < k → kinds k ≡ none
unfolding kinds
no_kind k h = row_past k kind_table h

pub kind_or_none : (k : ℕ) → (k < 12) ⊎ (kinds k ≡ none)
kind_or_none k = go (ltb k 12) refl
  where
    go : (t : Bool) → ltb k 12 ≡ t → (k < 12) ⊎ (kinds k ≡ none)
    go true e = inl (ltb-true k 12 e)
    go false e = inr (no_kind k (ltb-false k 12 e))

-- ---- a row, from how many fields it has and the limit of the last

abbrev pub shape : ℕ → ℕ → Option (List ℕ)
shape zero l = none
shape (suc zero) l = some (l ∷ [])
shape (suc (suc zero)) l = some (most16 ∷ l ∷ [])
shape (suc (suc (suc zero))) l = some (most16 ∷ most16 ∷ most16 ∷ [])
shape (suc (suc (suc (suc m)))) l = none

pub shaped : (k : ℕ) → kinds k ≡ shape (fields_in (kinds k)) (last_in (kinds k))
unfolding kinds row
shaped k =
    ⊎_elim (λ h. each (λ j. kinds j ≡ shape (fields_in (kinds j)) (last_in (kinds j))) 0 12 (refl, (refl, (refl, (refl, (refl, (refl, (refl, (refl, (refl, (refl, (refl, (refl, tt)))))))))))) k (omega arith) h)
    (λ e. rw e)
    (kind_or_none k)
