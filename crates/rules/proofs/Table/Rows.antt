-- Laws of a table's rows: the row that holds, a row passed, and that a table gives one number. Assumes nothing.
use Prim.Native.Nat.{ℕ}
use mathlib.Core.Logic.{◌↔◌}
use mathlib.Core.Path.{◌≡◌, sym, ◌∙◌, subst}
use Rattle.rules.specs.Answers.{When, holds, passed, Otherwise, given}

-- ---- what holds of the numbers of all rows holds of the number given

abbrev pub Each : (ℕ → Type 0) → (ℕ → Type 0) → Type 0
Each P rows = (a : ℕ) → rows a → P a

pub each_when : (P : ℕ → Type 0) (C : Type 0) (n : ℕ) (below : ℕ → Type 0) → (C → P n) → Each P below → Each P (When C n below)
each_when P C n below f k a (holds c e) = subst P (sym e) (f c)
each_when P C n below f k a (passed c x) = k a x

pub each_last : (P : ℕ → Type 0) (n : ℕ) → P n → Each P (Otherwise n)
each_last P n p a (given e) = subst P (sym e) p

-- ---- a table gives one number

abbrev pub Only : (ℕ → Type 0) → Type 0
Only rows = (a c : ℕ) → rows a → rows c → a ≡ c

pub only_when : (C : Type 0) (n : ℕ) (below : ℕ → Type 0) → Only below → Only (When C n below)
only_when C n below k a c (holds x e) (holds y f) = e ∙ sym f
only_when C n below k a c (holds x e) (passed y f) = absurd (y x)
only_when C n below k a c (passed x e) (holds y f) = absurd (x y)
only_when C n below k a c (passed x e) (passed y f) = k a c e f

pub only_last : (n : ℕ) → Only (Otherwise n)
only_last n a c (given e) (given f) = e ∙ sym f

-- so an answer that the table gives is given exactly when the table says
pub exactly : (rows : ℕ → Type 0) → Only rows → (a : ℕ) → rows a → (c : ℕ) → (a ≡ c) ↔ rows c
exactly rows k a x c = (λ e. subst rows e x, λ y. k a c x y)
