-- Which handles can be looked up: 1 to H-1, and no other. By computing the definition. Assumes nothing.
use Prim.Native.Nat.{ℕ, ◌<◌, ◌≤◌}
use mathlib.Core.Bool.{true, false, and-false}
use mathlib.Core.Path.{◌≡◌}
use native.Mathlib.Omega.{arith}
use lib.Dec.{leb, ltb}
use borrow.Author.Tests.{lt-ltb, le-ltb, le-leb, lt-leb, ltb-true}
use Rattle.rules.specs.Parts.{Box}
use Rattle.rules.specs.Box.{is_entry}
use Rattle.rules.proofs.Sizes.{and_right}

module _ (h : ℕ) (b : Box) where
  pub entry : 0 < h → h < b.h → is_entry h b ≡ true
  unfolding is_entry
  entry p q = simp (le-leb 1 h (omega arith), lt-ltb h b.h q)

  pub entry_nil : h ≡ 0 → is_entry h b ≡ false
  unfolding is_entry
  entry_nil z = simp (lt-leb 1 h (omega arith))

  pub entry_far : b.h ≤ h → is_entry h b ≡ false
  unfolding is_entry
  entry_far f = simp (le-ltb h b.h f, and-false (leb 1 h))

  -- handle 0 set aside, only H is left to compare with
  pub entry_below : (h ≡ 0 → ⊥) → is_entry h b ≡ ltb h b.h
  unfolding is_entry
  entry_below n = simp (le-leb 1 h (omega arith))

  pub entry_small : is_entry h b ≡ true → h < b.h
  unfolding is_entry
  entry_small e = ltb-true h b.h (and_right (leb 1 h) (ltb h b.h) e)
