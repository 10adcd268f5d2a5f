-- Shading by its cases: for each way through the rule, whether it can be done and what it leaves, from the facts that lead
-- there. By computing the definitions under those facts. Assumes nothing.
use Prim.Native.Nat.{ℕ, ◌+◌, ◌-◌, ◌<◌, ◌≤◌}
use mathlib.Core.Bool.{true, false, ◌||◌}
use mathlib.Core.Path.{◌≡◌}
use native.Mathlib.Omega.{arith}
use lib.Dec.{leb, ltb}
use borrow.Author.Tests.{lt-leb, leb-true}
use Rattle.rules.specs.Parts.{Box}
use Rattle.rules.specs.Box.{size_of, marked, deep, is_entry}
use Rattle.rules.specs.Place.{can_shade, list_next, mark_live, shade}
use Rattle.collector.proofs.Entries.{entry, entry_nil, entry_far, entry_small}
use Rattle.rules.proofs.Sizes.{and_left, and_right}
use Rattle.collector.proofs.Compare.{below_difference}

module _ (h : ℕ) (b : Box) where
  -- no entry: nil, or at or above H
  pub unshadable_nil : h ≡ 0 → false ≡ can_shade h b
  unfolding can_shade
  unshadable_nil z = simp (entry_nil h b z)

  pub unshadable_far : b.h ≤ h → false ≡ can_shade h b
  unfolding can_shade
  unshadable_far f = simp (entry_far h b f)

  pub shadable_marked : 0 < h → h < b.h → marked h b ≡ true → true ≡ can_shade h b
  unfolding can_shade
  shadable_marked p q t = simp (entry h b p q, t)

  -- live alone is past M
  pub unshadable_over : 0 < h → h < b.h → marked h b ≡ false → b.m < b.collector.live → false ≡ can_shade h b
  unfolding can_shade
  unshadable_over p q t o = simp (entry h b p q, t, lt-leb (b.collector.live + size_of h b + 1) b.m (omega arith))

  -- what is left of M is compared with the size
  pub shadable_left : 0 < h → h < b.h → marked h b ≡ false → b.collector.live ≤ b.m → ltb (size_of h b) (b.m - b.collector.live) ≡ can_shade h b
  unfolding can_shade
  shadable_left p q t o = simp (entry h b p q, t, below_difference b.m b.collector.live (size_of h b) o)

  -- what follows where it can be shaded
  pub shadable_entry : can_shade h b ≡ true → is_entry h b ≡ true
  unfolding can_shade
  shadable_entry e = and_left (is_entry h b) _ e

  pub shadable_small : can_shade h b ≡ true → h < b.h
  shadable_small e = entry_small h b (shadable_entry e)

  pub shadable_total : can_shade h b ≡ true → marked h b ≡ false → b.collector.live + size_of h b + 1 ≤ b.m
  unfolding can_shade
  shadable_total e t = leb-true (b.collector.live + size_of h b + 1) b.m (simp t at (and_right (is_entry h b) (marked h b || leb (b.collector.live + size_of h b + 1) b.m) e))

  pub shade_marked : marked h b ≡ true → b ≡ shade h b
  unfolding shade
  shade_marked t = simp t

  pub shade_deep : marked h b ≡ false → deep h b ≡ true → list_next h (mark_live h b) ≡ shade h b
  unfolding shade
  shade_deep t d = simp (t, d)

  pub shade_shallow : marked h b ≡ false → deep h b ≡ false → mark_live h b ≡ shade h b
  unfolding shade
  shade_shallow t d = simp (t, d)
