-- The opening of the first words and entries of columns that are as long as the largest box answers 0 where M and H are in range, and 10
-- otherwise. By the length of each column's first part. Assumes nothing.
use Prim.Native.Nat.{ℕ, ◌≤◌}
use mathlib.Core.Bool.{true, false, ◌&&◌}
use mathlib.Core.Path.{◌≡◌, refl}
use native.Mathlib.Omega.{arith}
use borrow.Author.Tests.{eq-eqb, leb-true}
use lib.Dec.{leb}
use lib.ListN.{length}
use lib.Seq.{length-take-le}
use Rattle.rules.specs.Limits.{most_words, most_entries, in_range}
use Rattle.rules.specs.Parts.{Box}
use Rattle.rules.specs.Box.{reply, lengths_are, right_sizes}
use Rattle.rules.specs.Open.{opened, opening}
use Rattle.rules.proofs.Sizes.{and_left, and_right}
use Rattle.pieces.specs.Pieces.{first_of, open_first}
use Rattle.pieces.specs.Claims.{Ample}

module _ (m h : ℕ) (b : Box) where
  -- each column is long enough to take so many of it
  lengths_right : Ample b → m ≤ most_words → h ≤ most_entries → lengths_are m h (first_of m h b) ≡ true
  unfolding lengths_are first_of
  lengths_right a w e =
      let l1 : m ≤ length b.memory.words = omega (arith, a.words) in
      let l2 : m ≤ length b.memory.flags = omega (arith, a.flags) in
      let l3 : h ≤ length b.directory.addresses = omega (arith, a.addresses) in
      let l4 : h ≤ length b.directory.sizes = omega (arith, a.sizes) in
      let l5 : h ≤ length b.directory.links = omega (arith, a.links) in
      let l6 : h ≤ length b.directory.marks = omega (arith, a.marks) in
      let l7 : h ≤ length b.directory.deeps = omega (arith, a.deeps) in
      simp (length-take-le, eq-eqb m m refl, eq-eqb h h refl)

  pub opens : Ample b → in_range m h ≡ true → open_first m h b ≡ reply (opened m h) 0
  unfolding open_first opening right_sizes in_range
  opens a r =
      let e : h ≤ most_entries = leb-true _ _ (and_right (leb 16 m && leb m most_words && leb 2 h) _ r) in
      let w : m ≤ most_words = leb-true _ _ (and_right (leb 16 m) _ (and_left _ _ (and_left _ _ r))) in
      rw (r, lengths_right a w e)

  pub refuses : in_range m h ≡ false → open_first m h b ≡ reply b 10
  unfolding open_first opening right_sizes
  refuses r = rw r
