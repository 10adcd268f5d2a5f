-- Where a word is, as document 01's table of answers speaks of it: in the copy register, moved already, or at its tuple's address, with
-- a law for each of the three; and what follows for an address at or above M. Assumes nothing.
use Prim.Native.Nat.{ℕ, ◌+◌, ◌≤◌, ◌<◌}
use mathlib.Core.Bool.{Bool, true, false, ◌&&◌, true≢false}
use mathlib.Core.Logic.{◌⊎◌, inl, inr}
use mathlib.Core.Path.{◌≡◌, sym, ◌∙◌, ap}
use native.Mathlib.Omega.{arith}
use borrow.Author.Tests.{leb-true, ltb-true, ltb-false, eqb-true, lt-ltb, le-leb, eq-eqb}
use lib.Dec.{leb, ltb, eqb}
use Rattle.rules.specs.Parts.{Box}
use Rattle.rules.specs.Box.{address}
use Rattle.rules.specs.Place.{being_moved, copy_place, at, place, in_memory}
use Rattle.rules.specs.Answers.{Moving, InCopy, Moved, OutOfMemory}
use Rattle.rules.proofs.Sizes.{and_left, and_right}
use Rattle.rules.proofs.View.Tests.{true?}

-- ---- the tests

moving_is : (h : ℕ) (b : Box) → being_moved h b ≡ true → Moving h b
unfolding being_moved
moving_is h b e =
    let l = and_left (eqb h b.collector.tuple && leb 5 b.collector.phase) (leb b.collector.phase 7) e in
    (eqb-true _ _ (and_left (eqb h b.collector.tuple) _ l), leb-true _ _ (and_right (eqb h b.collector.tuple) _ l), leb-true _ _ (and_right (eqb h b.collector.tuple && leb 5 b.collector.phase) _ e))

moving_true : (h : ℕ) (b : Box) → Moving h b → being_moved h b ≡ true
unfolding being_moved
moving_true h b x = simp (eq-eqb h b.collector.tuple x.0, le-leb 5 b.collector.phase x.1, le-leb b.collector.phase 7 x.2)

copied : ℕ → ℕ → Box → Bool
copied h i b = being_moved h b && leb 6 b.collector.phase && eqb i b.collector.index

copied_is : (h i : ℕ) (b : Box) → copied h i b ≡ true → InCopy h i b
unfolding copied
copied_is h i b e =
    let l = and_left (being_moved h b && leb 6 b.collector.phase) (eqb i b.collector.index) e in
    (moving_is h b (and_left (being_moved h b) _ l), leb-true _ _ (and_right (being_moved h b) _ l), eqb-true _ _ (and_right (being_moved h b && leb 6 b.collector.phase) _ e))

copied_true : (h i : ℕ) (b : Box) → InCopy h i b → copied h i b ≡ true
unfolding copied
copied_true h i b x = simp (moving_true h b x.0, le-leb 6 b.collector.phase x.1, eq-eqb i b.collector.index x.2)

moved : ℕ → ℕ → Box → Bool
moved h i b = being_moved h b && ltb i b.collector.index

moved_is : (h i : ℕ) (b : Box) → moved h i b ≡ true → Moved h i b
unfolding moved
moved_is h i b e = (moving_is h b (and_left (being_moved h b) _ e), ltb-true _ _ (and_right (being_moved h b) _ e))

moved_true : (h i : ℕ) (b : Box) → Moved h i b → moved h i b ≡ true
unfolding moved
moved_true h i b x = simp (moving_true h b x.0, lt-ltb i b.collector.index x.1)

-- ---- the place

data Where (h i : ℕ) (b : Box) : Type 0 where
  in_copy : InCopy h i b → place h i b ≡ copy_place → Where h i b
  at_dest : ¬ InCopy h i b → Moved h i b → place h i b ≡ at (b.collector.dest + i) → Where h i b
  at_address : ¬ InCopy h i b → ¬ Moved h i b → place h i b ≡ at (address h b + i) → Where h i b

where_is : (h i : ℕ) (b : Box) → Where h i b
unfolding place copied moved
where_is h i b = go (true? (copied h i b)) (true? (moved h i b))
  where
    not_copied : copied h i b ≡ false → ¬ InCopy h i b
    not_copied e x = true≢false (sym (copied_true h i b x) ∙ e)

    not_moved : moved h i b ≡ false → ¬ Moved h i b
    not_moved e x = true≢false (sym (moved_true h i b x) ∙ e)

    go : (copied h i b ≡ true) ⊎ (copied h i b ≡ false) → (moved h i b ≡ true) ⊎ (moved h i b ≡ false) → Where h i b
    go (inl c) m = in_copy (copied_is h i b c) (simp c)
    go (inr c) (inl m) = at_dest (not_copied c) (moved_is h i b m) (simp (c, m))
    go (inr c) (inr m) = at_address (not_copied c) (not_moved m) (simp (c, m))

-- ---- its three cases

pub place_copied : (h i : ℕ) (b : Box) → InCopy h i b → place h i b ≡ copy_place
place_copied h i b x = go (where_is h i b)
  where
    go : Where h i b → place h i b ≡ copy_place
    go (in_copy c p) = p
    go (at_dest c m p) = absurd (c x)
    go (at_address c m p) = absurd (c x)

pub place_moved : (h i : ℕ) (b : Box) → Moved h i b → place h i b ≡ at (b.collector.dest + i)
place_moved h i b x = go (where_is h i b)
  where
    go : Where h i b → place h i b ≡ at (b.collector.dest + i)
    go (in_copy c p) = absurd (omega (arith, c.2, x.1))
    go (at_dest c m p) = p
    go (at_address c m p) = absurd (m x)

pub place_home : (h i : ℕ) (b : Box) → ¬ InCopy h i b → ¬ Moved h i b → place h i b ≡ at (address h b + i)
place_home h i b x y = go (where_is h i b)
  where
    go : Where h i b → place h i b ≡ at (address h b + i)
    go (in_copy c p) = absurd (x c)
    go (at_dest c m p) = absurd (y m)
    go (at_address c m p) = p

-- ---- an address at or above M

pub out_of_memory : (h i : ℕ) (b : Box) → in_memory (place h i b) b ≡ false → OutOfMemory h i b
unfolding in_memory
out_of_memory h i b e = go (where_is h i b)
  where
    go : Where h i b → OutOfMemory h i b
    go (in_copy c p) = absurd (true≢false (sym (ap (λ x. in_memory x b) p) ∙ e))
    go (at_dest c m p) = (c, inl (m, ltb-false _ _ (sym (ap (λ x. in_memory x b) p) ∙ e)))
    go (at_address c m p) = (c, inr (m, ltb-false _ _ (sym (ap (λ x. in_memory x b) p) ∙ e)))

pub not_out_of_memory : (h i : ℕ) (b : Box) → in_memory (place h i b) b ≡ true → ¬ OutOfMemory h i b
unfolding in_memory
not_out_of_memory h i b e x = go (where_is h i b) x.1
  where
    go : Where h i b → (Moved h i b × (b.m ≤ b.collector.dest + i)) ⊎ ((¬ Moved h i b) × (b.m ≤ address h b + i)) → ⊥
    go (in_copy c p) y = x.0 c
    go (at_dest c m p) (inl y) =
        let l : b.collector.dest + i < b.m = ltb-true _ _ (sym (ap (λ x. in_memory x b) p) ∙ e) in omega (arith, y.1)
    go (at_dest c m p) (inr y) = y.0 m
    go (at_address c m p) (inl y) = m y.0
    go (at_address c m p) (inr y) =
        let l : address h b + i < b.m = ltb-true _ _ (sym (ap (λ x. in_memory x b) p) ∙ e) in omega (arith, y.1)
