-- The tuple under the sweep, in phase 4: it has an entry, lies at src and ends at or below top, and is none of the others. Then what
-- its mark says of live, and the marks once its own is taken away. Each is read off the invariant. Assumes nothing.
use Prim.Native.Nat.{ℕ, ◌+◌, ◌≤◌, ◌<◌}
use mathlib.Core.Bool.{true, false}
use mathlib.Core.List.{List, [], ◌∷◌, ◌++◌}
use mathlib.Core.Logic.{◌≢◌, ◌⊎◌, inl, inr}
use mathlib.Core.Path.{◌≡◌, refl, sym, ◌∙◌, subst}
use native.Mathlib.Decide.{ℕ_discrete}
use native.Mathlib.Omega.{arith}
use lib.ListN.{length, get_or, set}
use lib.Seq.{get_or-set_same, get_or-set_other}
use Rattle.rules.specs.Parts.{Box}
use Rattle.rules.specs.Box.{word_at, address, size_of, marked}
use Rattle.history.specs.Agreement.{Member}
use Rattle.history.proofs.Invariant.Statement.{Inv, Control, Laid, marked_rooms}
use Rattle.history.proofs.Lists.Handles.{member_right, member_cases, member_differs, Parts, parts}
use Rattle.history.proofs.Lists.Laid.{laid_le, laid_rooms, marked_rooms_marked, marked_rooms_unmarked, marked_rooms_le}
use Rattle.history.proofs.Sweep.Ghosts.{scan_ghosts, rooms_none, live_swept}
use Rattle.rules.proofs.View.Boxes.{swept_after}

module _ (b : Box) (ds hs free : List ℕ) (v : Inv b (scan_ghosts b ds hs free)) where
  -- ---- its entry

  pub entry : (1 ≤ b.collector.tuple) × (b.collector.tuple < b.h)
  entry = v.handles.entries b.collector.tuple (member_right b.collector.tuple ds ((b.collector.tuple ∷ hs) ++ free) (inl refl))

  pub in_marks : b.collector.tuple < length b.directory.marks
  in_marks = omega (arith, entry, v.shape.marks_length)

  pub in_links : b.collector.tuple < length b.directory.links
  in_links = omega (arith, entry, v.shape.links_length)

  -- ---- the others

  pub four_parts : Parts ds [] (b.collector.tuple ∷ hs) free
  four_parts = parts ds [] (b.collector.tuple ∷ hs) free v.handles.distinct

  pub ahead_other : (h : ℕ) → Member h hs → h ≢ b.collector.tuple
  ahead_other h x = member_differs h b.collector.tuple hs x four_parts.ahead_distinct.0

  pub not_free : ¬ Member b.collector.tuple free
  not_free = four_parts.ahead_free b.collector.tuple (inl refl)

  -- ---- where it lies

  pub at_src : address b.collector.tuple b ≡ b.collector.src
  at_src = v.layout.ahead_laid.0

  pub control_at_src : Control (word_at b.collector.src b) b.collector.tuple
  control_at_src = v.layout.ahead_laid.1

  pub behind_laid : Laid b (swept_after b) hs b.top
  behind_laid = v.layout.ahead_laid.2

  pub end_below_top : swept_after b ≤ b.top
  end_below_top = laid_le b (swept_after b) hs b.top behind_laid

  pub dest_below_src : b.collector.dest ≤ b.collector.src
  dest_below_src = omega (arith, v.layout.low_base, rooms_none b)

  -- ---- live

  pub live_if_marked : marked b.collector.tuple b ≡ true → b.collector.live ≡ b.collector.dest + (size_of b.collector.tuple b + 1 + marked_rooms b hs)
  live_if_marked m = omega (arith, live_swept b b.collector.dest b.collector.src ds (b.collector.tuple ∷ hs) free v.marks, marked_rooms_marked b b.collector.tuple hs m)

  pub live_if_unmarked : marked b.collector.tuple b ≡ false → b.collector.live ≡ b.collector.dest + marked_rooms b hs
  live_if_unmarked m = omega (arith, live_swept b b.collector.dest b.collector.src ds (b.collector.tuple ∷ hs) free v.marks, marked_rooms_unmarked b b.collector.tuple hs m)

  -- an unmarked tuple that ends below live has another behind it
  pub more_behind : marked b.collector.tuple b ≡ false → b.collector.src + size_of b.collector.tuple b < b.collector.live → swept_after b < b.top
  more_behind m l = omega (arith, live_if_unmarked m, dest_below_src, marked_rooms_le b hs, laid_rooms b (swept_after b) hs b.top behind_laid)

  -- ---- the marks, once its own is taken away

  pub unmarked_here : get_or (set b.directory.marks b.collector.tuple false) b.collector.tuple false ≡ false
  unmarked_here = get_or-set_same b.directory.marks b.collector.tuple false false in_marks

  pub unmarked_other : (h : ℕ) → h ≢ b.collector.tuple → get_or (set b.directory.marks b.collector.tuple false) h false ≡ marked h b
  unmarked_other h n = get_or-set_other b.directory.marks b.collector.tuple h false false n

  pub still_unmarked : (h : ℕ) → marked h b ≡ false → get_or (set b.directory.marks b.collector.tuple false) h false ≡ false
  still_unmarked h f = cases (ℕ_discrete h b.collector.tuple)
    where
      cases : Dec (h ≡ b.collector.tuple) → get_or (set b.directory.marks b.collector.tuple false) h false ≡ false
      cases (yes e) = subst (λ (x : ℕ). get_or (set b.directory.marks b.collector.tuple false) x false ≡ false) (sym e) unmarked_here
      cases (no n) = unmarked_other h n ∙ f

  pub settled_unmarked : (h : ℕ) → Member h (ds ++ (b.collector.tuple ∷ [])) → get_or (set b.directory.marks b.collector.tuple false) h false ≡ false
  settled_unmarked h x = cases (member_cases h ds (b.collector.tuple ∷ []) x)
    where
      cases : Member h ds ⊎ Member h (b.collector.tuple ∷ []) → get_or (set b.directory.marks b.collector.tuple false) h false ≡ false
      cases (inl y) = still_unmarked h (v.marks.done_unmarked h y)
      cases (inr (inl e)) = subst (λ (x : ℕ). get_or (set b.directory.marks b.collector.tuple false) x false ≡ false) (sym e) unmarked_here
      cases (inr (inr y)) = absurd y
