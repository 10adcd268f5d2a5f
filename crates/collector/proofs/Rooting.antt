-- The search for roots by its cases: what is done with the root found, or with none. By computing the definitions. Assumes
-- nothing.
use Prim.Native.Nat.{ℕ}
use mathlib.Core.Bool.{Bool, true, false, cond}
use Rattle.std.specs.Prelude.{Option, None, Some}
use mathlib.Core.Path.{◌≡◌, refl}
use borrow.Author.Tests.{eq-eqb, ne_eqb}
use Rattle.rules.specs.Parts.{Box, with_dest, with_phase, with_src, with_tuple}
use Rattle.rules.specs.Box.{Reply, reply, word_at, handle_of, is_entry}
use Rattle.rules.specs.Place.{can_shade, shade}
use Rattle.rules.specs.Collector.{Found, unmarked, damaged, look_from, begin_sweep, end_marking, mark_root, scan_next, mark_next, end_cycle}
use Rattle.collector.specs.Decide.{end_refused, found_as}
use Rattle.collector.proofs.Ending.{end_refuses}
use Rattle.collector.proofs.Shading.{shadable_entry}

-- ---- the end of marking

module _ (b : Box) where
  pub marking_refused : b.top ≡ 0 → end_refused b ≡ true → reply b 9 ≡ end_marking b
  unfolding end_marking
  marking_refused z e = simp (eq-eqb b.top 0 z) (end_refuses b b e)

  pub marking_ended : (r : Reply) → b.top ≡ 0 → r ≡ end_cycle b b → r ≡ end_marking b
  unfolding end_marking
  marking_ended r z q = simp (eq-eqb b.top 0 z, q)

  pub marking_sweeps : (h : ℕ) → (b.top ≡ 0 → ⊥) → h ≡ handle_of (word_at 0 b) → reply (with_src 0 (with_dest 0 (with_tuple h (with_phase 4 b)))) 30 ≡ end_marking b
  unfolding end_marking begin_sweep
  marking_sweeps h z q = simp (ne_eqb b.top 0 z, q)

  -- ---- the root found
  refused_root : (h : ℕ) (i : Bool) → can_shade h b ≡ false → reply b 9 ≡ mark_root (cond i (unmarked h) damaged) b
  unfolding mark_root
  refused_root h true s = simp s
  refused_root h false s = refl

  pub root_none : (root : Option ℕ) (x : Reply) → ((h : ℕ) → root ≡ Some h → ⊥) → x ≡ end_marking b → x ≡ mark_root (found_as root b) b
  unfolding found_as mark_root
  root_none None x n q = q
  root_none (Some h) x n q = absurd (n h refl)

  module _ (root : Option ℕ) (h : ℕ) (t : root ≡ Some h) where
    pub root_shaded : (a : Box) → can_shade h b ≡ true → a ≡ shade h b → reply a 30 ≡ mark_root (found_as root b) b
    unfolding found_as mark_root
    root_shaded a s q = simp (t, shadable_entry h b s, s, q)

    pub root_refused : can_shade h b ≡ false → reply b 9 ≡ mark_root (found_as root b) b
    unfolding found_as
    root_refused s = simp t (refused_root h (is_entry h b) s)

  -- ---- the next list, or a root
  pub next_root : (f : Found) (x : Reply) → b.collector.next ≡ 0 → f ≡ look_from 8 b → x ≡ mark_root f b → x ≡ mark_next b
  unfolding mark_next
  next_root f x z l q = simp (eq-eqb b.collector.next 0 z, ← l, q)

  pub next_scan : (x : Reply) → (b.collector.next ≡ 0 → ⊥) → x ≡ scan_next b → x ≡ mark_next b
  unfolding mark_next
  next_scan x z q = simp (ne_eqb b.collector.next 0 z, q)
