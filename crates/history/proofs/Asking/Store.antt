-- STORE keeps the invariant: what it stores is shaded first while a cycle marks, then the tuple becomes deep, then the word is written.
-- Each of the three keeps the invariant by itself. A black tuple stays black, since by then its new target is marked; in Rest no
-- tuple is marked, and from the sweep on no clause asks for it. Assumes nothing.
use Prim.Native.Nat.{ℕ, ◌+◌, ◌≤◌, ◌<◌}
use mathlib.Core.Bool.{true, false, true≢false, false≢true}
use mathlib.Core.Logic.{◌⊎◌, inl, inr}
use mathlib.Core.Path.{◌≡◌, refl, sym, ◌∙◌, subst}
use native.Mathlib.Omega.{arith}
use Rattle.rules.specs.Parts.{Word, Box}
use Rattle.rules.specs.Box.{handle_of, names_tuple, register, size_of, marked, set_deep}
use Rattle.rules.specs.Place.{Place, place, write, shade}
use Rattle.history.specs.Agreement.{Member}
use Rattle.history.proofs.Invariant.Statement.{Plan, Ghosts, Inv, word, Kept, settled, moving, unswept, surviving}
use Rattle.history.proofs.Invariant.Frame.{Quiet}
use Rattle.history.proofs.Marking.Alike.{address_alike, with_scans}
use Rattle.history.proofs.Marking.Shade.{SameNumbers, shade_scans, shade_alike, shade_numbers, shade_mark, shade_quiet, shade_inv}
use Rattle.history.proofs.Invariant.Stages.{rests_of, unswept_of, kept_ahead}
use Rattle.history.proofs.Asking.Places.{place_by}
use Rattle.history.proofs.Asking.InRange.{kept_bounds}
use Rattle.history.proofs.Asking.Steady.{steady_kept_from, steady_kept_to}
use Rattle.history.proofs.Asking.Write.{Stored, written_inv, written_stored, deepen_inv, deepen_deep, deepen_word, deepen_place, deepen_steady}

-- ---- when it shades

-- a pointer is stored while a cycle marks
pub record Shades (w : Word) (b : Box) : Type 0 where
  pub names : names_tuple w ≡ true
  pub phase_least : 1 ≤ b.collector.phase
  pub phase_most : b.collector.phase ≤ 3

-- ---- a change after one that leaves registers, sizes and words alone

stored_after : (b : Box) (p : Plan) (c : Box) (q : Plan) (e : Box) (r : Plan) (h n : ℕ) (w : Word) → ((k : ℕ) → Kept c q k → Kept b p k)
    → ((k : ℕ) → Kept b p k → Kept c q k) → ((x : ℕ) → register x c ≡ register x b)
    → c.h ≡ b.h → ((k : ℕ) → Kept b p k → size_of k c ≡ size_of k b)
    → ((k : ℕ) → Kept b p k → (i : ℕ) → i ≤ size_of k b → word k i c ≡ word k i b) → Stored c q e r h n w → Stored b p e r h n w
stored_after b p c q e r h n w to from roots entries sizes words s =
    record {
      kept_to = λ k x. to k (s.kept_to k x);
      kept_from = λ k x. s.kept_from k (from k x);
      roots_same = λ x. s.roots_same x ∙ roots x;
      h_same = s.h_same ∙ entries;
      sizes_same = λ k x. s.sizes_same k (from k x) ∙ sizes k x;
      word_stored = s.word_stored;
      words_same = λ k x i l d. s.words_same k (from k x) i (subst (λ (z : ℕ). i ≤ z) (sym (sizes k x)) l) d ∙ words k x i l;
    }

-- ---- a pointer is written into a tuple made deep

deep_write_inv : (b : Box) (g : Ghosts) → Inv b g → (h n : ℕ) → Kept b g.plan h → n < size_of h b → (w : Word)
    → Kept b g.plan (handle_of w) → (b.collector.phase ≤ 3 → marked h b ≡ true → marked (handle_of w) b ≡ true)
    → Inv (write (place h (n + 1) b) w (set_deep h true b)) g
deep_write_inv b g v h n k l w t f =
    subst (λ (p : Place). Inv (write p w (set_deep h true b)) g) (deepen_place h b h (n + 1))
    (written_inv (set_deep h true b) g (deepen_inv b g v h (kept_bounds b g v h k).1) h n (steady_kept_from b (set_deep h true b) g.plan (deepen_steady h b) h k) l w
    (λ e. (steady_kept_from b (set_deep h true b) g.plan (deepen_steady h b) (handle_of w) t, deepen_deep h b v.shape (kept_bounds b g v h k).1))
    (λ p m e. f p m))

deep_write_stored : (b : Box) (g : Ghosts) → Inv b g → (h n : ℕ) → Kept b g.plan h → n < size_of h b → (w : Word)
    → Stored b g.plan (write (place h (n + 1) b) w (set_deep h true b)) g.plan h n w
deep_write_stored b g v h n k l w =
    stored_after b g.plan (set_deep h true b) g.plan (write (place h (n + 1) b) w (set_deep h true b)) g.plan h n w
    (steady_kept_to b (set_deep h true b) g.plan (deepen_steady h b))
    (steady_kept_from b (set_deep h true b) g.plan (deepen_steady h b))
    (λ x. refl)
    refl
    (λ j x. refl)
    (λ j x i m. deepen_word h b j i)
    (subst (λ (p : Place). Stored (set_deep h true b) g.plan (write p w (set_deep h true b)) g.plan h n w) (deepen_place h b h (n + 1))
    (written_stored (set_deep h true b) g (deepen_inv b g v h (kept_bounds b g v h k).1) h n (steady_kept_from b (set_deep h true b) g.plan (deepen_steady h b) h k) l w))

-- ---- outside marking: in Rest nothing is marked

rest_unmarked : (b : Box) (g : Ghosts) → Inv b g → b.collector.phase ≡ 0 → (h : ℕ) → Kept b g.plan h → marked h b ≡ false
rest_unmarked b g v e h (settled x) = v.marks.done_unmarked h x
rest_unmarked b g v e h (moving x) = v.marks.mid_unmarked h x
rest_unmarked b g v e h (unswept x p) = (rests_of b g v.stage e).unmarked h x
rest_unmarked b g v e h (surviving x m) = (rests_of b g v.stage e).unmarked h x

-- ---- while a cycle marks: the target is shaded first

shade_place : (t h i : ℕ) (b : Box) → place h i (shade t b) ≡ place h i b
shade_place t h i b =
    let s : SameNumbers b (shade t b) = shade_numbers t b in
    place_by h i b (shade t b) s.phase_is s.tuple_is s.index_is s.dest_is (address_alike b (shade t b) (shade_alike t b) h)

module _ (b : Box) (g : Ghosts) (v : Inv b g) (h n : ℕ) (k : Kept b g.plan h) (l : n < size_of h b) (w : Word) (t : Kept b g.plan (handle_of w)) (s : Shades w b) where
  target_ahead : Member (handle_of w) g.plan.ahead
  target_ahead = kept_ahead b g (handle_of w) (unswept_of b g v.stage s.phase_most) t

  shaded_quiet : Quiet b g.plan (shade (handle_of w) b) g.plan
  shaded_quiet = shade_quiet (handle_of w) b g.plan s.phase_most

  shaded_ghosts : Inv (shade (handle_of w) b) (with_scans (shade_scans (handle_of w) b g.scans) g)
  shaded_ghosts = shade_inv (handle_of w) b g v target_ahead s.phase_least s.phase_most

  shaded_fits : n < size_of h (shade (handle_of w) b)
  shaded_fits = subst (λ (z : ℕ). n < z) (sym (shaded_quiet.sizes_same h k)) l

  shaded_write_inv : Inv (write (place h (n + 1) b) w (set_deep h true (shade (handle_of w) b))) (with_scans (shade_scans (handle_of w) b g.scans) g)
  shaded_write_inv =
      subst (λ (p : Place). Inv (write p w (set_deep h true (shade (handle_of w) b))) (with_scans (shade_scans (handle_of w) b g.scans) g)) (shade_place (handle_of w) h (n + 1) b)
      (deep_write_inv (shade (handle_of w) b) (with_scans (shade_scans (handle_of w) b g.scans) g) shaded_ghosts h n (shaded_quiet.kept_from h k) shaded_fits w (shaded_quiet.kept_from (handle_of w) t) (λ p m. shade_mark (handle_of w) b v.shape (kept_bounds b g v (handle_of w) t).1))

  shaded_write_stored : Stored b g.plan (write (place h (n + 1) b) w (set_deep h true (shade (handle_of w) b))) g.plan h n w
  shaded_write_stored =
      stored_after b g.plan (shade (handle_of w) b) g.plan (write (place h (n + 1) b) w (set_deep h true (shade (handle_of w) b))) g.plan h n w shaded_quiet.kept_to shaded_quiet.kept_from shaded_quiet.roots_same (shade_alike (handle_of w) b).h_is shaded_quiet.sizes_same shaded_quiet.words_same
      (subst (λ (p : Place). Stored (shade (handle_of w) b) g.plan (write p w (set_deep h true (shade (handle_of w) b))) g.plan h n w) (shade_place (handle_of w) h (n + 1) b)
      (deep_write_stored (shade (handle_of w) b) (with_scans (shade_scans (handle_of w) b g.scans) g) shaded_ghosts h n (shaded_quiet.kept_from h k) shaded_fits w))

-- ---- the four cases, each by its own box

module _ (b : Box) (g : Ghosts) (v : Inv b g) (h n : ℕ) (k : Kept b g.plan h) (l : n < size_of h b) (w : Word) where
  -- data or nil
  pub stores_data : names_tuple w ≡ false → Inv (write (place h (n + 1) b) w b) g
  stores_data e = written_inv b g v h n k l w (λ m. absurd (false≢true (sym e ∙ m))) (λ p x m. absurd (false≢true (sym e ∙ m)))

  pub data_stored : Stored b g.plan (write (place h (n + 1) b) w b) g.plan h n w
  data_stored = written_stored b g v h n k l w

  -- a pointer, in Rest or from the sweep on
  pub stores_late : Kept b g.plan (handle_of w) → (b.collector.phase ≡ 0) ⊎ (3 < b.collector.phase) → Inv (write (place h (n + 1) b) w (set_deep h true b)) g
  stores_late t o = deep_write_inv b g v h n k l w t (λ p m. absurd (cases o p m))
    where
      cases : (b.collector.phase ≡ 0) ⊎ (3 < b.collector.phase) → b.collector.phase ≤ 3 → marked h b ≡ true → ⊥
      cases (inl e) p m = true≢false (sym m ∙ rest_unmarked b g v e h k)
      cases (inr e) p m = omega arith

  -- a pointer to a marked tuple
  pub stores_marked : Kept b g.plan (handle_of w) → marked (handle_of w) b ≡ true → Inv (write (place h (n + 1) b) w (set_deep h true b)) g
  stores_marked t m = deep_write_inv b g v h n k l w t (λ p x. m)

  pub deep_stored : Stored b g.plan (write (place h (n + 1) b) w (set_deep h true b)) g.plan h n w
  deep_stored = deep_write_stored b g v h n k l w

  -- a pointer while a cycle marks, to a tuple shaded first
  pub stores_shaded : Kept b g.plan (handle_of w) → Shades w b
      → Inv (write (place h (n + 1) b) w (set_deep h true (shade (handle_of w) b))) (with_scans (shade_scans (handle_of w) b g.scans) g)
  stores_shaded = shaded_write_inv b g v h n k l w

  pub shaded_stored : Kept b g.plan (handle_of w) → Shades w b
      → Stored b g.plan (write (place h (n + 1) b) w (set_deep h true (shade (handle_of w) b))) g.plan h n w
  shaded_stored = shaded_write_stored b g v h n k l w
