-- The steps left fall with every step that answers 30, whatever ghosts the invariant holds with after it: each transition of the view
-- is one of the steps, and those that end a cycle or answer 9 give another answer. Assumes nothing.
use Prim.Native.Nat.{◌<◌}
use mathlib.Core.Logic.{◌≢◌}
use mathlib.Core.Path.{◌≡◌, refl, sym, ap, ◌∙◌, subst}
use native.Mathlib.Omega.{arith}
use Rattle.rules.specs.Parts.{Box, with_next}
use Rattle.rules.specs.Box.{Reply, reply, handle_of, register}
use Rattle.rules.specs.Place.{shade}
use Rattle.rules.specs.Collector.{going, to_phase, after, at_rest, unheld, granted, end_cycle, scan, begin_sweep, go_on, settle_move, write_copy, zero_word, step}
use Rattle.history.proofs.Invariant.Statement.{Ghosts, Inv}
use Rattle.rules.proofs.View.Step.{Step, unsound, nine, rests, takes_next, shades_root, ends_empty, begins_sweep, scans_data, scans_pointer, scan_ends, takes_current, adds_marked, adds_unmarked, keeps_last, keeps, starts_move, releases, starts_zero, copies_low, copies_high, ends_move, moves_on, clears, writes, zeroes, zero_ends, zero_on, view}
use Rattle.rules.proofs.View.End.{Ending, ends_free, ends_held, ends_dropped, ends_granted, ends_lost, ending}
use Rattle.history.proofs.Left.Count.{left}
use Rattle.history.proofs.Left.Marks.{left_rests, left_scans_data, left_scans_pointer}
use Rattle.history.proofs.Left.Sweeps.{left_sweeps_on, left_starts_move, left_starts_zero, left_copies_high, left_copies_low}
use Rattle.history.proofs.Left.Rules.{fewer_takes_next, fewer_shades_root, fewer_begins_sweep, fewer_scan_ends, fewer_takes_current, fewer_adds_marked, fewer_adds_unmarked, fewer_moves_on, fewer_clears, fewer_writes, fewer_zeroes, fewer_zero_on}
use Rattle.rules.proofs.View.Boxes.{rested_box, scanned_data_box, scanned_pointer_box, kept_last_box, kept_box, move_begun_box, released_box, zero_begun_box, copied_box, moved_last_box, moved_box, cleared_box, zeroed_last_box}

-- an answer other than 30
not_going : (r s : Reply) → r.answer ≡ 30 → r ≡ s → s.answer ≢ 30 → ⊥
not_going r s a e n = n (sym (ap (λ (x : Reply). x.answer) e) ∙ a)

-- the end of a cycle answers 31, 33, 8, 32 or 9
end_answer : (found b : Box) → (end_cycle found b).answer ≡ 30 → ⊥
end_answer found b a = by_ending (ending found b)
  where
    by_ending : Ending found b → ⊥
    by_ending (ends_free h e) = not_going (end_cycle found b) (reply (at_rest b) 31) a e (omega arith)
    by_ending (ends_held h n f e) = not_going (end_cycle found b) (reply (at_rest b) 33) a e (omega arith)
    by_ending (ends_dropped h n f e) = not_going (end_cycle found b) (reply (unheld (at_rest b)) 8) a e (omega arith)
    by_ending (ends_granted h f l r x e) = not_going (end_cycle found b) (reply (granted (at_rest b)) 32) a e (omega arith)
    by_ending (ends_lost h f l x e) = not_going (end_cycle found b) (reply found 9) a e (omega arith)

pub step_left : (b : Box) (g : Ghosts) → Inv b g → (step b).answer ≡ 30 → (g' : Ghosts) → Inv (step b).box g' → left (step b).box g' < left b g
unfolding go_on settle_move
step_left b g v a g' w = by_view (view b)
  where
    leaves : (c : Box) → step b ≡ going c → (Inv c g' → left c g' < left b g) → left (step b).box g' < left b g
    leaves c e f =
        let q : (step b).box ≡ c = ap (λ (r : Reply). r.box) e in
        subst (λ (d : Box). left d g' < left b g) (sym q) (f (subst (λ (d : Box). Inv d g') q w))

    lost : step b ≡ reply b 9 → left (step b).box g' < left b g
    lost e = absurd (not_going (step b) (reply b 9) a e (omega arith))

    ended : (c : Box) → step b ≡ end_cycle b c → left (step b).box g' < left b g
    ended c e = absurd (end_answer b c (sym (ap (λ (r : Reply). r.answer) e) ∙ a))

    by_view : Step b → left (step b).box g' < left b g
    by_view (unsound s e) = lost e
    by_view (nine s r e) = lost e
    by_view (rests s p e) = leaves (rested_box b) e (λ x. left_rests b g (rested_box b) g' v x p refl (search) refl refl)
    by_view (takes_next s p n t e) = leaves (scan b.collector.next (with_next 0 b)) e (λ x. fewer_takes_next b g g' v p n x)
    by_view (shades_root s p n r l x t y f m e) = leaves (shade (handle_of (register r b)) b) e (λ x. fewer_shades_root b g g' v p r l t f x)
    by_view (ends_empty s p n r t e) = ended b e
    by_view (begins_sweep s p n r t e) = leaves (begin_sweep b) e (λ x. fewer_begins_sweep b g g' v p x)
    by_view (scans_data s p i m n e) = leaves (scanned_data_box b) e (λ x. left_scans_data b g (scanned_data_box b) g' v x p p (search) (search) (record {
      size = refl;
      index = refl;
      within = i;
    }))
    by_view (scans_pointer s p i m n e) = leaves (scanned_pointer_box b) e (λ x. left_scans_pointer b g (scanned_pointer_box b) g' v x p refl (search) (search) (record {
      size = refl;
      index = refl;
      within = i;
    }))
    by_view (scan_ends s p i c e) = leaves (to_phase 1 b) e (λ x. fewer_scan_ends b g g' v p x)
    by_view (takes_current s p i n t e) = leaves (scan b.collector.current b) e (λ x. fewer_takes_current b g g' v p n x)
    by_view (adds_marked s p t m e) = leaves (to_phase 2 b) e (λ x. fewer_adds_marked b g g' v p x)
    by_view (adds_unmarked s p t m l e) = leaves (to_phase 2 (shade b.collector.tuple b)) e (λ x. fewer_adds_unmarked b g g' v p m x)
    by_view (keeps_last s p t l m d n e) = ended (kept_last_box b) e
    by_view (keeps s p t l m d n k e) = leaves (kept_box b) e (λ x. left_sweeps_on b g (kept_box b) g' v x p refl (search) refl)
    by_view (starts_move s p t l m d e) = leaves (move_begun_box b) e (λ x. left_starts_move b g (move_begun_box b) g' v x p refl (search) refl refl)
    by_view (releases s p t l m d k e) = leaves (released_box b) e (λ x. left_sweeps_on b g (released_box b) g' v x p refl (search) refl)
    by_view (starts_zero s p t l m d e) = leaves (zero_begun_box b) e (λ x. left_starts_zero b g (zero_begun_box b) g' v x p refl (search) refl refl)
    by_view (copies_low s p i m l e) = leaves (copied_box 7 b) e (λ x. left_copies_low b g (copied_box 7 b) g' v x p refl (search) refl (search))
    by_view (copies_high s p i m l e) = leaves (copied_box 6 b) e (λ x. left_copies_high b g (copied_box 6 b) g' v x p refl (search) refl (search))
    by_view (ends_move s p i t d l n e) = ended (moved_last_box b) e
    by_view (moves_on s p i t d n l e) = leaves (moved_box b) e (λ x. fewer_moves_on b g g' v p x)
    by_view (clears s p m e) = leaves (cleared_box b) e (λ x. fewer_clears b g g' v p x)
    by_view (writes s p m e) = leaves (write_copy b) e (λ x. fewer_writes b g g' v p x)
    by_view (zeroes s p i m e) = leaves (zero_word b) e (λ x. fewer_zeroes b g g' v p i x)
    by_view (zero_ends s p i l n e) = ended (zeroed_last_box b) e
    by_view (zero_on s p i n l e) = leaves (go_on (after b) b) e (λ x. fewer_zero_on b g g' v p x)
