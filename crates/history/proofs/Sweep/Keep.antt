-- A marked tuple that is in place stays there: the transitions of phase 4 that unmark it and settle it, with another tuple behind it
-- and as the last one. The settled gain it at their end, and every group of clauses is read off the invariant before. Assumes nothing.
use Prim.Native.Nat.{ℕ, ◌+◌}
use mathlib.Core.Bool.{true}
use mathlib.Core.List.{List, [], ◌∷◌, ◌++◌}
use mathlib.Core.Logic.{◌≢◌, ◌⊎◌, inl, inr}
use mathlib.Core.Path.{◌≡◌, refl, sym, ◌∙◌, ap, subst}
use native.Mathlib.Omega.{arith}
use lib.ListN.{length-set}
use Rattle.rules.specs.Parts.{Box}
use Rattle.rules.specs.Box.{handle_of, word_at, marked}
use Rattle.rules.specs.Collector.{at_rest}
use Rattle.history.specs.Agreement.{Member}
use Rattle.history.proofs.Invariant.Statement.{Plan, Ghosts, Inv, Laid, marked_rooms, Kept, settled, moving, unswept, surviving, Layout, Zero, Marks, Stage}
use Rattle.history.proofs.Invariant.Words.{word_early}
use Rattle.history.proofs.Lists.Handles.{member_left, member_right, member_cases, perm_ahead_done, perm_done_ahead}
use Rattle.history.proofs.Lists.Laid.{laid_frame, laid_snoc, laid_to, laid_none, marked_rooms_frame}
use Rattle.history.proofs.Invariant.Frame.{SameShape, shape_same, handles_moved, Quiet, quiet_contents, quiet_calm, Next}
use Rattle.history.proofs.Invariant.Resting.{resting_plan}
use Rattle.history.proofs.Sweep.Tuple.{ahead_other, at_src, control_at_src, behind_laid, live_if_marked, unmarked_other, still_unmarked, settled_unmarked}
use Rattle.history.proofs.Sweep.Ghosts.{no_scans, sweep_plan, sweep_ghosts, unlisted, scan_ghosts, Scanned, scanned, next_at, Ended, ended_at, rooms_none, swept_marks, plain_quiet, next_tuple}
use Rattle.rules.proofs.View.Boxes.{kept_box, kept_last_box, swept_after}

-- the plan after it
abbrev kept_plan : Box → List ℕ → List ℕ → Plan
kept_plan b ds hs = sweep_plan (swept_after b) (swept_after b) (ds ++ (b.collector.tuple ∷ [])) hs

-- ---- kept in place, with another tuple behind

module _ (b : Box) (ds hs free : List ℕ) (v : Inv b (scan_ghosts b ds hs free)) (ph : b.collector.phase ≡ 4) (mk : marked b.collector.tuple b ≡ true) (at_dest : b.collector.src ≡ b.collector.dest) where
  keep_shape : SameShape b (kept_box b)
  keep_shape = search length-set

  keep_settled_laid : Laid b 0 (ds ++ (b.collector.tuple ∷ [])) (swept_after b)
  keep_settled_laid =
      laid_snoc b 0 ds b.collector.src b.collector.tuple (laid_to b 0 ds b.collector.dest b.collector.src (sym at_dest) v.layout.done_laid) (at_src b ds hs free v) (control_at_src b ds hs free v)

  keep_layout : Layout (kept_box b) (kept_plan b ds hs)
  keep_layout =
      record {
        done_laid = laid_frame b (kept_box b) 0 (ds ++ (b.collector.tuple ∷ [])) (swept_after b) (λ h x. refl) (λ h x. refl) (λ h x. refl) keep_settled_laid;
        ahead_laid = laid_frame b (kept_box b) (swept_after b) hs b.top (λ h x. refl) (λ h x. refl) (λ h x. refl) (behind_laid b ds hs free v);
        low_base = omega (arith, rooms_none (kept_box b));
        top_fits = v.layout.top_fits;
      }

  keep_live : b.collector.live ≡ swept_after b + marked_rooms b hs
  keep_live = omega (arith, live_if_marked b ds hs free v mk)

  keep_zero : Zero (kept_box b) (swept_after b)
  keep_zero = record { above_top = v.zero_words.above_top; behind = λ a l u. absurd (omega (arith, keep_live)) }

  keep_ahead_rooms : marked_rooms (kept_box b) hs ≡ marked_rooms b hs
  keep_ahead_rooms = marked_rooms_frame b (kept_box b) hs (λ h x. refl) (λ h x. unmarked_other b ds hs free v h (ahead_other b ds hs free v h x))

  keep_marks : Marks (kept_box b) (kept_plan b ds hs) free no_scans
  keep_marks = swept_marks (kept_box b) (kept_plan b ds hs) free (omega arith) (λ h x. still_unmarked b ds hs free v h (v.marks.free_unmarked h x)) (settled_unmarked b ds hs free v) (λ h x. absurd x) (omega (arith, keep_live, keep_ahead_rooms, rooms_none (kept_box b))) v.marks.nexts_chain v.marks.currents_chain

  keep_from : (h : ℕ) → Kept b (scan_ghosts b ds hs free).plan h → Kept (kept_box b) (kept_plan b ds hs) h
  keep_from h (settled x) = settled (member_left h ds (b.collector.tuple ∷ []) x)
  keep_from h (moving x) = absurd x
  keep_from h (unswept x l) = absurd (omega arith)
  keep_from h (surviving (inl e) m) = settled (member_right h ds (b.collector.tuple ∷ []) (inl e))
  keep_from h (surviving (inr x) m) = surviving x (unmarked_other b ds hs free v h (ahead_other b ds hs free v h x) ∙ m)

  -- what is settled afterwards was kept
  settled_before : (h : ℕ) → Member h (ds ++ (b.collector.tuple ∷ [])) → Kept b (scan_ghosts b ds hs free).plan h
  settled_before h x = cases (member_cases h ds (b.collector.tuple ∷ []) x)
    where
      cases : Member h ds ⊎ Member h (b.collector.tuple ∷ []) → Kept b (scan_ghosts b ds hs free).plan h
      cases (inl y) = settled y
      cases (inr (inl e)) = surviving (inl e) (subst (λ (x : ℕ). marked x b ≡ true) (sym e) mk)
      cases (inr (inr y)) = absurd y

  keep_to : (h : ℕ) → Kept (kept_box b) (kept_plan b ds hs) h → Kept b (scan_ghosts b ds hs free).plan h
  keep_to h (settled x) = settled_before h x
  keep_to h (moving x) = absurd x
  keep_to h (unswept x l) = absurd (omega arith)
  keep_to h (surviving x m) = surviving (inr x) (sym (unmarked_other b ds hs free v h (ahead_other b ds hs free v h x)) ∙ m)

  keep_quiet : Quiet b (scan_ghosts b ds hs free).plan (kept_box b) (kept_plan b ds hs)
  keep_quiet = plain_quiet b (scan_ghosts b ds hs free).plan (kept_box b) (kept_plan b ds hs) (λ h i. word_early h i b (omega arith)) (λ h i. word_early h i (kept_box b) (omega arith)) (λ h. refl) (λ h. refl) (λ a. refl) (λ h. refl) (λ r. refl) keep_to keep_from

  keep_stage : swept_after b ≢ b.top → Stage (kept_box b) (sweep_ghosts (swept_after b) (swept_after b) (swept_after b) (ds ++ (b.collector.tuple ∷ [])) hs free)
  keep_stage more =
      let n : (ks : List ℕ) × (hs ≡ handle_of (word_at (swept_after b) b) ∷ ks) = next_tuple b (swept_after b) hs b.top (behind_laid b ds hs free v) more in
      Stage.sweeping refl (unlisted (swept_after b) (swept_after b) (swept_after b) (ds ++ (b.collector.tuple ∷ [])) hs free) refl refl refl refl n.0 n.1

  keeps_at : swept_after b ≢ b.top → Next b (scan_ghosts b ds hs free) (kept_box b)
  keeps_at more =
      record {
        ghosts = sweep_ghosts (swept_after b) (swept_after b) (swept_after b) (ds ++ (b.collector.tuple ∷ [])) hs free;
        inv = record {
          shape = shape_same b (kept_box b) keep_shape v.shape;
          handles = handles_moved b (kept_box b) (scan_ghosts b ds hs free).plan (kept_plan b ds hs) free free (perm_ahead_done b.collector.tuple ds hs free) refl v.handles.free_chain v.handles;
          layout = keep_layout;
          contents = quiet_contents b (scan_ghosts b ds hs free).plan (kept_box b) (kept_plan b ds hs) keep_quiet v.contents;
          zero_words = keep_zero;
          marks = keep_marks;
          stage = keep_stage more;
        };
        calm = quiet_calm b (scan_ghosts b ds hs free).plan (kept_box b) (kept_plan b ds hs) keep_quiet;
      }

pub keeps : (b : Box) (g : Ghosts) → Inv b g → b.collector.phase ≡ 4 → marked b.collector.tuple b ≡ true → b.collector.src ≡ b.collector.dest
    → swept_after b ≢ b.top → Next b g (kept_box b)
keeps b g v ph mk at_dest more =
    let s : Scanned b g = scanned b g v ph in
    next_at b g (scan_ghosts b s.settled_tuples s.behind_it s.free_handles) (kept_box b) s.are (keeps_at b s.settled_tuples s.behind_it s.free_handles s.inv ph mk at_dest more)

-- ---- kept in place as the last tuple

module _ (b : Box) (ds free : List ℕ) (v : Inv b (scan_ghosts b ds [] free)) (ph : b.collector.phase ≡ 4) (mk : marked b.collector.tuple b ≡ true) (at_dest : b.collector.src ≡ b.collector.dest) where
  last_shape : SameShape b (kept_last_box b)
  last_shape = search length-set

  last_laid : Laid (kept_last_box b) 0 (ds ++ (b.collector.tuple ∷ [])) b.top
  last_laid =
      laid_frame b (kept_last_box b) 0 (ds ++ (b.collector.tuple ∷ [])) b.top (λ h x. refl) (λ h x. refl) (λ h x. refl)
      (laid_to b 0 (ds ++ (b.collector.tuple ∷ [])) (swept_after b) b.top (behind_laid b ds [] free v) (keep_settled_laid b ds [] free v ph mk at_dest))

  last_from : (h : ℕ) → Kept b (scan_ghosts b ds [] free).plan h → Kept (at_rest (kept_last_box b)) (resting_plan (ds ++ (b.collector.tuple ∷ []))) h
  unfolding at_rest
  last_from h (settled x) = unswept (member_left h ds (b.collector.tuple ∷ []) x) (omega arith)
  last_from h (moving x) = absurd x
  last_from h (unswept x l) = absurd (omega arith)
  last_from h (surviving x m) = unswept (member_right h ds (b.collector.tuple ∷ []) x) (omega arith)

  last_to : (h : ℕ) → Kept (at_rest (kept_last_box b)) (resting_plan (ds ++ (b.collector.tuple ∷ []))) h → Kept b (scan_ghosts b ds [] free).plan h
  last_to h (settled x) = absurd x
  last_to h (moving x) = absurd x
  last_to h (unswept x l) = settled_before b ds [] free v ph mk at_dest h x
  last_to h (surviving x m) = settled_before b ds [] free v ph mk at_dest h x

  last_quiet : Quiet b (scan_ghosts b ds [] free).plan (at_rest (kept_last_box b)) (resting_plan (ds ++ (b.collector.tuple ∷ [])))
  unfolding at_rest
  last_quiet = plain_quiet b (scan_ghosts b ds [] free).plan (at_rest (kept_last_box b)) (resting_plan (ds ++ (b.collector.tuple ∷ []))) (λ h i. word_early h i b (omega arith)) (λ h i. word_early h i (at_rest (kept_last_box b)) (omega arith)) (λ h. refl) (λ h. refl) (λ a. refl) (λ h. refl) (λ r. refl) last_to last_from

  keeps_last_at : Ended b (scan_ghosts b ds [] free) (kept_last_box b)
  keeps_last_at =
      record {
        left = ds ++ (b.collector.tuple ∷ []);
        free_handles = free;
        finish = record {
          shape = shape_same b (kept_last_box b) last_shape v.shape;
          handles = handles_moved b (kept_last_box b) (scan_ghosts b ds [] free).plan (resting_plan (ds ++ (b.collector.tuple ∷ []))) free free (perm_done_ahead ds (b.collector.tuple ∷ []) free) refl v.handles.free_chain v.handles;
          laid = last_laid;
          top_fits = v.layout.top_fits;
          contents = quiet_contents b (scan_ghosts b ds [] free).plan (at_rest (kept_last_box b)) (resting_plan (ds ++ (b.collector.tuple ∷ []))) last_quiet v.contents;
          above_top = v.zero_words.above_top;
          unmarked = settled_unmarked b ds [] free v;
          free_unmarked = λ h x. still_unmarked b ds [] free v h (v.marks.free_unmarked h x);
          no_next = v.marks.nexts_chain;
          no_current = v.marks.currents_chain;
        };
        calm = quiet_calm b (scan_ghosts b ds [] free).plan (at_rest (kept_last_box b)) (resting_plan (ds ++ (b.collector.tuple ∷ []))) last_quiet;
      }

pub keeps_last : (b : Box) (g : Ghosts) → Inv b g → b.collector.phase ≡ 4 → marked b.collector.tuple b ≡ true → b.collector.src ≡ b.collector.dest
    → swept_after b ≡ b.top → Ended b g (kept_last_box b)
keeps_last b g v ph mk at_dest last =
    let s : Scanned b g = scanned b g v ph in
    let e : s.behind_it ≡ [] = laid_none b (swept_after b) s.behind_it b.top (behind_laid b s.settled_tuples s.behind_it s.free_handles s.inv) last in
    ended_at b g (scan_ghosts b s.settled_tuples [] s.free_handles) (kept_last_box b)
    (s.are ∙ ap (λ (hs : List ℕ). scan_ghosts b s.settled_tuples hs s.free_handles) e)
    (keeps_last_at b s.settled_tuples s.free_handles (subst (λ (hs : List ℕ). Inv b (scan_ghosts b s.settled_tuples hs s.free_handles)) e s.inv) ph mk at_dest)
