-- A marked tuple that is not in place begins to be moved: the transition from phase 4 to 5. The tuple leaves those ahead and is the
-- one being moved; with index 0 in phase 5 all its words are still at src. Every group is read off the invariant before. Assumes nothing.
use Prim.Native.Nat.{ℕ, ◌+◌}
use mathlib.Core.Bool.{true, false}
use mathlib.Core.List.{List, [], ◌∷◌}
use mathlib.Core.Logic.{◌≢◌, inl, inr}
use mathlib.Core.Path.{◌≡◌, refl, sym, ◌∙◌, ap, subst}
use native.Mathlib.Omega.{arith}
use lib.ListN.{length-set}
use Rattle.rules.specs.Parts.{Word, Box}
use Rattle.rules.specs.Box.{word_at, address, marked}
use Rattle.history.specs.Agreement.{Member}
use Rattle.history.proofs.Invariant.Statement.{Plan, Ghosts, Inv, word, Control, marked_rooms, Kept, settled, moving, unswept, surviving, Layout, Marks, Move, Stage}
use Rattle.history.proofs.Invariant.Words.{word_early, word_unread}
use Rattle.history.proofs.Lists.Handles.{perm_ahead_mid}
use Rattle.history.proofs.Lists.Laid.{laid_frame, rooms_one, marked_rooms_frame}
use Rattle.history.proofs.Invariant.Frame.{SameShape, shape_same, handles_moved, Quiet, quiet_contents, quiet_calm, Next}
use Rattle.history.proofs.Sweep.Ghosts.{no_scans, scan_ghosts, Scanned, scanned, next_at, swept_marks, plain_quiet}
use Rattle.history.proofs.Sweep.Tuple.{ahead_other, at_src, control_at_src, behind_laid, dest_below_src, live_if_marked, unmarked_here, unmarked_other, still_unmarked}
use Rattle.rules.proofs.View.Boxes.{move_begun_box, swept_after}

abbrev move_begun_plan : Box → List ℕ → List ℕ → Plan
move_begun_plan b ds hs = record { done = ds; mid = b.collector.tuple ∷ []; ahead = hs; low = b.collector.dest; base = swept_after b }

abbrev move_begun_ghosts : Box → List ℕ → List ℕ → List ℕ → Ghosts
move_begun_ghosts b ds hs free = record { plan = move_begun_plan b ds hs; free = free; scans = no_scans; zeroed = b.collector.src }

module _ (b : Box) (ds hs free : List ℕ) (v : Inv b (scan_ghosts b ds hs free)) (ph : b.collector.phase ≡ 4) (mk : marked b.collector.tuple b ≡ true) (away : b.collector.src ≢ b.collector.dest) where
  begun_shape : SameShape b (move_begun_box b)
  begun_shape = search length-set

  begun_layout : Layout (move_begun_box b) (move_begun_plan b ds hs)
  begun_layout =
      record {
        done_laid = laid_frame b (move_begun_box b) 0 ds b.collector.dest (λ h x. refl) (λ h x. refl) (λ h x. refl) v.layout.done_laid;
        ahead_laid = laid_frame b (move_begun_box b) (swept_after b) hs b.top (λ h x. refl) (λ h x. refl) (λ h x. refl) (behind_laid b ds hs free v);
        low_base = omega (arith, rooms_one (move_begun_box b) b.collector.tuple, dest_below_src b ds hs free v);
        top_fits = v.layout.top_fits;
      }

  begun_rooms : marked_rooms (move_begun_box b) hs ≡ marked_rooms b hs
  begun_rooms = marked_rooms_frame b (move_begun_box b) hs (λ h x. refl) (λ h x. unmarked_other b ds hs free v h (ahead_other b ds hs free v h x))

  begun_unmarked : (h : ℕ) → Member h (b.collector.tuple ∷ []) → marked h (move_begun_box b) ≡ false
  begun_unmarked h (inl e) = subst (λ (x : ℕ). marked x (move_begun_box b) ≡ false) (sym e) (unmarked_here b ds hs free v)
  begun_unmarked h (inr x) = absurd x

  begun_marks : Marks (move_begun_box b) (move_begun_plan b ds hs) free no_scans
  begun_marks = swept_marks (move_begun_box b) (move_begun_plan b ds hs) free (omega arith) (λ h x. still_unmarked b ds hs free v h (v.marks.free_unmarked h x)) (λ h x. still_unmarked b ds hs free v h (v.marks.done_unmarked h x)) begun_unmarked (omega (arith, live_if_marked b ds hs free v mk, begun_rooms, rooms_one (move_begun_box b) b.collector.tuple)) v.marks.nexts_chain v.marks.currents_chain

  begun_from : (h : ℕ) → Kept b (scan_ghosts b ds hs free).plan h → Kept (move_begun_box b) (move_begun_plan b ds hs) h
  begun_from h (settled x) = settled x
  begun_from h (moving x) = absurd x
  begun_from h (unswept x l) = absurd (omega arith)
  begun_from h (surviving (inl e) m) = moving (inl e)
  begun_from h (surviving (inr x) m) = surviving x (unmarked_other b ds hs free v h (ahead_other b ds hs free v h x) ∙ m)

  begun_to : (h : ℕ) → Kept (move_begun_box b) (move_begun_plan b ds hs) h → Kept b (scan_ghosts b ds hs free).plan h
  begun_to h (settled x) = settled x
  begun_to h (moving (inl e)) = surviving (inl e) (subst (λ (x : ℕ). marked x b ≡ true) (sym e) mk)
  begun_to h (moving (inr x)) = absurd x
  begun_to h (unswept x l) = absurd (omega arith)
  begun_to h (surviving x m) = surviving (inr x) (sym (unmarked_other b ds hs free v h (ahead_other b ds hs free v h x)) ∙ m)

  -- every word is still at its tuple's address
  begun_plain : (h i : ℕ) → word h i (move_begun_box b) ≡ word_at (address h b + i) b
  begun_plain h i = word_unread h i (move_begun_box b) (omega arith) (omega arith)

  begun_quiet : Quiet b (scan_ghosts b ds hs free).plan (move_begun_box b) (move_begun_plan b ds hs)
  begun_quiet = plain_quiet b (scan_ghosts b ds hs free).plan (move_begun_box b) (move_begun_plan b ds hs) (λ h i. word_early h i b (omega arith)) begun_plain (λ h. refl) (λ h. refl) (λ a. refl) (λ h. refl) (λ r. refl) begun_to begun_from

  begun_control : Control (word b.collector.tuple 0 (move_begun_box b)) b.collector.tuple
  begun_control =
      let first : address b.collector.tuple b + 0 ≡ b.collector.src = omega (arith, at_src b ds hs free v) in
      let e : word b.collector.tuple 0 (move_begun_box b) ≡ word_at b.collector.src b = begun_plain b.collector.tuple 0 ∙ ap (λ (a : ℕ). word_at a b) first in
      subst (λ (w : Word). Control w b.collector.tuple) (sym e) (control_at_src b ds hs free v)

  begun_move : Move (move_begun_box b) (move_begun_ghosts b ds hs free)
  begun_move =
      record {
        unlisted = record { no_nexts = refl; no_currents = refl; no_gray = refl };
        mid_is = refl;
        low_is = refl;
        base_is = refl;
        downward = omega (arith, dest_below_src b ds hs free v);
        src_is = at_src b ds hs free v;
        size_is = refl;
        control = begun_control;
      }

  starts_move_at : Next b (scan_ghosts b ds hs free) (move_begun_box b)
  starts_move_at =
      record {
        ghosts = move_begun_ghosts b ds hs free;
        inv = record {
          shape = shape_same b (move_begun_box b) begun_shape v.shape;
          handles = handles_moved b (move_begun_box b) (scan_ghosts b ds hs free).plan (move_begun_plan b ds hs) free free (perm_ahead_mid b.collector.tuple ds hs free) refl v.handles.free_chain v.handles;
          layout = begun_layout;
          contents = quiet_contents b (scan_ghosts b ds hs free).plan (move_begun_box b) (move_begun_plan b ds hs) begun_quiet v.contents;
          zero_words = record { above_top = v.zero_words.above_top; behind = v.zero_words.behind };
          marks = begun_marks;
          stage = Stage.reading refl begun_move (omega arith) (omega arith);
        };
        calm = quiet_calm b (scan_ghosts b ds hs free).plan (move_begun_box b) (move_begun_plan b ds hs) begun_quiet;
      }

pub starts_move : (b : Box) (g : Ghosts) → Inv b g → b.collector.phase ≡ 4 → marked b.collector.tuple b ≡ true
    → b.collector.src ≢ b.collector.dest → Next b g (move_begun_box b)
starts_move b g v ph mk away =
    let s : Scanned b g = scanned b g v ph in
    next_at b g (scan_ghosts b s.settled_tuples s.behind_it s.free_handles) (move_begun_box b) s.are (starts_move_at b s.settled_tuples s.behind_it s.free_handles s.inv ph mk away)
