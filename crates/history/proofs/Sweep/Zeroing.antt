-- Phase 8: the words of a freed tuple become data 0, one by one, and behind it the sweep goes on or the cycle ends. The word that is
-- written lies between what is settled and what lies ahead, so no kept tuple has it. Every group is read off the invariant before.
-- Assumes nothing.
use Prim.Native.Nat.{ℕ, ◌+◌, ◌≤◌, ◌<◌}
use mathlib.Core.Bool.{true}
use mathlib.Core.List.{List, [], ◌∷◌, ◌++◌}
use mathlib.Core.Logic.{◌≢◌, ◌⊎◌, inl, inr}
use mathlib.Core.Path.{◌≡◌, refl, sym, ◌∙◌, ap, subst}
use native.Mathlib.Decide.{ℕ_discrete, dec_lt}
use native.Mathlib.Omega.{arith}
use lib.ListN.{length-set}
use Rattle.rules.specs.Parts.{Box, with_index, with_phase, with_src, with_tuple}
use Rattle.rules.specs.Box.{data_word, handle_of, word_at, put, address, size_of, marked}
use Rattle.rules.specs.Collector.{after, at_rest}
use Rattle.history.specs.Agreement.{Member}
use Rattle.history.proofs.Invariant.Statement.{Ghosts, Inv, Kept, settled, moving, unswept, surviving, Layout, Zero, Stage}
use Rattle.history.proofs.Invariant.Words.{word_early, word_late, put_same, put_other}
use Rattle.history.proofs.Lists.Handles.{perm_refl}
use Rattle.history.proofs.Lists.Laid.{laid_le, laid_bounds, laid_frame, laid_words, laid_none}
use Rattle.history.proofs.Invariant.Frame.{SameShape, shape_same, handles_same, handles_moved, layout_same, marks_same, kept_same, Quiet, quiet_contents, quiet_calm, Next}
use Rattle.history.proofs.Invariant.Resting.{resting_plan}
use Rattle.history.proofs.Sweep.Ghosts.{no_scans, sweep_ghosts, unlisted, zero_ghosts, Zeroed, zeroed_view, next_at, Ended, ended_at, rooms_none, marked_rooms_nil, live_swept, kept_swept, plain_quiet, next_tuple}
use Rattle.rules.proofs.View.Boxes.{zeroed_last_box}

-- ---- a word becomes data 0

abbrev pub zeroed_box : Box → Box
zeroed_box b = put (b.collector.src + b.collector.index) (data_word 0) (with_index (b.collector.index + 1) b)

module _ (b : Box) (ds hs free : List ℕ) (v : Inv b (zero_ghosts b ds hs free)) (ph : b.collector.phase ≡ 8) (order : b.collector.dest ≤ b.collector.src) (turn : b.collector.index ≤ b.collector.size) where
  -- the word lies below those ahead, and in memory
  zeroed_below_top : b.collector.src + b.collector.size + 1 ≤ b.top
  zeroed_below_top = laid_le b (b.collector.src + b.collector.size + 1) hs b.top v.layout.ahead_laid

  zeroed_other : (x : ℕ) → x ≢ b.collector.src + b.collector.index → word_at x (zeroed_box b) ≡ word_at x b
  zeroed_other x n = put_other (b.collector.src + b.collector.index) (data_word 0) b x n

  zeroed_here : word_at (b.collector.src + b.collector.index) (zeroed_box b) ≡ data_word 0
  zeroed_here = put_same (b.collector.src + b.collector.index) (data_word 0) b (omega (arith, zeroed_below_top, v.layout.top_fits, v.shape.words_length)) (omega (arith, zeroed_below_top, v.layout.top_fits, v.shape.flags_length))

  zeroed_shape : SameShape b (zeroed_box b)
  zeroed_shape = search length-set

  zeroed_layout : Layout (zeroed_box b) (zero_ghosts b ds hs free).plan
  zeroed_layout =
      record {
        done_laid = laid_words b (zeroed_box b) 0 ds b.collector.dest (λ h x. refl) (λ h x. refl) (λ x l u. zeroed_other x (omega arith)) v.layout.done_laid;
        ahead_laid = laid_words b (zeroed_box b) (b.collector.src + b.collector.size + 1) hs b.top (λ h x. refl) (λ h x. refl) (λ x l u. zeroed_other x (omega arith)) v.layout.ahead_laid;
        low_base = omega (arith, rooms_none (zeroed_box b));
        top_fits = v.layout.top_fits;
      }

  zeroed_zero : Zero (zeroed_box b) (b.collector.src + (b.collector.index + 1))
  zeroed_zero =
      record {
        above_top = λ a l. zeroed_other a (omega (arith, zeroed_below_top)) ∙ v.zero_words.above_top a l;
        behind = λ a l u. cases a l u (ℕ_discrete a (b.collector.src + b.collector.index));
      }
    where
      cases : (a : ℕ) → b.collector.live ≤ a → a < b.collector.src + (b.collector.index + 1) → Dec (a ≡ b.collector.src + b.collector.index)
          → word_at a (zeroed_box b) ≡ data_word 0
      cases a l u (yes e) = subst (λ (x : ℕ). word_at x (zeroed_box b) ≡ data_word 0) (sym e) zeroed_here
      cases a l u (no n) = zeroed_other a n ∙ v.zero_words.behind a l (omega arith)

  -- no word of a kept tuple is there
  zeroed_apart : (h : ℕ) → Kept b (zero_ghosts b ds hs free).plan h → (i : ℕ) → i ≤ size_of h b → address h b + i ≢ b.collector.src + b.collector.index
  zeroed_apart h k i l = cases (kept_swept b b.collector.dest (b.collector.src + b.collector.size + 1) ds hs (omega arith) h k)
    where
      cases : Member h ds ⊎ (Member h hs × (marked h b ≡ true)) → address h b + i ≢ b.collector.src + b.collector.index
      cases (inl x) = omega (arith, laid_bounds b 0 ds b.collector.dest v.layout.done_laid h x)
      cases (inr x) = omega (arith, laid_bounds b (b.collector.src + b.collector.size + 1) hs b.top v.layout.ahead_laid h x.0)

  zeroed_quiet : Quiet b (zero_ghosts b ds hs free).plan (zeroed_box b) (zero_ghosts b ds hs free).plan
  zeroed_quiet =
      record {
        kept_to = kept_same (zeroed_box b) b (zero_ghosts b ds hs free).plan (λ l. l) (λ h m. m);
        kept_from = kept_same b (zeroed_box b) (zero_ghosts b ds hs free).plan (λ l. l) (λ h m. m);
        roots_same = λ r. refl;
        sizes_same = λ h k. refl;
        words_same = λ h k i l. word_late h i (zeroed_box b) (omega arith) ∙ zeroed_other (address h b + i) (zeroed_apart h k i l) ∙ sym (word_late h i b (omega arith));
        deeps_same = λ h k. refl;
      }

  zeroes_at : Next b (zero_ghosts b ds hs free) (zeroed_box b)
  zeroes_at =
      record {
        ghosts = sweep_ghosts b.collector.dest (b.collector.src + b.collector.size + 1) (b.collector.src + (b.collector.index + 1)) ds hs free;
        inv = record {
          shape = shape_same b (zeroed_box b) zeroed_shape v.shape;
          handles = handles_same b (zeroed_box b) (zero_ghosts b ds hs free).plan free refl v.handles.free_chain v.handles;
          layout = zeroed_layout;
          contents = quiet_contents b (zero_ghosts b ds hs free).plan (zeroed_box b) (zero_ghosts b ds hs free).plan zeroed_quiet v.contents;
          zero_words = zeroed_zero;
          marks = marks_same b (zeroed_box b) (zero_ghosts b ds hs free).plan free no_scans (λ h. refl) (λ h. refl) (λ h. refl) refl refl refl refl (λ l. l) (λ l. absurd (omega arith)) v.marks;
          stage = Stage.zeroing ph (unlisted b.collector.dest (b.collector.src + b.collector.size + 1) (b.collector.src + (b.collector.index + 1)) ds hs free) refl refl refl order (omega arith) refl;
        };
        calm = quiet_calm b (zero_ghosts b ds hs free).plan (zeroed_box b) (zero_ghosts b ds hs free).plan zeroed_quiet;
      }

pub zeroes : (b : Box) (g : Ghosts) → Inv b g → b.collector.phase ≡ 8 → b.collector.index ≤ b.collector.size → Next b g (zeroed_box b)
zeroes b g v ph turn =
    let s : Zeroed b g = zeroed_view b g v ph in
    next_at b g (zero_ghosts b s.settled_tuples s.behind_it s.free_handles) (zeroed_box b) s.are (zeroes_at b s.settled_tuples s.behind_it s.free_handles s.inv ph s.dest_src turn)

-- ---- behind the tuple the sweep goes on

abbrev pub zero_on_box : Box → Box
zero_on_box b = with_src (after b) (with_tuple (handle_of (word_at (after b) b)) (with_phase 4 b))

module _ (b : Box) (ds hs free : List ℕ) (v : Inv b (zero_ghosts b ds hs free)) (ph : b.collector.phase ≡ 8) (through : b.collector.index ≡ b.collector.size + 1) (more : after b ≢ b.top) where
  zero_on_shape : SameShape b (zero_on_box b)
  zero_on_shape = search

  zero_on_quiet : Quiet b (zero_ghosts b ds hs free).plan (zero_on_box b) (zero_ghosts b ds hs free).plan
  zero_on_quiet =
      plain_quiet b (zero_ghosts b ds hs free).plan (zero_on_box b) (zero_ghosts b ds hs free).plan (λ h i. word_late h i b (omega arith)) (λ h i. word_early h i (zero_on_box b) (omega arith)) (λ h. refl) (λ h. refl) (λ a. refl) (λ h. refl) (λ r. refl)
      (kept_same (zero_on_box b) b (zero_ghosts b ds hs free).plan (λ l. absurd (omega arith)) (λ h m. m)) (kept_same b (zero_on_box b) (zero_ghosts b ds hs free).plan (λ l. absurd (omega arith)) (λ h m. m))

  zero_on_stage : Stage (zero_on_box b) (sweep_ghosts b.collector.dest (after b) (after b) ds hs free)
  zero_on_stage =
      let n : (ks : List ℕ) × (hs ≡ handle_of (word_at (after b) b) ∷ ks) = next_tuple b (after b) hs b.top v.layout.ahead_laid more in
      Stage.sweeping refl (unlisted b.collector.dest (after b) (after b) ds hs free) refl refl refl refl n.0 n.1

  zero_on_at : Next b (zero_ghosts b ds hs free) (zero_on_box b)
  zero_on_at =
      record {
        ghosts = sweep_ghosts b.collector.dest (after b) (after b) ds hs free;
        inv = record {
          shape = shape_same b (zero_on_box b) zero_on_shape v.shape;
          handles = handles_same b (zero_on_box b) (zero_ghosts b ds hs free).plan free refl v.handles.free_chain v.handles;
          layout = layout_same b (zero_on_box b) (zero_ghosts b ds hs free).plan (λ h. refl) (λ h. refl) (λ a. refl) refl refl v.layout;
          contents = quiet_contents b (zero_ghosts b ds hs free).plan (zero_on_box b) (zero_ghosts b ds hs free).plan zero_on_quiet v.contents;
          zero_words = record { above_top = v.zero_words.above_top; behind = λ a l u. v.zero_words.behind a l (omega arith) };
          marks = marks_same b (zero_on_box b) (zero_ghosts b ds hs free).plan free no_scans (λ h. refl) (λ h. refl) (λ h. refl) refl refl refl refl (λ l. absurd (omega arith)) (λ l. absurd (omega arith)) v.marks;
          stage = zero_on_stage;
        };
        calm = quiet_calm b (zero_ghosts b ds hs free).plan (zero_on_box b) (zero_ghosts b ds hs free).plan zero_on_quiet;
      }

pub zero_on : (b : Box) (g : Ghosts) → Inv b g → b.collector.phase ≡ 8 → b.collector.size < b.collector.index → after b ≢ b.top → Next b g (zero_on_box b)
zero_on b g v ph past more =
    let s : Zeroed b g = zeroed_view b g v ph in
    let through : b.collector.index ≡ b.collector.size + 1 = omega (arith, s.index_most) in
    next_at b g (zero_ghosts b s.settled_tuples s.behind_it s.free_handles) (zero_on_box b) s.are (zero_on_at b s.settled_tuples s.behind_it s.free_handles s.inv ph through more)

-- ---- it was the last: top is dest, and the cycle ends

module _ (b : Box) (ds free : List ℕ) (v : Inv b (zero_ghosts b ds [] free)) (ph : b.collector.phase ≡ 8) (order : b.collector.dest ≤ b.collector.src) (through : b.collector.index ≡ b.collector.size + 1) where
  zeroed_last_shape : SameShape b (zeroed_last_box b)
  zeroed_last_shape = search

  -- live is dest, and all from there on is data 0
  zeroed_last_live : b.collector.live ≡ b.collector.dest
  zeroed_last_live = omega (arith, live_swept b b.collector.dest (b.collector.src + b.collector.size + 1) ds [] free v.marks, marked_rooms_nil b)

  zeroed_last_above : (a : ℕ) → b.collector.dest ≤ a → word_at a b ≡ data_word 0
  zeroed_last_above a l = cases (dec_lt a (b.collector.src + b.collector.index))
    where
      cases : Dec (a < b.collector.src + b.collector.index) → word_at a b ≡ data_word 0
      cases (yes u) = v.zero_words.behind a (omega (arith, zeroed_last_live)) u
      cases (no n) = v.zero_words.above_top a (omega (arith, v.layout.ahead_laid))

  zeroed_last_from : (h : ℕ) → Kept b (zero_ghosts b ds [] free).plan h → Kept (at_rest (zeroed_last_box b)) (resting_plan ds) h
  unfolding at_rest
  zeroed_last_from h (settled x) = unswept x (omega arith)
  zeroed_last_from h (moving x) = absurd x
  zeroed_last_from h (unswept x l) = absurd x
  zeroed_last_from h (surviving x m) = absurd x

  zeroed_last_to : (h : ℕ) → Kept (at_rest (zeroed_last_box b)) (resting_plan ds) h → Kept b (zero_ghosts b ds [] free).plan h
  zeroed_last_to h (settled x) = absurd x
  zeroed_last_to h (moving x) = absurd x
  zeroed_last_to h (unswept x l) = settled x
  zeroed_last_to h (surviving x m) = settled x

  zeroed_last_quiet : Quiet b (zero_ghosts b ds [] free).plan (at_rest (zeroed_last_box b)) (resting_plan ds)
  unfolding at_rest
  zeroed_last_quiet = plain_quiet b (zero_ghosts b ds [] free).plan (at_rest (zeroed_last_box b)) (resting_plan ds) (λ h i. word_late h i b (omega arith)) (λ h i. word_early h i (at_rest (zeroed_last_box b)) (omega arith)) (λ h. refl) (λ h. refl) (λ a. refl) (λ h. refl) (λ r. refl) zeroed_last_to zeroed_last_from

  zero_ends_at : Ended b (zero_ghosts b ds [] free) (zeroed_last_box b)
  zero_ends_at =
      record {
        left = ds;
        free_handles = free;
        finish = record {
          shape = shape_same b (zeroed_last_box b) zeroed_last_shape v.shape;
          handles = handles_moved b (zeroed_last_box b) (zero_ghosts b ds [] free).plan (resting_plan ds) free free (perm_refl (ds ++ free)) refl v.handles.free_chain v.handles;
          laid = laid_frame b (zeroed_last_box b) 0 ds b.collector.dest (λ h x. refl) (λ h x. refl) (λ h x. refl) v.layout.done_laid;
          top_fits = omega (arith, order, v.layout.ahead_laid, v.layout.top_fits);
          contents = quiet_contents b (zero_ghosts b ds [] free).plan (at_rest (zeroed_last_box b)) (resting_plan ds) zeroed_last_quiet v.contents;
          above_top = zeroed_last_above;
          unmarked = v.marks.done_unmarked;
          free_unmarked = v.marks.free_unmarked;
          no_next = v.marks.nexts_chain;
          no_current = v.marks.currents_chain;
        };
        calm = quiet_calm b (zero_ghosts b ds [] free).plan (at_rest (zeroed_last_box b)) (resting_plan ds) zeroed_last_quiet;
      }

pub zero_ends : (b : Box) (g : Ghosts) → Inv b g → b.collector.phase ≡ 8 → b.collector.size < b.collector.index → after b ≡ b.top → Ended b g (zeroed_last_box b)
zero_ends b g v ph past last =
    let s : Zeroed b g = zeroed_view b g v ph in
    let through : b.collector.index ≡ b.collector.size + 1 = omega (arith, s.index_most) in
    let e : s.behind_it ≡ [] = laid_none b (after b) s.behind_it b.top s.inv.layout.ahead_laid last in
    ended_at b g (zero_ghosts b s.settled_tuples [] s.free_handles) (zeroed_last_box b)
    (s.are ∙ ap (λ (hs : List ℕ). zero_ghosts b s.settled_tuples hs s.free_handles) e)
    (zero_ends_at b s.settled_tuples s.free_handles (subst (λ (hs : List ℕ). Inv b (zero_ghosts b s.settled_tuples hs s.free_handles)) e s.inv) ph s.dest_src through)
