-- The moved tuple is settled and more tuples lie ahead: the sweep goes on in phase 4 with the first of them, named by the word
-- where those ahead begin. The settled tuples end with this one, nothing is being moved, and live is the same sum with its terms
-- in other places. Assumes nothing.
use Prim.Native.Nat.{ℕ, ◌+◌, ◌≤◌, ◌<◌}
use mathlib.Core.List.{[], ◌∷◌}
use mathlib.Core.Logic.{◌≢◌}
use mathlib.Core.Path.{◌≡◌, refl, sym, ap, ◌∙◌}
use native.Mathlib.Omega.{arith}
use Rattle.rules.specs.Parts.{Box}
use Rattle.rules.specs.Box.{handle_of, word_at}
use Rattle.history.proofs.Invariant.Statement.{Plan, Ghosts, Inv, Kept, Layout, Zero, Marks, Stage, rooms, settled, moving, unswept, surviving, sweeping}
use Rattle.history.proofs.Lists.Handles.{member_left}
use Rattle.history.proofs.Lists.Laid.{Front, laid_front, laid_to, marked_rooms_frame}
use Rattle.history.proofs.Invariant.Frame.{handles_moved, Quiet, quiet_contents, quiet_calm, Next}
use Rattle.history.proofs.Moving.Tuple.{Bounds, bounds}
use Rattle.history.proofs.Moving.Settling.{Written, settled_perm, now_settled, was_kept, Settles, settled_now, settles_shape, settles_done, settles_ahead, settles_words, settles_unmarked, size_same, mark_same, deep_same, root_same, word_same}
use Rattle.history.proofs.Invariant.Stages.{AtRead, at_read}
use Rattle.rules.proofs.View.Boxes.{moved_box}

abbrev pub left_plan : Box → Ghosts → Plan
left_plan b g = record { done = settled_now b g; mid = []; ahead = g.plan.ahead; low = b.collector.dest + b.collector.size + 1; base = b.collector.src + b.collector.size + 1 }

abbrev pub left_ghosts : Box → Ghosts → Ghosts
left_ghosts b g = record { plan = left_plan b g; free = g.free; scans = g.scans; zeroed = g.zeroed }

-- what of its numbers is read below
record Leaves (b c : Box) : Type 0 where
  settles : Settles b c
  top_same : c.top ≡ b.top
  free_same : c.free ≡ b.free
  live_same : c.collector.live ≡ b.collector.live
  next_same : c.collector.next ≡ b.collector.next
  current_same : c.collector.current ≡ b.collector.current
  phase_is : c.collector.phase ≡ 4
  src_is : c.collector.src ≡ b.collector.src + b.collector.size + 1
  dest_is : c.collector.dest ≡ b.collector.dest + b.collector.size + 1
  tuple_is : c.collector.tuple ≡ handle_of (word_at (b.collector.src + b.collector.size + 1) c)

leaves : (b : Box) → Leaves b (moved_box b)
leaves b =
    record {
      settles = search;
      top_same = refl;
      free_same = refl;
      live_same = refl;
      next_same = refl;
      current_same = refl;
      phase_is = refl;
      src_is = refl;
      dest_is = refl;
      tuple_is = refl;
    }

leaves_quiet : (b c : Box) (g : Ghosts) → Inv b g → Written b g → Leaves b c → Quiet b g.plan c (left_plan b g)
leaves_quiet b c g v t w =
    record {
      kept_to = to;
      kept_from = from;
      roots_same = root_same b c w.settles;
      sizes_same = λ h k. size_same b c w.settles h;
      words_same = settles_words b c g v t w.settles (omega (arith, w.phase_is));
      deeps_same = λ h k. deep_same b c w.settles h;
    }
  where
    to : (h : ℕ) → Kept c (left_plan b g) h → Kept b g.plan h
    to h (settled x) = was_kept b g t.move h x
    to h (moving x) = absurd x
    to h (unswept x l) = absurd (omega (arith, w.phase_is))
    to h (surviving x s) = surviving x (sym (mark_same b c w.settles h) ∙ s)

    from : (h : ℕ) → Kept b g.plan h → Kept c (left_plan b g) h
    from h (settled x) = settled (member_left h g.plan.done (b.collector.tuple ∷ []) x)
    from h (moving x) = settled (now_settled b g t.move h x)
    from h (unswept x l) = absurd (omega (arith, t.in_phase))
    from h (surviving x s) = surviving x (mark_same b c w.settles h ∙ s)

leaves_layout : (b c : Box) (g : Ghosts) → Inv b g → Written b g → Leaves b c → Layout c (left_plan b g)
unfolding rooms
leaves_layout b c g v t w =
    let f : Bounds b g = bounds b g v t.move in
    record {
      done_laid = settles_done b c g v t w.settles;
      ahead_laid = laid_to c (b.collector.src + b.collector.size + 1) g.plan.ahead b.top c.top (sym w.top_same) (settles_ahead b c g v t.move w.settles);
      low_base = omega arith;
      top_fits = rw (w.top_same, w.settles.m_same) v.layout.top_fits;
    }

leaves_zero : (b c : Box) (g : Ghosts) → Inv b g → Leaves b c → Zero c g.zeroed
leaves_zero b c g v w =
    record {
      above_top = λ a u. word_same b c w.settles a ∙ v.zero_words.above_top a (rw w.top_same at u);
      behind = λ a u x. word_same b c w.settles a ∙ v.zero_words.behind a (rw w.live_same at u) x;
    }

leaves_marks : (b c : Box) (g : Ghosts) → Inv b g → Written b g → Leaves b c → Marks c (left_plan b g) g.free g.scans
unfolding rooms
leaves_marks b c g v t w =
    let f : Bounds b g = bounds b g v t.move in
    let s : Settles b c = w.settles in
    let live : c.collector.live ≡ b.collector.live = w.live_same in
    record {
      free_unmarked = λ h x. mark_same b c s h ∙ v.marks.free_unmarked h x;
      done_unmarked = settles_unmarked b c g v t.move s;
      mid_unmarked = λ h x. absurd x;
      live_is = omega (arith, marked_rooms_frame b c g.plan.ahead (λ h x. size_same b c s h) (λ h x. mark_same b c s h));
      nexts_chain = rw (s.links_same, w.next_same) v.marks.nexts_chain;
      currents_chain = rw (s.links_same, w.current_same) v.marks.currents_chain;
      listed_distinct = v.marks.listed_distinct;
      listed_ahead = v.marks.listed_ahead;
      listed_marked = λ h x. mark_same b c s h ∙ v.marks.listed_marked h x;
      listed_deep = λ h x. deep_same b c s h ∙ v.marks.listed_deep h x;
      black = λ l. absurd (late l);
    }
  where
    late : c.collector.phase ≤ 3 → ⊥
    late l = omega (arith, w.phase_is)

leaves_stage : (b c : Box) (g : Ghosts) → Inv b g → Written b g → Leaves b c → g.zeroed ≡ b.collector.src + b.collector.size + 1
    → b.collector.src + b.collector.size + 1 ≢ b.top → Stage c (left_ghosts b g)
leaves_stage b c g v t w z n =
    let f : Front c (b.collector.src + b.collector.size + 1) g.plan.ahead b.top = laid_front c (b.collector.src + b.collector.size + 1) g.plan.ahead b.top (settles_ahead b c g v t.move w.settles) n in
    sweeping w.phase_is
    (record { no_nexts = t.move.unlisted.no_nexts; no_currents = t.move.unlisted.no_currents; no_gray = t.move.unlisted.no_gray })
    refl
    (sym w.dest_is)
    (sym w.src_is)
    (z ∙ sym w.src_is)
    f.rest
    (f.is_cons ∙ ap (λ (h : ℕ). h ∷ f.rest) (f.named ∙ sym w.tuple_is))

leaves_inv : (b c : Box) (g : Ghosts) → Inv b g → Written b g → Leaves b c → g.zeroed ≡ b.collector.src + b.collector.size + 1
    → b.collector.src + b.collector.size + 1 ≢ b.top → Next b g c
leaves_inv b c g v t w z n =
    let q : Quiet b g.plan c (left_plan b g) = leaves_quiet b c g v t w in
    record {
      ghosts = left_ghosts b g;
      inv = record {
        shape = settles_shape b c w.settles v.shape;
        handles = handles_moved b c g.plan (left_plan b g) g.free g.free (settled_perm b g t.move) w.settles.h_same (rw (w.settles.links_same, w.free_same) v.handles.free_chain) v.handles;
        layout = leaves_layout b c g v t w;
        contents = quiet_contents b g.plan c (left_plan b g) q v.contents;
        zero_words = leaves_zero b c g v w;
        marks = leaves_marks b c g v t w;
        stage = leaves_stage b c g v t w z n;
      };
      calm = quiet_calm b g.plan c (left_plan b g) q;
    }

pub moves_on : (b : Box) (g : Ghosts) → Inv b g → b.collector.phase ≡ 5 → b.collector.size < b.collector.index
    → b.collector.src + b.collector.size + 1 ≢ b.top → Next b g (moved_box b)
moves_on b g v p l n =
    let s : AtRead b g = at_read b g v.stage p in
    leaves_inv b (moved_box b) g v (record { move = s.move; in_phase = p; all_written = l }) (leaves b) (omega arith) n
