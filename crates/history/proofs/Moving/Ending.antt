-- The moved tuple is settled and none lies ahead: top becomes dest and the cycle ends. live is dest then, so the words from dest up
-- to the old top are zero; every tuple left is settled, unmarked and kept, and lies ahead of the box at rest. Assumes nothing.
use Prim.Native.Nat.{ℕ, ◌+◌, ◌≤◌, ◌<◌}
use mathlib.Core.List.{List, [], ◌∷◌, ◌++◌}
use mathlib.Core.Path.{◌≡◌, refl, sym, ap, ◌∙◌, subst}
use native.Mathlib.Decide.{dec_le}
use native.Mathlib.Omega.{arith}
use Rattle.rules.specs.Parts.{Box}
use Rattle.rules.specs.Box.{data_word, word_at}
use Rattle.rules.specs.Collector.{at_rest}
use Rattle.history.specs.Agreement.{Member}
use Rattle.history.proofs.Invariant.Statement.{Ghosts, Inv, all, Move, Kept, marked_rooms, settled, moving, unswept, surviving}
use Rattle.history.proofs.Lists.Handles.{Perm, member_left}
use Rattle.history.proofs.Lists.Chain.{chain_none}
use Rattle.history.proofs.Lists.Laid.{laid_none, laid_to}
use Rattle.history.proofs.Invariant.Frame.{handles_moved, Quiet, quiet_contents, quiet_calm, Calm, Next}
use Rattle.history.proofs.Invariant.Resting.{resting_plan, resting, Finished, finished}
use Rattle.history.proofs.Moving.Tuple.{Bounds, bounds}
use Rattle.history.proofs.Moving.Settling.{Written, settled_perm, now_settled, was_kept, Settles, settled_now, settles_shape, settles_done, settles_words, settles_unmarked, size_same, mark_same, deep_same, root_same, word_same}
use Rattle.history.proofs.Invariant.Stages.{AtRead, at_read}
use Rattle.rules.proofs.View.Boxes.{moved_last_box}

record Ends (b c : Box) : Type 0 where
  settles : Settles b c
  top_is : c.top ≡ b.collector.dest + b.collector.size + 1
  free_same : c.free ≡ b.free
  next_same : c.collector.next ≡ b.collector.next
  current_same : c.collector.current ≡ b.collector.current

ends : (b : Box) → Ends b (moved_last_box b)
ends b =
    record {
      settles = search;
      top_is = refl;
      free_same = refl;
      next_same = refl;
      current_same = refl;
    }

rest_settles : (b c : Box) → Settles b c → Settles b (at_rest c)
unfolding at_rest
rest_settles b c w = search

rest_phase : (c : Box) → (at_rest c).collector.phase ≡ 0
unfolding at_rest
rest_phase c = refl

no_ahead : (b : Box) (g : Ghosts) → Inv b g → Move b g → b.collector.src + b.collector.size + 1 ≡ b.top → g.plan.ahead ≡ []
no_ahead b g v m e = laid_none b g.plan.base g.plan.ahead b.top v.layout.ahead_laid (m.base_is ∙ e)

ends_quiet : (b c : Box) (g : Ghosts) → Inv b g → Written b g → Settles b c → c.collector.phase ≡ 0 → g.plan.ahead ≡ []
    → Quiet b g.plan c (resting_plan (settled_now b g))
ends_quiet b c g v t w p e =
    record {
      kept_to = to;
      kept_from = from;
      roots_same = root_same b c w;
      sizes_same = λ h k. size_same b c w h;
      words_same = settles_words b c g v t w (omega arith);
      deeps_same = λ h k. deep_same b c w h;
    }
  where
    to : (h : ℕ) → Kept c (resting_plan (settled_now b g)) h → Kept b g.plan h
    to h (settled x) = absurd x
    to h (moving x) = absurd x
    to h (unswept x l) = was_kept b g t.move h x
    to h (surviving x s) = was_kept b g t.move h x

    none : (h : ℕ) → Member h g.plan.ahead → ⊥
    none h x = subst (λ (hs : List ℕ). Member h hs) e x

    from : (h : ℕ) → Kept b g.plan h → Kept c (resting_plan (settled_now b g)) h
    from h (settled x) = unswept (member_left h g.plan.done (b.collector.tuple ∷ []) x) (omega arith)
    from h (moving x) = unswept (now_settled b g t.move h x) (omega arith)
    from h (unswept x l) = absurd (none h x)
    from h (surviving x s) = absurd (none h x)

ends_perm : (b : Box) (g : Ghosts) → Move b g → g.plan.ahead ≡ [] → Perm (all g.plan g.free) (settled_now b g ++ g.free)
ends_perm b g m e = subst (λ (hs : List ℕ). Perm (all g.plan g.free) (settled_now b g ++ (hs ++ g.free))) e (settled_perm b g m)

-- nothing lies ahead, so live ends the tuples settled
live_ends : (b : Box) (g : Ghosts) → Inv b g → Move b g → g.plan.ahead ≡ [] → b.collector.live ≡ b.collector.dest + b.collector.size + 1
unfolding marked_rooms
live_ends b g v m e =
    let f : Bounds b g = bounds b g v m in
    let z : marked_rooms b g.plan.ahead ≡ 0 = ap (marked_rooms b) e in
    omega arith

ends_zero : (b c : Box) (g : Ghosts) → Inv b g → Settles b c → b.collector.live ≡ b.collector.dest + b.collector.size + 1
    → g.zeroed ≡ b.top → (a : ℕ) → b.collector.dest + b.collector.size + 1 ≤ a → word_at a c ≡ data_word 0
ends_zero b c g v w l z a u = word_same b c w a ∙ go (dec_le b.top a)
  where
    go : Dec (b.top ≤ a) → word_at a b ≡ data_word 0
    go (yes t) = v.zero_words.above_top a t
    go (no n) = v.zero_words.behind a (omega arith) (omega arith)

ends_box : (b c : Box) (g : Ghosts) → Inv b g → Written b g → Ends b c → g.zeroed ≡ b.top
    → b.collector.src + b.collector.size + 1 ≡ b.top → Finished c (settled_now b g) g.free
ends_box b c g v t w z e =
    let s : Settles b c = w.settles in
    let f : Bounds b g = bounds b g v t.move in
    let none : g.plan.ahead ≡ [] = no_ahead b g v t.move e in
    let fits : b.collector.dest + b.collector.size + 1 ≤ b.m = omega arith in
    record {
      shape = settles_shape b c s v.shape;
      handles = handles_moved b c g.plan (resting_plan (settled_now b g)) g.free g.free (ends_perm b g t.move none) s.h_same (rw (s.links_same, w.free_same) v.handles.free_chain) v.handles;
      laid = laid_to c 0 (settled_now b g) (b.collector.dest + b.collector.size + 1) c.top (sym w.top_is) (settles_done b c g v t s);
      top_fits = rw (w.top_is, s.m_same) fits;
      contents = quiet_contents b g.plan (at_rest c) (resting_plan (settled_now b g)) (ends_quiet b (at_rest c) g v t (rest_settles b c s) (rest_phase c) none) v.contents;
      above_top = λ a u. ends_zero b c g v s (live_ends b g v t.move none) z a (rw w.top_is at u);
      unmarked = settles_unmarked b c g v t.move s;
      free_unmarked = λ h x. mark_same b c s h ∙ v.marks.free_unmarked h x;
      no_next = w.next_same ∙ chain_none b.directory.links b.collector.next g.scans.nexts v.marks.nexts_chain t.move.unlisted.no_nexts;
      no_current = w.current_same ∙ chain_none b.directory.links b.collector.current g.scans.currents v.marks.currents_chain t.move.unlisted.no_currents;
    }

-- every tuple is settled, in the box that the end of the cycle takes
pub ends_finished : (b : Box) (g : Ghosts) → Inv b g → b.collector.phase ≡ 5 → b.collector.size < b.collector.index → b.collector.src + b.collector.size + 1 ≡ b.top
    → Finished (moved_last_box b) (g.plan.done ++ (b.collector.tuple ∷ [])) g.free
ends_finished b g v p l e =
    let s : AtRead b g = at_read b g v.stage p in
    ends_box b (moved_last_box b) g v (record { move = s.move; in_phase = p; all_written = l }) (ends b) (omega arith) e

-- and what is kept of the box at rest is as it was
pub ends_calm : (b : Box) (g : Ghosts) → Inv b g → b.collector.phase ≡ 5 → b.collector.size < b.collector.index → b.collector.src + b.collector.size + 1 ≡ b.top
    → Calm b g.plan (at_rest (moved_last_box b)) (resting_plan (g.plan.done ++ (b.collector.tuple ∷ [])))
ends_calm b g v p l e =
    let m : Move b g = (at_read b g v.stage p).move in
    quiet_calm b g.plan (at_rest (moved_last_box b)) (resting_plan (settled_now b g)) (ends_quiet b (at_rest (moved_last_box b)) g v (record {
      move = m;
      in_phase = p;
      all_written = l;
    }) (rest_settles b (moved_last_box b) (ends b).settles) (rest_phase (moved_last_box b)) (no_ahead b g v m e))

pub ends_move : (b : Box) (g : Ghosts) → Inv b g → b.collector.phase ≡ 5 → b.collector.size < b.collector.index → b.collector.src + b.collector.size + 1 ≡ b.top
    → Next b g (at_rest (moved_last_box b))
ends_move b g v p l e =
    record {
      ghosts = resting (settled_now b g) g.free;
      inv = finished (moved_last_box b) (settled_now b g) g.free (ends_finished b g v p l e);
      calm = ends_calm b g v p l e;
    }
