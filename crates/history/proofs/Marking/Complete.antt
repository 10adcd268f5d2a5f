-- Marking ends: every register's tuple is marked and no tuple waits for a scan, so the marked tuples are closed under pointers and
-- become the kept ones, and the sweep begins at word 0. With no tuple at all the cycle ends at once. Assumes nothing.
use Prim.Native.Nat.{ℕ, ◌+◌, ◌≤◌, ◌<◌}
use mathlib.Core.Bool.{true}
use mathlib.Core.List.{List, [], ◌∷◌, ◌++◌}
use mathlib.Core.Logic.{◌≢◌}
use mathlib.Core.Path.{◌≡◌, refl, sym, ◌∙◌, ap, subst}
use native.Mathlib.Omega.{arith}
use Rattle.rules.specs.Parts.{Word, Box}
use Rattle.rules.specs.Box.{handle_of, names_tuple, word_at, register, size_of, marked, deep}
use Rattle.rules.specs.Collector.{at_rest, begin_sweep}
use Rattle.history.specs.Agreement.{Member}
use Rattle.history.proofs.Invariant.Statement.{Plan, Ghosts, Inv, all, word, Kept, settled, moving, unswept, surviving, Handles, Contents, Unswept, Unlisted, sweeping}
use Rattle.history.proofs.Lists.Handles.{member_left, member_right, perm_equal}
use Rattle.history.proofs.Lists.Chain.{chain_empty, chain_none}
use Rattle.history.proofs.Lists.Laid.{Front, laid_front, laid_from, laid_none}
use Rattle.history.proofs.Invariant.Frame.{handles_moved, marks_same, Calm}
use Rattle.history.proofs.Invariant.Resting.{resting_plan, resting, Finished, finished, none_kept}
use Rattle.history.proofs.Invariant.Stages.{Finds, finds_of, kept_ahead, ahead_entry}
use Rattle.history.proofs.Marking.Alike.{Alike, alike_collector, register_alike, word_alike, shape_alike, handles_alike, layout_alike, zero_unswept, kept_alike, Onward}
use Rattle.history.proofs.Marking.Start.{listed_none}
use Rattle.rules.proofs.View.Step.{RootsMarked}

-- with next 0, in phase 1, no tuple waits for a scan
pub none_listed : (b : Box) (g : Ghosts) → Inv b g → b.collector.phase ≡ 1 → b.collector.next ≡ 0 → Unlisted g
none_listed b g i e z =
    record {
      no_nexts = chain_empty b.directory.links b.collector.next g.scans.nexts i.marks.nexts_chain least z;
      no_currents = f.no_currents;
      no_gray = f.no_gray;
    }
  where
    f : Finds b g
    f = finds_of b g i.stage e

    least : (h : ℕ) → Member h g.scans.nexts → 1 ≤ h
    least h m = (ahead_entry b g.plan g.free h i.handles (i.marks.listed_ahead h (member_right h g.scans.gray (g.scans.nexts ++ g.scans.currents) (member_left h g.scans.nexts g.scans.currents m)))).0

-- ---- the sweep begins

begin_alike : (b : Box) → Alike b (begin_sweep b)
unfolding begin_sweep
begin_alike b = alike_collector b (begin_sweep b).collector (begin_sweep b).hold refl refl

-- the kept tuples are the marked ones
begin_marked : (b : Box) (g : Ghosts) (h : ℕ) → Unswept g → Kept (begin_sweep b) g.plan h → marked h b ≡ true
unfolding begin_sweep
begin_marked b g h u (settled x) = absurd (subst (λ (hs : List ℕ). Member h hs) u.no_done x)
begin_marked b g h u (moving x) = absurd (subst (λ (hs : List ℕ). Member h hs) u.no_mid x)
begin_marked b g h u (unswept x l) = absurd (omega arith)
begin_marked b g h u (surviving x t) = t

begin_contents : (b : Box) (g : Ghosts) → Inv b g → b.collector.phase ≡ 1 → b.collector.next ≡ 0 → RootsMarked b → Contents (begin_sweep b) g.plan
unfolding begin_sweep
begin_contents b g i e z roots =
    record {
      roots_kept = λ r l n. surviving (kept_ahead b g (handle_of (register r b)) u (i.contents.roots_kept r l n)) (roots r l n).1;
      words_kept = inside;
    }
  where
    c : Box
    c = begin_sweep b

    u : Unswept g
    u = (finds_of b g i.stage e).unswept_yet

    closed : (h : ℕ) → Kept c g.plan h → (k : ℕ) → k < size_of h b → names_tuple (word h (k + 1) b) ≡ true
        → Kept c g.plan (handle_of (word h (k + 1) b)) × (deep h b ≡ true)
    closed h x k l n =
        let y : Member h g.plan.ahead = kept_ahead c g h u x in
        let w : Kept b g.plan (handle_of (word h (k + 1) b)) × (deep h b ≡ true) = i.contents.words_kept h (unswept y (omega arith)) k l n in
        let t : marked (handle_of (word h (k + 1) b)) b ≡ true = i.marks.black (omega arith) h y (begin_marked b g h u x) (λ m. subst (λ (hs : List ℕ). Member h hs) (listed_none g (none_listed b g i e z)) m) k l n in
        (surviving (kept_ahead b g (handle_of (word h (k + 1) b)) u w.0) t, w.1)

    inside : (h : ℕ) → Kept c g.plan h → (k : ℕ) → k < size_of h b → names_tuple (word h (k + 1) c) ≡ true
        → Kept c g.plan (handle_of (word h (k + 1) c)) × (deep h b ≡ true)
    inside h x k l = subst (λ (w : Word). names_tuple w ≡ true → Kept c g.plan (handle_of w) × (deep h b ≡ true)) (sym (word_alike b c (begin_alike b) (omega arith) (omega arith) h (k + 1))) (closed h x k l)

pub begins_sweep_onward : (b : Box) (g : Ghosts) → Inv b g → b.collector.phase ≡ 1 → b.collector.next ≡ 0 → RootsMarked b → b.top ≢ 0
    → Onward b g (begin_sweep b) g.scans
unfolding begin_sweep
begins_sweep_onward b g i e z roots t =
    record {
      inv = record {
        shape = shape_alike b c a i.shape;
        handles = handles_alike b c g.plan g.free a i.handles.free_chain i.handles;
        layout = layout_alike b c g.plan a i.layout;
        contents = begin_contents b g i e z roots;
        zero_words = zero_unswept b c g.zeroed a u.zeroed_zero i.zero_words;
        marks = marks_same b c g.plan g.free g.scans (λ h. refl) (λ h. refl) (λ h. refl) refl refl refl refl (λ l. absurd (omega arith)) (λ l. absurd (omega arith)) i.marks;
        stage = sweeping refl (none_listed b g i e z) u.no_mid u.low_zero u.base_zero u.zeroed_zero front.rest first_is;
      };
      calm = record {
        kept_to = kept_alike c b g.plan (omega arith);
        roots_same = register_alike b c a;
        sizes_same = λ h x. refl;
        words_same = λ h x j l. word_alike b c a (omega arith) (omega arith) h j;
      };
    }
  where
    c : Box
    c = begin_sweep b

    a : Alike b c
    a = begin_alike b

    u : Unswept g
    u = (finds_of b g i.stage e).unswept_yet

    front : Front b 0 g.plan.ahead b.top
    front = laid_front b 0 g.plan.ahead b.top (laid_from b g.plan.base 0 g.plan.ahead b.top u.base_zero i.layout.ahead_laid) (λ q. t (sym q))

    first_is : g.plan.ahead ≡ handle_of (word_at 0 b) ∷ front.rest
    first_is = front.is_cons ∙ ap (λ (h : ℕ). h ∷ front.rest) front.named

-- ---- nothing to sweep

-- with top 0 there is no tuple
pub none_ahead : (b : Box) (g : Ghosts) → Inv b g → Unswept g → b.top ≡ 0 → g.plan.ahead ≡ []
none_ahead b g i u t = laid_none b g.plan.base g.plan.ahead b.top i.layout.ahead_laid (u.base_zero ∙ sym t)

-- so every handle is free
none_handles : (b : Box) (g : Ghosts) → Inv b g → Unswept g → b.top ≡ 0 → Handles b (resting_plan []) g.free
none_handles b g i u t = handles_moved b b g.plan (resting_plan []) g.free g.free (perm_equal same) refl i.handles.free_chain i.handles
  where
    same : all g.plan g.free ≡ g.free
    same = rw (u.no_done, u.no_mid, none_ahead b g i u t)

none_contents : (b : Box) (g : Ghosts) → Inv b g → Unswept g → b.top ≡ 0 → Contents (at_rest b) (resting_plan [])
unfolding at_rest
none_contents b g i u t =
    record {
      roots_kept = λ r l n. absurd (subst (λ (hs : List ℕ). Member (handle_of (register r b)) hs) (none_ahead b g i u t) (kept_ahead b g (handle_of (register r b)) u (i.contents.roots_kept r l n)));
      words_kept = λ h x. absurd (none_kept (at_rest b) h x);
    }

pub ends_empty_finished : (b : Box) (g : Ghosts) → Inv b g → b.collector.phase ≡ 1 → b.collector.next ≡ 0 → b.top ≡ 0 → Finished b [] g.free
ends_empty_finished b g i e z t =
    record {
      shape = i.shape;
      handles = none_handles b g i u t;
      laid = sym t;
      top_fits = i.layout.top_fits;
      contents = none_contents b g i u t;
      above_top = i.zero_words.above_top;
      unmarked = λ h x. absurd x;
      free_unmarked = i.marks.free_unmarked;
      no_next = z;
      no_current = chain_none b.directory.links b.collector.current g.scans.currents i.marks.currents_chain (finds_of b g i.stage e).no_currents;
    }
  where
    u : Unswept g
    u = (finds_of b g i.stage e).unswept_yet

pub ends_empty_inv : (b : Box) (g : Ghosts) → Inv b g → b.collector.phase ≡ 1 → b.collector.next ≡ 0 → b.top ≡ 0 → Inv (at_rest b) (resting [] g.free)
ends_empty_inv b g i e z t = finished b [] g.free (ends_empty_finished b g i e z t)

pub ends_empty_calm : (b : Box) (p : Plan) → Calm b p (at_rest b) (resting_plan [])
unfolding at_rest
ends_empty_calm b p =
    record {
      kept_to = λ h x. absurd (none_kept (at_rest b) h x);
      roots_same = λ r. refl;
      sizes_same = λ h x. refl;
      words_same = λ h x. absurd (none_kept (at_rest b) h x);
    }
