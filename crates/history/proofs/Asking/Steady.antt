-- A request that makes no tuple leaves the collector's numbers, lists, marks and layout as they were, and changes at most words of
-- tuples, each to one whose target is marked where that matters. Then the marks and the stage hold as before: each clause is
-- carried over by the equations. Assumes nothing.
use Prim.Native.Nat.{ℕ, ◌+◌, ◌≤◌, ◌<◌}
use mathlib.Core.Bool.{true}
use mathlib.Core.List.{List, [], ◌∷◌, ◌++◌}
use mathlib.Core.Logic.{◌⊎◌, inl, inr}
use mathlib.Core.Path.{◌≡◌, refl, sym, ap, ap₂, ◌∙◌, subst}
use native.Mathlib.Omega.{arith}
use Rattle.rules.specs.Parts.{Word, Box}
use Rattle.rules.specs.Box.{handle_of, names_tuple, address, size_of, marked, deep}
use Rattle.history.specs.Agreement.{Member}
use Rattle.history.proofs.Invariant.Statement.{Plan, Scans, Ghosts, Inv, listed, word, rooms, marked_rooms, Control, Kept, moving, unswept, Shape, Handles, Layout, Contents, Zero, Marks, Scan, Move, Stage, at_rest, finding, scanning, adding, sweeping, reading, clearing, writing, zeroing}
use Rattle.history.proofs.Lists.Handles.{member_left}
use Rattle.history.proofs.Lists.Laid.{rooms_frame, marked_rooms_frame}
use Rattle.history.proofs.Invariant.Frame.{handles_same, kept_same}

-- what the collector goes by is as it was
pub record Steady (b c : Box) : Type 0 where
  pub address_same : (h : ℕ) → address h c ≡ address h b
  pub size_same : (h : ℕ) → size_of h c ≡ size_of h b
  pub marked_same : (h : ℕ) → marked h c ≡ marked h b
  pub links_same : c.directory.links ≡ b.directory.links
  pub m_same : c.m ≡ b.m
  pub h_same : c.h ≡ b.h
  pub top_same : c.top ≡ b.top
  pub free_same : c.free ≡ b.free
  pub phase_same : c.collector.phase ≡ b.collector.phase
  pub live_same : c.collector.live ≡ b.collector.live
  pub current_same : c.collector.current ≡ b.collector.current
  pub next_same : c.collector.next ≡ b.collector.next
  pub src_same : c.collector.src ≡ b.collector.src
  pub dest_same : c.collector.dest ≡ b.collector.dest
  pub tuple_same : c.collector.tuple ≡ b.collector.tuple
  pub entry_size_same : c.collector.size ≡ b.collector.size
  pub index_same : c.collector.index ≡ b.collector.index

-- a word of a marked tuple, while marking, is as it was or has a marked target
abbrev pub Safe : Box → Box → ℕ → ℕ → Type 0
Safe b c h i = (word h i c ≡ word h i b) ⊎ (b.collector.phase ≤ 3 → marked h b ≡ true → names_tuple (word h i c) ≡ true → marked (handle_of (word h i c)) b ≡ true)

pub record Rewords (b : Box) (p : Plan) (c : Box) : Type 0 where
  pub controls_same : (h : ℕ) → Kept b p h → word h 0 c ≡ word h 0 b
  pub words_safe : (h : ℕ) → Kept b p h → (k : ℕ) → k < size_of h b → Safe b c h (k + 1)
  pub deeps_stay : (h : ℕ) → deep h b ≡ true → deep h c ≡ true

-- ---- kept

pub steady_kept_from : (b c : Box) (p : Plan) → Steady b c → (h : ℕ) → Kept b p h → Kept c p h
steady_kept_from b c p s = kept_same b c p (λ l. omega (arith, s.phase_same)) (λ h t. s.marked_same h ∙ t)

pub steady_kept_to : (b c : Box) (p : Plan) → Steady b c → (h : ℕ) → Kept c p h → Kept b p h
steady_kept_to b c p s = kept_same c b p (λ l. omega (arith, s.phase_same)) (λ h t. sym (s.marked_same h) ∙ t)

-- ---- handles

pub steady_handles : (b c : Box) (p : Plan) (free : List ℕ) → Steady b c → Handles b p free → Handles c p free
steady_handles b c p free s v = handles_same b c p free s.h_same (rw (s.links_same, s.free_same) v.free_chain) v

-- ---- marks

pub steady_marks : (b c : Box) (p : Plan) (free : List ℕ) (s : Scans) → Steady b c → Rewords b p c → Marks b p free s → Marks c p free s
steady_marks b c p free s t w v =
    record {
      free_unmarked = λ h x. t.marked_same h ∙ v.free_unmarked h x;
      done_unmarked = λ h x. t.marked_same h ∙ v.done_unmarked h x;
      mid_unmarked = λ h x. t.marked_same h ∙ v.mid_unmarked h x;
      live_is = t.live_same ∙ v.live_is ∙ ap (λ (z : ℕ). p.low + z) sums;
      nexts_chain = rw (t.links_same, t.next_same) v.nexts_chain;
      currents_chain = rw (t.links_same, t.current_same) v.currents_chain;
      listed_distinct = v.listed_distinct;
      listed_ahead = v.listed_ahead;
      listed_marked = λ h x. t.marked_same h ∙ v.listed_marked h x;
      listed_deep = λ h x. w.deeps_stay h (v.listed_deep h x);
      black = dark;
    }
  where
    sums : rooms b p.mid + marked_rooms b p.ahead ≡ rooms c p.mid + marked_rooms c p.ahead
    sums = sym (ap₂ (λ (x y : ℕ). x + y) (rooms_frame b c p.mid (λ h x. t.size_same h)) (marked_rooms_frame b c p.ahead (λ h x. t.size_same h) (λ h x. t.marked_same h)))

    dark : c.collector.phase ≤ 3 → (h : ℕ) → Member h p.ahead → marked h c ≡ true → ¬ Member h (listed s) → (k : ℕ) → k < size_of h c
        → names_tuple (word h (k + 1) c) ≡ true → marked (handle_of (word h (k + 1) c)) c ≡ true
    dark l h x m o k u n = t.marked_same (handle_of (word h (k + 1) c)) ∙ cases (w.words_safe h (unswept x lb) k ub)
      where
        lb : b.collector.phase ≤ 3
        lb = omega (arith, t.phase_same)

        ub : k < size_of h b
        ub = omega (arith, t.size_same h)

        mb : marked h b ≡ true
        mb = sym (t.marked_same h) ∙ m

        cases : Safe b c h (k + 1) → marked (handle_of (word h (k + 1) c)) b ≡ true
        cases (inl e) = subst (λ (z : Word). marked (handle_of z) b ≡ true) (sym e) (v.black lb h x mb o k ub (subst (λ (z : Word). names_tuple z ≡ true) e n))
        cases (inr f) = f lb mb n

-- ---- the stage

steady_scan : (b c : Box) (g : Ghosts) (s : ℕ) → Steady b c → Scan b g s → Scan c g s
steady_scan b c g s t y =
    record {
      gray_is = y.gray_is;
      src_is = t.address_same s ∙ y.src_is ∙ sym t.src_same;
      size_is = t.size_same s ∙ y.size_is ∙ sym t.entry_size_same;
      index_least = omega (arith, t.index_same, y.index_least);
      index_most = omega (arith, t.index_same, t.entry_size_same, y.index_most);
    }

steady_move : (b c : Box) (g : Ghosts) → Steady b c → Rewords b g.plan c → Move b g → Move c g
steady_move b c g t w m =
    record {
      unlisted = m.unlisted;
      mid_is = m.mid_is ∙ ap (λ (k : ℕ). k ∷ []) (sym t.tuple_same);
      low_is = m.low_is ∙ sym t.dest_same;
      base_is = omega (arith, m.base_is, t.src_same, t.entry_size_same);
      downward = omega (arith, m.downward, t.src_same, t.dest_same);
      src_is = subst (λ (k : ℕ). address k c ≡ c.collector.src) (sym t.tuple_same) (t.address_same b.collector.tuple ∙ m.src_is ∙ sym t.src_same);
      size_is = subst (λ (k : ℕ). size_of k c ≡ c.collector.size) (sym t.tuple_same) (t.size_same b.collector.tuple ∙ m.size_is ∙ sym t.entry_size_same);
      control = subst (λ (k : ℕ). Control (word k 0 c) k) (sym t.tuple_same) (subst (λ (z : Word). Control z b.collector.tuple) (sym (w.controls_same b.collector.tuple kept)) m.control);
    }
  where
    kept : Kept b g.plan b.collector.tuple
    kept = moving (subst (λ (ks : List ℕ). Member b.collector.tuple ks) (sym m.mid_is) (inl refl))

-- the tuple under the scan is listed
gray_listed : (s : Scans) (h : ℕ) → s.gray ≡ h ∷ [] → Member h (listed s)
gray_listed s h e = member_left h s.gray (s.nexts ++ s.currents) (subst (λ (ks : List ℕ). Member h ks) (sym e) (inl refl))

pub steady_stage : (b c : Box) (g : Ghosts) → Steady b c → Rewords b g.plan c → Marks b g.plan g.free g.scans → Stage b g → Stage c g
steady_stage b c g t w v (at_rest e u l m) = at_rest (t.phase_same ∙ e) u l (λ h x. t.marked_same h ∙ m h x)
steady_stage b c g t w v (finding e u y z) = finding (t.phase_same ∙ e) u y z
steady_stage b c g t w v (scanning e u s y z) = scanning (t.phase_same ∙ e) u s (steady_scan b c g s t y) before
  where
    before : (k : ℕ) → k + 1 < c.collector.index → names_tuple (word s (k + 1) c) ≡ true → marked (handle_of (word s (k + 1) c)) c ≡ true
    before k l n = t.marked_same (handle_of (word s (k + 1) c)) ∙ cases (w.words_safe s (unswept (v.listed_ahead s (gray_listed g.scans s y.gray_is)) (omega arith)) k (omega (arith, t.index_same)))
      where
        cases : Safe b c s (k + 1) → marked (handle_of (word s (k + 1) c)) b ≡ true
        cases (inl q) = subst (λ (x : Word). marked (handle_of x) b ≡ true) (sym q) (z k (omega (arith, t.index_same)) (subst (λ (x : Word). names_tuple x ≡ true) q n))
        cases (inr f) = f (omega arith) (v.listed_marked s (gray_listed g.scans s y.gray_is)) n
steady_stage b c g t w v (adding e u s y m z) = adding (t.phase_same ∙ e) u s (steady_scan b c g s t y) (subst (λ (k : ℕ). Member k g.plan.ahead) (sym t.tuple_same) m) before
  where
    before : (k : ℕ) → k + 1 < c.collector.index → names_tuple (word s (k + 1) c) ≡ true
        → (marked (handle_of (word s (k + 1) c)) c ≡ true) ⊎ (handle_of (word s (k + 1) c) ≡ c.collector.tuple)
    before k l n = cases (w.words_safe s (unswept (v.listed_ahead s (gray_listed g.scans s y.gray_is)) (omega arith)) k (omega (arith, t.index_same)))
      where
        as_before : (x : Word) → (marked (handle_of x) b ≡ true) ⊎ (handle_of x ≡ b.collector.tuple) → (marked (handle_of x) c ≡ true) ⊎ (handle_of x ≡ c.collector.tuple)
        as_before x (inl q) = inl (t.marked_same (handle_of x) ∙ q)
        as_before x (inr q) = inr (q ∙ sym t.tuple_same)

        cases : Safe b c s (k + 1) → (marked (handle_of (word s (k + 1) c)) c ≡ true) ⊎ (handle_of (word s (k + 1) c) ≡ c.collector.tuple)
        cases (inl q) = as_before (word s (k + 1) c) (subst (λ (x : Word). (marked (handle_of x) b ≡ true) ⊎ (handle_of x ≡ b.collector.tuple)) (sym q) (z k (omega (arith, t.index_same)) (subst (λ (x : Word). names_tuple x ≡ true) q n)))
        cases (inr f) = inl (t.marked_same (handle_of (word s (k + 1) c)) ∙ f (omega arith) (v.listed_marked s (gray_listed g.scans s y.gray_is)) n)
steady_stage b c g t w v (sweeping e u n l a z hs y) =
    sweeping (t.phase_same ∙ e) u n (l ∙ sym t.dest_same) (a ∙ sym t.src_same) (z ∙ sym t.src_same) hs (y ∙ ap (λ (k : ℕ). k ∷ hs) (sym t.tuple_same))
steady_stage b c g t w v (reading e m l z) = reading (t.phase_same ∙ e) (steady_move b c g t w m) (omega (arith, t.index_same, t.entry_size_same)) (omega (arith, t.index_same, t.src_same))
steady_stage b c g t w v (clearing e m l z) = clearing (t.phase_same ∙ e) (steady_move b c g t w m) (omega (arith, t.index_same, t.entry_size_same)) (omega (arith, t.index_same, t.src_same))
steady_stage b c g t w v (writing e m l z) = writing (t.phase_same ∙ e) (steady_move b c g t w m) (omega (arith, t.index_same, t.entry_size_same)) (omega (arith, t.index_same, t.src_same))
steady_stage b c g t w v (zeroing e u n l a d i z) =
    zeroing (t.phase_same ∙ e) u n (l ∙ sym t.dest_same) (omega (arith, t.src_same, t.entry_size_same)) (omega (arith, t.src_same, t.dest_same)) (omega (arith, t.index_same, t.entry_size_same)) (omega (arith, t.index_same, t.src_same))

-- ---- the whole

pub steady_inv : (b c : Box) (g : Ghosts) → Steady b c → Rewords b g.plan c → Shape c → Layout c g.plan → Contents c g.plan
    → Zero c g.zeroed → Inv b g → Inv c g
steady_inv b c g t w sh la co ze v =
    record {
      shape = sh;
      handles = steady_handles b c g.plan g.free t v.handles;
      layout = la;
      contents = co;
      zero_words = ze;
      marks = steady_marks b c g.plan g.free g.scans t w v.marks;
      stage = steady_stage b c g t w v.marks v.stage;
    }
