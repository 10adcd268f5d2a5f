-- What a transition leaves alone: for each group of the invariant's clauses, that it holds of a box c if it holds of a box b and c
-- is b where the group looks. A transition that touches nothing of a group cites one of these. `Quiet` is what a collector's
-- transition promises of the tuples that are kept; it carries the contents over, and later the agreement with the history
-- machine. Assumes nothing.
use Prim.Native.Nat.{ℕ, suc, ◌+◌, ◌≤◌, ◌<◌}
use mathlib.Core.Bool.{true}
use mathlib.Core.List.{List}
use mathlib.Core.Path.{◌≡◌, sym, ◌∙◌, ap, ap₂, subst}
use native.Mathlib.Omega.{arith}
use lib.ListN.{length}
use Rattle.rules.specs.Limits.{half_word, register_count}
use Rattle.rules.specs.Parts.{Word, Box}
use Rattle.rules.specs.Box.{handle_of, names_tuple, word_at, register, address, size_of, marked, deep}
use Rattle.history.specs.Agreement.{Member}
use Rattle.history.proofs.Invariant.Statement.{Plan, Scans, Ghosts, Inv, all, listed, word, rooms, marked_rooms, Chain, Kept, settled, moving, unswept, surviving, Shape, Handles, Layout, Contents, Zero, Marks}
use Rattle.history.proofs.Lists.Handles.{Perm, perm_member, perm_sym, perm_distinct, perm_length}
use Rattle.history.proofs.Lists.Laid.{laid_frame, laid_to, rooms_frame, marked_rooms_frame}

-- ---- shape

-- the register and the tag of a hold
abbrev pub hold_of : Box → ℕ × ℕ
hold_of b = (b.hold.register, b.hold.tag)

pub record SameShape (b c : Box) : Type 0 where
  pub m_same : c.m ≡ b.m
  pub h_same : c.h ≡ b.h
  pub words_same : length c.memory.words ≡ length b.memory.words
  pub flags_same : length c.memory.flags ≡ length b.memory.flags
  pub addresses_same : length c.directory.addresses ≡ length b.directory.addresses
  pub sizes_same : length c.directory.sizes ≡ length b.directory.sizes
  pub links_same : length c.directory.links ≡ length b.directory.links
  pub marks_same : length c.directory.marks ≡ length b.directory.marks
  pub deeps_same : length c.directory.deeps ≡ length b.directory.deeps
  pub registers_same : length c.registers.words ≡ length b.registers.words
  pub register_flags_same : length c.registers.flags ≡ length b.registers.flags
  pub held_same : c.hold.held ≡ true → (b.hold.held ≡ true) × (hold_of c ≡ hold_of b)

pub shape_same : (b c : Box) → SameShape b c → Shape b → Shape c
shape_same b c s p =
    record {
      range = rw (s.m_same, s.h_same) p.range;
      words_length = s.words_same ∙ p.words_length ∙ sym s.m_same;
      flags_length = s.flags_same ∙ p.flags_length ∙ sym s.m_same;
      addresses_length = s.addresses_same ∙ p.addresses_length ∙ sym s.h_same;
      sizes_length = s.sizes_same ∙ p.sizes_length ∙ sym s.h_same;
      links_length = s.links_same ∙ p.links_length ∙ sym s.h_same;
      marks_length = s.marks_same ∙ p.marks_length ∙ sym s.h_same;
      deeps_length = s.deeps_same ∙ p.deeps_length ∙ sym s.h_same;
      registers_length = s.registers_same ∙ p.registers_length;
      register_flags_length = s.register_flags_same ∙ p.register_flags_length;
      held_register = λ e. subst (λ (t : ℕ × ℕ). (t.0 < register_count) × (t.1 < half_word)) (sym (s.held_same e).1) (p.held_register (s.held_same e).0);
    }

-- ---- handles

-- the handles in other lists, each once as before
pub handles_moved : (b c : Box) (p q : Plan) (free free' : List ℕ) → Perm (all p free) (all q free') → c.h ≡ b.h
    → Chain c.directory.links c.free free' → Handles b p free → Handles c q free'
handles_moved b c p q free free' m e ch i =
    record {
      distinct = perm_distinct m i.distinct;
      entries = λ h x. rw e (i.entries h (perm_member (perm_sym m) h x));
      every = λ h l u. perm_member m h (i.every h l (rw e at u));
      count = ap suc (sym (perm_length m)) ∙ i.count ∙ sym e;
      free_chain = ch;
    }

-- the same lists
pub handles_same : (b c : Box) (p : Plan) (free : List ℕ) → c.h ≡ b.h → Chain c.directory.links c.free free → Handles b p free → Handles c p free
handles_same b c p free e ch i =
    record { distinct = i.distinct; entries = λ h x. rw e (i.entries h x); every = λ h l u. i.every h l (rw e at u); count = i.count ∙ sym e; free_chain = ch }

-- ---- layout

-- addresses, sizes and memory as they were
pub layout_same : (b c : Box) (p : Plan) → ((h : ℕ) → address h c ≡ address h b) → ((h : ℕ) → size_of h c ≡ size_of h b)
    → ((a : ℕ) → word_at a c ≡ word_at a b) → c.top ≡ b.top → c.m ≡ b.m → Layout b p → Layout c p
layout_same b c p ad sz wd t m l =
    record {
      done_laid = laid_frame b c 0 p.done p.low (λ h x. ad h) (λ h x. sz h) (λ h x. wd (address h b)) l.done_laid;
      ahead_laid = laid_to c p.base p.ahead b.top c.top (sym t) (laid_frame b c p.base p.ahead b.top (λ h x. ad h) (λ h x. sz h) (λ h x. wd (address h b)) l.ahead_laid);
      low_base = rw (rooms_frame b c p.mid (λ h x. sz h)) l.low_base;
      top_fits = rw (t, m) l.top_fits;
    }

-- ---- zero

pub zero_same : (b c : Box) (z : ℕ) → ((a : ℕ) → word_at a c ≡ word_at a b) → c.top ≡ b.top → c.collector.live ≡ b.collector.live → Zero b z → Zero c z
zero_same b c z wd t l i = record { above_top = λ a u. wd a ∙ i.above_top a (rw t at u); behind = λ a u v. wd a ∙ i.behind a (rw l at u) v }

-- ---- the kept tuples

-- what a collector's transition leaves: the registers, and of each kept tuple its size, its words and its deep flag
pub record Quiet (b : Box) (p : Plan) (c : Box) (q : Plan) : Type 0 where
  pub kept_to : (h : ℕ) → Kept c q h → Kept b p h
  pub kept_from : (h : ℕ) → Kept b p h → Kept c q h
  pub roots_same : (r : ℕ) → register r c ≡ register r b
  pub sizes_same : (h : ℕ) → Kept b p h → size_of h c ≡ size_of h b
  pub words_same : (h : ℕ) → Kept b p h → (i : ℕ) → i ≤ size_of h b → word h i c ≡ word h i b
  pub deeps_same : (h : ℕ) → Kept b p h → deep h c ≡ deep h b

-- the contents carry over
pub quiet_contents : (b : Box) (p : Plan) (c : Box) (q : Plan) → Quiet b p c q → Contents b p → Contents c q
quiet_contents b p c q s i = record { roots_kept = roots; words_kept = inside }
  where
    roots : (r : ℕ) → r < register_count → names_tuple (register r c) ≡ true → Kept c q (handle_of (register r c))
    roots r l n = subst (λ (w : Word). Kept c q (handle_of w)) (sym (s.roots_same r)) (s.kept_from (handle_of (register r b)) (i.roots_kept r l (subst (λ (w : Word). names_tuple w ≡ true) (s.roots_same r) n)))

    inside : (h : ℕ) → Kept c q h → (k : ℕ) → k < size_of h c → names_tuple (word h (k + 1) c) ≡ true → Kept c q (handle_of (word h (k + 1) c)) × (deep h c ≡ true)
    inside h kc k l n =
        let kb : Kept b p h = s.kept_to h kc in
        let lb : k < size_of h b = subst (λ (z : ℕ). k < z) (s.sizes_same h kb) l in
        let lk : k + 1 ≤ size_of h b = omega arith in
        let e : word h (k + 1) c ≡ word h (k + 1) b = s.words_same h kb (k + 1) lk in
        let f = i.words_kept h kb k lb (subst (λ (w : Word). names_tuple w ≡ true) e n) in
        (subst (λ (w : Word). Kept c q (handle_of w)) (sym e) (s.kept_from (handle_of (word h (k + 1) b)) f.0), s.deeps_same h kb ∙ f.1)

-- what the history machine needs of a transition, also of the one that begins the sweep, where fewer tuples are kept
pub record Calm (b : Box) (p : Plan) (c : Box) (q : Plan) : Type 0 where
  pub kept_to : (h : ℕ) → Kept c q h → Kept b p h
  pub roots_same : (r : ℕ) → register r c ≡ register r b
  pub sizes_same : (h : ℕ) → Kept c q h → size_of h c ≡ size_of h b
  pub words_same : (h : ℕ) → Kept c q h → (i : ℕ) → i ≤ size_of h b → word h i c ≡ word h i b

pub quiet_calm : (b : Box) (p : Plan) (c : Box) (q : Plan) → Quiet b p c q → Calm b p c q
quiet_calm b p c q s =
    record {
      kept_to = s.kept_to;
      roots_same = s.roots_same;
      sizes_same = λ h k. s.sizes_same h (s.kept_to h k);
      words_same = λ h k. s.words_same h (s.kept_to h k);
    }

-- what is shown of each transition of the collector, from b with ghosts g to c: ghosts with which the invariant holds of c
pub record Next (b : Box) (g : Ghosts) (c : Box) : Type 0 where
  pub ghosts : Ghosts
  pub inv : Inv c ghosts
  pub calm : Calm b g.plan c ghosts.plan

-- the same plan: kept as before, where marks stay and the sweep does not begin or end
pub kept_same : (b c : Box) (p : Plan) → (b.collector.phase ≤ 3 → c.collector.phase ≤ 3) → ((h : ℕ) → marked h b ≡ true → marked h c ≡ true)
    → (h : ℕ) → Kept b p h → Kept c p h
kept_same b c p u m h (settled x) = settled x
kept_same b c p u m h (moving x) = moving x
kept_same b c p u m h (unswept x l) = unswept x (u l)
kept_same b c p u m h (surviving x t) = surviving x (m h t)

-- ---- marks

-- marks, deep flags, sizes, links and the numbers as they were; words of unswept tuples too
pub marks_same : (b c : Box) (p : Plan) (free : List ℕ) (s : Scans) → ((h : ℕ) → marked h c ≡ marked h b) → ((h : ℕ) → deep h c ≡ deep h b)
    → ((h : ℕ) → size_of h c ≡ size_of h b) → c.directory.links ≡ b.directory.links → c.collector.live ≡ b.collector.live → c.collector.next ≡ b.collector.next
    → c.collector.current ≡ b.collector.current
    → (c.collector.phase ≤ 3 → b.collector.phase ≤ 3) → (c.collector.phase ≤ 3 → (h i : ℕ) → word h i c ≡ word h i b) → Marks b p free s → Marks c p free s
marks_same b c p free s mk dp sz ln lv nx cr ph wd i =
    record {
      free_unmarked = λ h x. mk h ∙ i.free_unmarked h x;
      done_unmarked = λ h x. mk h ∙ i.done_unmarked h x;
      mid_unmarked = λ h x. mk h ∙ i.mid_unmarked h x;
      live_is = lv ∙ i.live_is ∙ ap (λ (z : ℕ). p.low + z) (sums);
      nexts_chain = rw (ln, nx) i.nexts_chain;
      currents_chain = rw (ln, cr) i.currents_chain;
      listed_distinct = i.listed_distinct;
      listed_ahead = i.listed_ahead;
      listed_marked = λ h x. mk h ∙ i.listed_marked h x;
      listed_deep = λ h x. dp h ∙ i.listed_deep h x;
      black = dark;
    }
  where
    sums : rooms b p.mid + marked_rooms b p.ahead ≡ rooms c p.mid + marked_rooms c p.ahead
    sums = sym (ap₂ (λ (x y : ℕ). x + y) (rooms_frame b c p.mid (λ h x. sz h)) (marked_rooms_frame b c p.ahead (λ h x. sz h) (λ h x. mk h)))

    dark : c.collector.phase ≤ 3 → (h : ℕ) → Member h p.ahead → marked h c ≡ true → ¬ Member h (listed s) → (k : ℕ) → k < size_of h c
        → names_tuple (word h (k + 1) c) ≡ true → marked (handle_of (word h (k + 1) c)) c ≡ true
    dark l h x t o k u n =
        let e : word h (k + 1) c ≡ word h (k + 1) b = wd l h (k + 1) in
        mk (handle_of (word h (k + 1) c)) ∙ subst (λ (w : Word). marked (handle_of w) b ≡ true) (sym e) (i.black (ph l) h x (sym (mk h) ∙ t) o k (subst (λ (z : ℕ). k < z) (sz h) u) (subst (λ (w : Word). names_tuple w ≡ true) e n))
