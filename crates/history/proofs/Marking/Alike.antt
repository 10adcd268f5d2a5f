-- Boxes that are alike: they differ only in links, marks and the collector's numbers. While a cycle marks, each transition
-- leaves a box alike to the one before it; so all groups of clauses but the marks carry over, and the words of the tuples too.
-- Assumes nothing.
use Prim.Native.Nat.{ℕ, ◌+◌, ◌≤◌, ◌<◌}
use mathlib.Core.Bool.{true, false}
use mathlib.Core.List.{List, []}
use mathlib.Core.Path.{◌≡◌, refl, sym, ◌∙◌, ap, ap₂, subst}
use native.Mathlib.Omega.{arith}
use lib.ListN.{length, get_or}
use Rattle.rules.specs.Parts.{Collector, Hold, Word, Box, with_collector, with_hold}
use Rattle.rules.specs.Box.{handle_of, names_tuple, word_at, register, address, size_of, marked, deep}
use Rattle.history.specs.Agreement.{Member, Distinct}
use Rattle.history.proofs.Invariant.Statement.{Plan, Scans, Ghosts, Inv, listed, word, rooms, marked_rooms, Chain, Kept, settled, moving, unswept, surviving, Shape, Handles, Layout, Zero, Marks, Unswept, Stage}
use Rattle.history.proofs.Invariant.Words.{word_early}
use Rattle.history.proofs.Lists.Handles.{member?}
use Rattle.history.proofs.Invariant.Stages.{unswept_of}
use Rattle.history.proofs.Invariant.Frame.{hold_of, shape_same, handles_same, layout_same, Quiet, quiet_contents, quiet_calm, Calm, Next}
use Rattle.history.proofs.Lists.Laid.{rooms_frame, marked_rooms_frame}

pub record Alike (b c : Box) : Type 0 where
  pub words_are : c.memory.words ≡ b.memory.words
  pub flags_are : c.memory.flags ≡ b.memory.flags
  pub addresses_are : c.directory.addresses ≡ b.directory.addresses
  pub sizes_are : c.directory.sizes ≡ b.directory.sizes
  pub deeps_are : c.directory.deeps ≡ b.directory.deeps
  pub links_length : length c.directory.links ≡ length b.directory.links
  pub marks_length : length c.directory.marks ≡ length b.directory.marks
  pub m_is : c.m ≡ b.m
  pub h_is : c.h ≡ b.h
  pub registers_are : c.registers.words ≡ b.registers.words
  pub register_flags_are : c.registers.flags ≡ b.registers.flags
  pub top_is : c.top ≡ b.top
  pub free_is : c.free ≡ b.free
  pub held_is : c.hold.held ≡ b.hold.held
  pub hold_is : hold_of c ≡ hold_of b

-- only the collector differs, and whether a cycle began under the hold
pub alike_collector : (b : Box) (k : Collector) (q : Hold) → q.held ≡ b.hold.held
    → hold_of (with_collector k (with_hold q b)) ≡ hold_of b → Alike b (with_collector k (with_hold q b))
alike_collector b k q d e =
    record {
      words_are = refl;
      flags_are = refl;
      addresses_are = refl;
      sizes_are = refl;
      deeps_are = refl;
      links_length = refl;
      marks_length = refl;
      m_is = refl;
      h_is = refl;
      registers_are = refl;
      register_flags_are = refl;
      top_is = refl;
      free_is = refl;
      held_is = d;
      hold_is = e;
    }

-- ---- what is read off them

pub word_at_alike : (b c : Box) → Alike b c → (a : ℕ) → word_at a c ≡ word_at a b
word_at_alike b c s a = λ i. record { bits = get_or (s.words_are i) a 0; flag = get_or (s.flags_are i) a false }

pub register_alike : (b c : Box) → Alike b c → (r : ℕ) → register r c ≡ register r b
register_alike b c s r = λ i. record { bits = get_or (s.registers_are i) r 0; flag = get_or (s.register_flags_are i) r false }

pub address_alike : (b c : Box) → Alike b c → (h : ℕ) → address h c ≡ address h b
address_alike b c s h = λ i. get_or (s.addresses_are i) h 0

pub size_alike : (b c : Box) → Alike b c → (h : ℕ) → size_of h c ≡ size_of h b
size_alike b c s h = λ i. get_or (s.sizes_are i) h 0

pub deep_alike : (b c : Box) → Alike b c → (h : ℕ) → deep h c ≡ deep h b
deep_alike b c s h = λ i. get_or (s.deeps_are i) h false

-- outside phases 5 to 7 a word is at its address
pub word_alike : (b c : Box) → Alike b c → b.collector.phase ≤ 4 → c.collector.phase ≤ 4 → (h i : ℕ) → word h i c ≡ word h i b
word_alike b c s lb lc h i =
    let vb : b.collector.phase < 5 = omega arith in
    let vc : c.collector.phase < 5 = omega arith in
    let there : word_at (address h c + i) c ≡ word_at (address h b + i) b = word_at_alike b c s (address h c + i) ∙ ap (λ (a : ℕ). word_at (a + i) b) (address_alike b c s h) in
    word_early h i c vc ∙ there ∙ sym (word_early h i b vb)

-- ---- the groups

pub shape_alike : (b c : Box) → Alike b c → Shape b → Shape c
shape_alike b c s = shape_same b c (record {
  m_same = s.m_is;
  h_same = s.h_is;
  words_same = ap length s.words_are;
  flags_same = ap length s.flags_are;
  addresses_same = ap length s.addresses_are;
  sizes_same = ap length s.sizes_are;
  links_same = s.links_length;
  marks_same = s.marks_length;
  deeps_same = ap length s.deeps_are;
  registers_same = ap length s.registers_are;
  register_flags_same = ap length s.register_flags_are;
  held_same = λ e. (sym s.held_is ∙ e, s.hold_is);
})

pub handles_alike : (b c : Box) (p : Plan) (free : List ℕ) → Alike b c → Chain c.directory.links b.free free → Handles b p free → Handles c p free
handles_alike b c p free s ch = handles_same b c p free s.h_is (subst (λ (n : ℕ). Chain c.directory.links n free) (sym s.free_is) ch)

pub layout_alike : (b c : Box) (p : Plan) → Alike b c → Layout b p → Layout c p
layout_alike b c p s = layout_same b c p (address_alike b c s) (size_alike b c s) (word_at_alike b c s) s.top_is s.m_is

-- before the sweep no zero words are claimed below top
pub zero_unswept : (b c : Box) (z : ℕ) → Alike b c → z ≡ 0 → Zero b z → Zero c z
zero_unswept b c z s e i = record { above_top = λ a u. word_at_alike b c s a ∙ i.above_top a (rw s.top_is at u); behind = λ a u v. absurd (omega arith) }

-- ---- the kept tuples, before the sweep

pub kept_alike : (b c : Box) (p : Plan) → c.collector.phase ≤ 3 → (h : ℕ) → Kept b p h → Kept c p h
kept_alike b c p l h (settled x) = settled x
kept_alike b c p l h (moving x) = moving x
kept_alike b c p l h (unswept x u) = unswept x l
kept_alike b c p l h (surviving x t) = unswept x l

pub quiet_alike : (b c : Box) (p : Plan) → Alike b c → b.collector.phase ≤ 3 → c.collector.phase ≤ 3 → Quiet b p c p
quiet_alike b c p s lb lc =
    record {
      kept_to = kept_alike c b p lb;
      kept_from = kept_alike b c p lc;
      roots_same = register_alike b c s;
      sizes_same = λ h k. size_alike b c s h;
      words_same = λ h k i l. word_alike b c s (omega arith) (omega arith) h i;
      deeps_same = λ h k. deep_alike b c s h;
    }

-- ---- the marks

-- every tuple that h points to is marked
abbrev pub Black : Box → ℕ → Type 0
Black b h = (k : ℕ) → k < size_of h b → names_tuple (word h (k + 1) b) ≡ true → marked (handle_of (word h (k + 1) b)) b ≡ true

-- marks stay, and what is black is so still
pub black_alike : (b c : Box) → Alike b c → b.collector.phase ≤ 4 → c.collector.phase ≤ 4 → ((h : ℕ) → marked h b ≡ true → marked h c ≡ true)
    → (h : ℕ) → Black b h → Black c h
black_alike b c s lb lc m h d k l n =
    let e : word h (k + 1) c ≡ word h (k + 1) b = word_alike b c s lb lc h (k + 1) in
    subst (λ (w : Word). marked (handle_of w) c ≡ true) (sym e)
    (m (handle_of (word h (k + 1) b)) (d k (subst (λ (z : ℕ). k < z) (size_alike b c s h) l) (subst (λ (w : Word). names_tuple w ≡ true) e n)))

-- the tuples that wait for a scan are listed anew: none is added, and those left out are black
pub record Relisted (b c : Box) (s s' : Scans) : Type 0 where
  pub links_are : c.directory.links ≡ b.directory.links
  pub marks_are : c.directory.marks ≡ b.directory.marks
  pub live_is : c.collector.live ≡ b.collector.live
  pub nexts_chain : Chain c.directory.links c.collector.next s'.nexts
  pub currents_chain : Chain c.directory.links c.collector.current s'.currents
  pub distinct : Distinct (listed s')
  pub none_added : (h : ℕ) → Member h (listed s') → Member h (listed s)
  pub out_black : (h : ℕ) → Member h (listed s) → ¬ Member h (listed s') → Black b h

pub marks_relisted : (b c : Box) (p : Plan) (free : List ℕ) (s s' : Scans) → Alike b c → b.collector.phase ≤ 3 → c.collector.phase ≤ 3
    → Relisted b c s s' → Marks b p free s → Marks c p free s'
marks_relisted b c p free s s' a lb lc r i =
    record {
      free_unmarked = λ h x. mk h ∙ i.free_unmarked h x;
      done_unmarked = λ h x. mk h ∙ i.done_unmarked h x;
      mid_unmarked = λ h x. mk h ∙ i.mid_unmarked h x;
      live_is = r.live_is ∙ i.live_is ∙ ap (λ (z : ℕ). p.low + z) sums;
      nexts_chain = r.nexts_chain;
      currents_chain = r.currents_chain;
      listed_distinct = r.distinct;
      listed_ahead = λ h x. i.listed_ahead h (r.none_added h x);
      listed_marked = λ h x. mk h ∙ i.listed_marked h (r.none_added h x);
      listed_deep = λ h x. deep_alike b c a h ∙ i.listed_deep h (r.none_added h x);
      black = λ l h x t o. black_alike b c a (omega arith) (omega arith) (λ k u. mk k ∙ u) h (dark h x (sym (mk h) ∙ t) o (member? h (listed s)));
    }
  where
    mk : (h : ℕ) → marked h c ≡ marked h b
    mk h = λ j. get_or (r.marks_are j) h false

    sums : rooms b p.mid + marked_rooms b p.ahead ≡ rooms c p.mid + marked_rooms c p.ahead
    sums = sym (ap₂ (λ (x y : ℕ). x + y) (rooms_frame b c p.mid (λ h x. size_alike b c a h)) (marked_rooms_frame b c p.ahead (λ h x. size_alike b c a h) (λ h x. mk h)))

    dark : (h : ℕ) → Member h p.ahead → marked h b ≡ true → ¬ Member h (listed s') → Dec (Member h (listed s)) → Black b h
    dark h x t o (yes m) = r.out_black h m o
    dark h x t o (no n) = i.black lb h x t n

-- ---- the invariant

abbrev pub with_scans : Scans → Ghosts → Ghosts
with_scans s g = record { plan = g.plan; free = g.free; scans = s; zeroed = g.zeroed }

-- no tuple waits for a scan
abbrev pub none_wait : Scans
none_wait = record { nexts = []; currents = []; gray = [] }

pub unswept_scans : (g : Ghosts) (s : Scans) → Unswept g → Unswept (with_scans s g)
unswept_scans g s u = search

-- a transition of the marking: what is left to show is the marks and the stage
pub inv_alike : (b : Box) (g : Ghosts) (c : Box) (s : Scans) → Inv b g → Alike b c → b.collector.phase ≤ 3 → c.collector.phase ≤ 3
    → Chain c.directory.links b.free g.free → Marks c g.plan g.free s → Stage c (with_scans s g) → Inv c (with_scans s g)
inv_alike b g c s i a lb lc ch mk st =
    record {
      shape = shape_alike b c a i.shape;
      handles = handles_alike b c g.plan g.free a ch i.handles;
      layout = layout_alike b c g.plan a i.layout;
      contents = quiet_contents b g.plan c g.plan (quiet_alike b c g.plan a lb lc) i.contents;
      zero_words = zero_unswept b c g.zeroed a (unswept_of b g i.stage lb).zeroed_zero i.zero_words;
      marks = mk;
      stage = st;
    }

-- what is shown of a transition of the marking, from b with ghosts g to c: the tuples lie as before, and those of s wait for a scan
pub record Onward (b : Box) (g : Ghosts) (c : Box) (s : Scans) : Type 0 where
  pub inv : Inv c (with_scans s g)
  pub calm : Calm b g.plan c g.plan

pub onward_next : (b : Box) (g : Ghosts) (c : Box) (s : Scans) → Onward b g c s → Next b g c
onward_next b g c s o = record { ghosts = with_scans s g; inv = o.inv; calm = o.calm }

pub onward_alike : (b : Box) (g : Ghosts) (c : Box) (s : Scans) → Alike b c → b.collector.phase ≤ 3 → c.collector.phase ≤ 3 → Inv c (with_scans s g) → Onward b g c s
onward_alike b g c s a lb lc i = record { inv = i; calm = quiet_calm b g.plan c g.plan (quiet_alike b c g.plan a lb lc) }

-- the tuples that wait are listed anew, and no mark is set
pub relists : (b : Box) (g : Ghosts) (c : Box) (s : Scans) → Inv b g → Alike b c → b.collector.phase ≤ 3 → c.collector.phase ≤ 3
    → Relisted b c g.scans s → Stage c (with_scans s g) → Onward b g c s
relists b g c s i a lb lc r st =
    onward_alike b g c s a lb lc
    (inv_alike b g c s i a lb lc (rw r.links_are i.handles.free_chain) (marks_relisted b c g.plan g.free g.scans s a lb lc r i.marks) st)
