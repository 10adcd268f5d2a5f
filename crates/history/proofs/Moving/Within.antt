-- A transition inside a move keeps the invariant: one that leaves the columns of the directory, the registers and the numbers alone
-- but for phase, index and copy, leaves the words below dest and behind the tuple's old words, and leaves the words of the tuple on
-- its way as they were, wherever they are now. What remains to be shown is the zero words and the stage. Every other kept tuple is
-- at its address, outside the words that may change. Assumes nothing.
use Prim.Native.Nat.{ℕ, ◌+◌, ◌≤◌, ◌<◌}
use mathlib.Core.Bool.{Bool, false}
use mathlib.Core.List.{List, [], ◌∷◌}
use mathlib.Core.Logic.{◌≢◌}
use mathlib.Core.Path.{◌≡◌, sym, ap, ◌∙◌, subst}
use native.Mathlib.Omega.{arith}
use lib.ListN.{length, get_or}
use Rattle.rules.specs.Parts.{Word, Box}
use Rattle.rules.specs.Box.{word_at, register, address, size_of, marked, deep}
use Rattle.history.specs.Agreement.{Member}
use Rattle.history.proofs.Invariant.Statement.{Ghosts, Inv, Control, Move, Kept, Zero, Layout, Stage, word}
use Rattle.history.proofs.Invariant.Words.{word_other}
use Rattle.history.proofs.Lists.Laid.{laid_frame, laid_to, rooms_frame}
use Rattle.history.proofs.Invariant.Frame.{hold_of, SameShape, shape_same, handles_same, marks_same, kept_same, Quiet, quiet_contents, quiet_calm, Next}
use Rattle.history.proofs.Moving.Tuple.{Lies, moved, below, above, lies, done_below, ahead_above}

-- all but the words of memory, phase, index and copy
pub record Still (b c : Box) : Type 0 where
  pub m_same : c.m ≡ b.m
  pub h_same : c.h ≡ b.h
  pub registers_same : c.registers.words ≡ b.registers.words
  pub register_flags_same : c.registers.flags ≡ b.registers.flags
  pub top_same : c.top ≡ b.top
  pub free_same : c.free ≡ b.free
  pub live_same : c.collector.live ≡ b.collector.live
  pub current_same : c.collector.current ≡ b.collector.current
  pub next_same : c.collector.next ≡ b.collector.next
  pub src_same : c.collector.src ≡ b.collector.src
  pub dest_same : c.collector.dest ≡ b.collector.dest
  pub tuple_same : c.collector.tuple ≡ b.collector.tuple
  pub size_same : c.collector.size ≡ b.collector.size
  pub held_same : c.hold.held ≡ b.hold.held
  pub hold_same : hold_of c ≡ hold_of b
  pub addresses_same : c.directory.addresses ≡ b.directory.addresses
  pub sizes_same : c.directory.sizes ≡ b.directory.sizes
  pub links_same : c.directory.links ≡ b.directory.links
  pub marks_same : c.directory.marks ≡ b.directory.marks
  pub deeps_same : c.directory.deeps ≡ b.directory.deeps

pub record Within (b c : Box) : Type 0 where
  pub still : Still b c
  pub words_length : length c.memory.words ≡ length b.memory.words
  pub flags_length : length c.memory.flags ≡ length b.memory.flags
  pub phase_before : 4 ≤ b.collector.phase
  pub phase_after : 4 ≤ c.collector.phase
  pub words_below : (a : ℕ) → a < b.collector.dest → word_at a c ≡ word_at a b
  pub words_above : (a : ℕ) → b.collector.src + b.collector.size + 1 ≤ a → word_at a c ≡ word_at a b
  pub words_moved : (i : ℕ) → i ≤ b.collector.size → word b.collector.tuple i c ≡ word b.collector.tuple i b

-- the ghosts: words are known to be zero up to z
abbrev pub zeroed_to : ℕ → Ghosts → Ghosts
zeroed_to z g = record { plan = g.plan; free = g.free; scans = g.scans; zeroed = z }

same_shape : (b c : Box) → Within b c → SameShape b c
same_shape b c w =
    record {
      m_same = w.still.m_same;
      h_same = w.still.h_same;
      words_same = w.words_length;
      flags_same = w.flags_length;
      addresses_same = ap length w.still.addresses_same;
      sizes_same = ap length w.still.sizes_same;
      links_same = ap length w.still.links_same;
      marks_same = ap length w.still.marks_same;
      deeps_same = ap length w.still.deeps_same;
      registers_same = ap length w.still.registers_same;
      register_flags_same = ap length w.still.register_flags_same;
      held_same = λ e. (sym w.still.held_same ∙ e, w.still.hold_same);
    }

address_same : (b c : Box) → Within b c → (h : ℕ) → address h c ≡ address h b
address_same b c w h = ap (λ (s : List ℕ). get_or s h 0) w.still.addresses_same

size_same : (b c : Box) → Within b c → (h : ℕ) → size_of h c ≡ size_of h b
size_same b c w h = ap (λ (s : List ℕ). get_or s h 0) w.still.sizes_same

mark_same : (b c : Box) → Within b c → (h : ℕ) → marked h c ≡ marked h b
mark_same b c w h = ap (λ (s : List Bool). get_or s h false) w.still.marks_same

deep_same : (b c : Box) → Within b c → (h : ℕ) → deep h c ≡ deep h b
deep_same b c w h = ap (λ (s : List Bool). get_or s h false) w.still.deeps_same

-- the words of the kept tuples
within_words : (b c : Box) (g : Ghosts) → Inv b g → Move b g → Within b c → (h : ℕ) → Kept b g.plan h → (i : ℕ) → i ≤ size_of h b → word h i c ≡ word h i b
within_words b c g v m w h k i l = place (lies b g v m h k)
  where
    elsewhere : h ≢ b.collector.tuple → word_at (address h b + i) c ≡ word_at (address h b + i) b → word h i c ≡ word h i b
    elsewhere n e =
        let nc : h ≢ c.collector.tuple = λ q. n (q ∙ w.still.tuple_same) in
        word_other h i c nc ∙ ap (λ (a : ℕ). word_at (a + i) c) (address_same b c w h) ∙ e ∙ sym (word_other h i b n)

    place : Lies b h → word h i c ≡ word h i b
    place (moved e) =
        let s : size_of h b ≡ b.collector.size = ap (λ (n : ℕ). size_of n b) e ∙ m.size_is in
        subst (λ (n : ℕ). word n i c ≡ word n i b) (sym e) (w.words_moved i (omega arith))
    place (below n u) = elsewhere n (w.words_below (address h b + i) (omega arith))
    place (above n u) = elsewhere n (w.words_above (address h b + i) (omega arith))

within_quiet : (b c : Box) (g : Ghosts) → Inv b g → Move b g → Within b c → Quiet b g.plan c g.plan
within_quiet b c g v m w =
    record {
      kept_to = kept_same c b g.plan (λ l. absurd (late_c l)) (λ h t. sym (mark_same b c w h) ∙ t);
      kept_from = kept_same b c g.plan (λ l. absurd (late_b l)) (λ h t. mark_same b c w h ∙ t);
      roots_same = roots;
      sizes_same = λ h k. size_same b c w h;
      words_same = within_words b c g v m w;
      deeps_same = λ h k. deep_same b c w h;
    }
  where
    late_c : c.collector.phase ≤ 3 → ⊥
    late_c l = omega (arith, w.phase_after)

    late_b : b.collector.phase ≤ 3 → ⊥
    late_b l = omega (arith, w.phase_before)

    roots : (r : ℕ) → register r c ≡ register r b
    roots r = λ i. record { bits = get_or (w.still.registers_same i) r 0; flag = get_or (w.still.register_flags_same i) r false }

within_layout : (b c : Box) (g : Ghosts) → Inv b g → Move b g → Within b c → Layout c g.plan
within_layout b c g v m w =
    record {
      done_laid = laid_frame b c 0 g.plan.done g.plan.low (λ h x. address_same b c w h) (λ h x. size_same b c w h) low v.layout.done_laid;
      ahead_laid = laid_to c g.plan.base g.plan.ahead b.top c.top (sym w.still.top_same) (laid_frame b c g.plan.base g.plan.ahead b.top (λ h x. address_same b c w h) (λ h x. size_same b c w h) high v.layout.ahead_laid);
      low_base = rw (rooms_frame b c g.plan.mid (λ h x. size_same b c w h)) v.layout.low_base;
      top_fits = rw (w.still.top_same, w.still.m_same) v.layout.top_fits;
    }
  where
    low : (h : ℕ) → Member h g.plan.done → word_at (address h b) c ≡ word_at (address h b) b
    low h x = w.words_below (address h b) (omega (arith, done_below b g v m h x))

    high : (h : ℕ) → Member h g.plan.ahead → word_at (address h b) c ≡ word_at (address h b) b
    high h x = w.words_above (address h b) (ahead_above b g v m h x)

-- the tuple goes on its way
within_move : (b c : Box) (g : Ghosts) (z : ℕ) → Move b g → Within b c → Move c (zeroed_to z g)
within_move b c g z m w =
    record {
      unlisted = record { no_nexts = m.unlisted.no_nexts; no_currents = m.unlisted.no_currents; no_gray = m.unlisted.no_gray };
      mid_is = m.mid_is ∙ ap (λ (h : ℕ). h ∷ []) (sym w.still.tuple_same);
      low_is = m.low_is ∙ sym w.still.dest_same;
      base_is = rw (w.still.src_same, w.still.size_same) m.base_is;
      downward = rw (w.still.src_same, w.still.dest_same) m.downward;
      src_is = ap (λ (h : ℕ). address h c) w.still.tuple_same ∙ address_same b c w b.collector.tuple ∙ m.src_is ∙ sym w.still.src_same;
      size_is = ap (λ (h : ℕ). size_of h c) w.still.tuple_same ∙ size_same b c w b.collector.tuple ∙ m.size_is ∙ sym w.still.size_same;
      control = subst (λ (h : ℕ). Control (word h 0 c) h) (sym w.still.tuple_same) (subst (λ (v : Word). Control v b.collector.tuple) (sym (w.words_moved 0 (omega arith))) m.control);
    }

-- with the zero words and the stage, the invariant
pub within : (b c : Box) (g : Ghosts) (z : ℕ) → Inv b g → Move b g → Within b c → Zero c z → (Move c (zeroed_to z g) → Stage c (zeroed_to z g)) → Next b g c
within b c g z v m w zs st =
    let q : Quiet b g.plan c g.plan = within_quiet b c g v m w in
    record {
      ghosts = zeroed_to z g;
      inv = record {
        shape = shape_same b c (same_shape b c w) v.shape;
        handles = handles_same b c g.plan g.free w.still.h_same (rw (w.still.links_same, w.still.free_same) v.handles.free_chain) v.handles;
        layout = within_layout b c g v m w;
        contents = quiet_contents b g.plan c g.plan q v.contents;
        zero_words = zs;
        marks = marks_same b c g.plan g.free g.scans (mark_same b c w) (deep_same b c w) (size_same b c w) w.still.links_same w.still.live_same w.still.next_same w.still.current_same (λ l. absurd (late l)) (λ l. absurd (late l)) v.marks;
        stage = st (within_move b c g z m w);
      };
      calm = quiet_calm b g.plan c g.plan q;
    }
  where
    late : c.collector.phase ≤ 3 → ⊥
    late l = omega (arith, w.phase_after)
