-- Phase 5 with every word of the tuple written: it is settled at dest. Of any box c that has the tuple's new address and is as
-- before in the other columns and in memory: the settled tuples lie end to end with this one at their end, those ahead lie as they
-- did, and, before phase 5, every kept tuple's words are as they were, since the moved tuple's were all at dest. Assumes nothing.
use Prim.Native.Nat.{ℕ, ◌+◌, ◌≤◌, ◌<◌}
use mathlib.Core.Bool.{Bool, false}
use mathlib.Core.List.{List, [], ◌∷◌, ◌++◌}
use mathlib.Core.Logic.{◌≢◌, ◌⊎◌, inl, inr}
use mathlib.Core.Path.{◌≡◌, refl, sym, ap, ◌∙◌, subst}
use native.Mathlib.Omega.{arith}
use lib.ListN.{length, get_or, set, length-set}
use lib.Seq.{get_or-set_same, get_or-set_other}
use Rattle.rules.specs.Parts.{Word, Box}
use Rattle.rules.specs.Box.{word_at, register, address, size_of, marked, deep}
use Rattle.history.specs.Agreement.{Member}
use Rattle.history.proofs.Invariant.Statement.{Ghosts, Inv, all, Control, Laid, Move, Kept, settled, moving, Shape, word}
use Rattle.history.proofs.Invariant.Words.{word_early, word_moved, word_other}
use Rattle.history.proofs.Lists.Handles.{Perm, perm_mid_done, member_cases, member_right}
use Rattle.history.proofs.Lists.Laid.{laid_frame, laid_snoc, laid_to}
use Rattle.history.proofs.Invariant.Frame.{hold_of, shape_same}
use Rattle.history.proofs.Moving.Tuple.{Bounds, bounds, Lies, moved, below, above, lies, mid_only, done_other, ahead_other}

-- the facts of the transition: every word is written
pub record Written (b : Box) (g : Ghosts) : Type 0 where
  pub move : Move b g
  pub in_phase : b.collector.phase ≡ 5
  pub all_written : b.collector.size < b.collector.index

pub record Settles (b c : Box) : Type 0 where
  pub m_same : c.m ≡ b.m
  pub h_same : c.h ≡ b.h
  pub registers_same : c.registers.words ≡ b.registers.words
  pub register_flags_same : c.registers.flags ≡ b.registers.flags
  pub held_same : c.hold.held ≡ b.hold.held
  pub hold_same : hold_of c ≡ hold_of b
  pub addresses_set : c.directory.addresses ≡ set b.directory.addresses b.collector.tuple b.collector.dest
  pub sizes_same : c.directory.sizes ≡ b.directory.sizes
  pub links_same : c.directory.links ≡ b.directory.links
  pub marks_same : c.directory.marks ≡ b.directory.marks
  pub deeps_same : c.directory.deeps ≡ b.directory.deeps
  pub words_same : c.memory.words ≡ b.memory.words
  pub flags_same : c.memory.flags ≡ b.memory.flags

-- the settled tuples, with this one
abbrev pub settled_now : Box → Ghosts → List ℕ
settled_now b g = g.plan.done ++ (b.collector.tuple ∷ [])

pub settles_shape : (b c : Box) → Settles b c → Shape b → Shape c
settles_shape b c w s = shape_same b c (record {
  m_same = w.m_same;
  h_same = w.h_same;
  words_same = ap length w.words_same;
  flags_same = ap length w.flags_same;
  addresses_same = ap length w.addresses_set ∙ length-set b.directory.addresses b.collector.tuple b.collector.dest;
  sizes_same = ap length w.sizes_same;
  links_same = ap length w.links_same;
  marks_same = ap length w.marks_same;
  deeps_same = ap length w.deeps_same;
  registers_same = ap length w.registers_same;
  register_flags_same = ap length w.register_flags_same;
  held_same = λ e. (sym w.held_same ∙ e, w.hold_same);
}) s

pub size_same : (b c : Box) → Settles b c → (h : ℕ) → size_of h c ≡ size_of h b
size_same b c w h = ap (λ (s : List ℕ). get_or s h 0) w.sizes_same

pub mark_same : (b c : Box) → Settles b c → (h : ℕ) → marked h c ≡ marked h b
mark_same b c w h = ap (λ (s : List Bool). get_or s h false) w.marks_same

pub deep_same : (b c : Box) → Settles b c → (h : ℕ) → deep h c ≡ deep h b
deep_same b c w h = ap (λ (s : List Bool). get_or s h false) w.deeps_same

pub root_same : (b c : Box) → Settles b c → (r : ℕ) → register r c ≡ register r b
root_same b c w r = λ i. record { bits = get_or (w.registers_same i) r 0; flag = get_or (w.register_flags_same i) r false }

pub word_same : (b c : Box) → Settles b c → (a : ℕ) → word_at a c ≡ word_at a b
word_same b c w a = λ i. record { bits = get_or (w.words_same i) a 0; flag = get_or (w.flags_same i) a false }

address_new : (b c : Box) (g : Ghosts) → Inv b g → Move b g → Settles b c → address b.collector.tuple c ≡ b.collector.dest
address_new b c g v m w =
    let f : Bounds b g = bounds b g v m in
    ap (λ (s : List ℕ). get_or s b.collector.tuple 0) w.addresses_set ∙ get_or-set_same b.directory.addresses b.collector.tuple b.collector.dest 0 (omega (arith, v.shape.addresses_length))

address_other : (b c : Box) → Settles b c → (h : ℕ) → h ≢ b.collector.tuple → address h c ≡ address h b
address_other b c w h n = ap (λ (s : List ℕ). get_or s h 0) w.addresses_set ∙ get_or-set_other b.directory.addresses b.collector.tuple h b.collector.dest 0 n

-- ---- the layout

pub settles_done : (b c : Box) (g : Ghosts) → Inv b g → Written b g → Settles b c → Laid c 0 (settled_now b g) (b.collector.dest + b.collector.size + 1)
settles_done b c g v t w = laid_to c 0 (settled_now b g) (b.collector.dest + size_of b.collector.tuple c + 1) (b.collector.dest + b.collector.size + 1) room (laid_snoc c 0 g.plan.done b.collector.dest b.collector.tuple old (address_new b c g v t.move w) control)
  where
    room : b.collector.dest + size_of b.collector.tuple c + 1 ≡ b.collector.dest + b.collector.size + 1
    room = ap (λ (n : ℕ). b.collector.dest + n + 1) (size_same b c w b.collector.tuple ∙ t.move.size_is)

    old : Laid c 0 g.plan.done b.collector.dest
    old = laid_to c 0 g.plan.done g.plan.low b.collector.dest t.move.low_is (laid_frame b c 0 g.plan.done g.plan.low (λ h x. address_other b c w h (done_other b g v t.move h x)) (λ h x. size_same b c w h) (λ h x. word_same b c w (address h b)) v.layout.done_laid)

    first : word b.collector.tuple 0 b ≡ word_at b.collector.dest c
    first =
        let e : b.collector.dest + 0 ≡ b.collector.dest = omega arith in
        word_moved b.collector.tuple 0 b refl (omega (arith, t.in_phase)) (omega (arith, t.in_phase)) (omega (arith, t.all_written)) ∙ ap (λ (a : ℕ). word_at a b) e ∙ sym (word_same b c w b.collector.dest)

    control : Control (word_at b.collector.dest c) b.collector.tuple
    control = subst (λ (u : Word). Control u b.collector.tuple) first t.move.control

pub settles_ahead : (b c : Box) (g : Ghosts) → Inv b g → Move b g → Settles b c → Laid c (b.collector.src + b.collector.size + 1) g.plan.ahead b.top
settles_ahead b c g v m w = subst (λ (a : ℕ). Laid c a g.plan.ahead b.top) m.base_is (laid_frame b c g.plan.base g.plan.ahead b.top (λ h x. address_other b c w h (ahead_other b g v m h x)) (λ h x. size_same b c w h) (λ h x. word_same b c w (address h b)) v.layout.ahead_laid)

-- ---- the words of the kept tuples

pub settles_words : (b c : Box) (g : Ghosts) → Inv b g → Written b g → Settles b c → c.collector.phase < 5 → (h : ℕ) → Kept b g.plan h
    → (i : ℕ) → i ≤ size_of h b → word h i c ≡ word h i b
settles_words b c g v t w p h k i l = place (lies b g v t.move h k)
  where
    elsewhere : h ≢ b.collector.tuple → word h i c ≡ word h i b
    elsewhere n = word_early h i c p ∙ word_same b c w (address h c + i) ∙ ap (λ (a : ℕ). word_at (a + i) b) (address_other b c w h n) ∙ sym (word_other h i b n)

    place : Lies b h → word h i c ≡ word h i b
    place (moved e) =
        let s : size_of h b ≡ b.collector.size = ap (λ (n : ℕ). size_of n b) e ∙ t.move.size_is in
        let a : address h c ≡ b.collector.dest = ap (λ (n : ℕ). address n c) e ∙ address_new b c g v t.move w in
        word_early h i c p ∙ word_same b c w (address h c + i) ∙ ap (λ (x : ℕ). word_at (x + i) b) a ∙ sym (word_moved h i b e (omega (arith, t.in_phase)) (omega (arith, t.in_phase)) (omega (arith, t.all_written)))
    place (below n u) = elsewhere n
    place (above n u) = elsewhere n

-- ---- the handles

pub settled_perm : (b : Box) (g : Ghosts) → Move b g → Perm (all g.plan g.free) (settled_now b g ++ ([] ++ (g.plan.ahead ++ g.free)))
settled_perm b g m = subst (λ (ms : List ℕ). Perm (g.plan.done ++ (ms ++ (g.plan.ahead ++ g.free))) (settled_now b g ++ ([] ++ (g.plan.ahead ++ g.free)))) (sym m.mid_is) (perm_mid_done b.collector.tuple g.plan.done g.plan.ahead g.free)

pub now_settled : (b : Box) (g : Ghosts) → Move b g → (h : ℕ) → Member h g.plan.mid → Member h (settled_now b g)
now_settled b g m h x = member_right h g.plan.done (b.collector.tuple ∷ []) (inl (mid_only b g m h x))

-- a settled tuple was settled, or is the one moved
data Was (b : Box) (g : Ghosts) (h : ℕ) : Type 0 where
  was_done : Member h g.plan.done → Was b g h
  was_mid : Member h g.plan.mid → Was b g h

was : (b : Box) (g : Ghosts) → Move b g → (h : ℕ) → Member h (settled_now b g) → Was b g h
was b g m h x = go (member_cases h g.plan.done (b.collector.tuple ∷ []) x)
  where
    go : Member h g.plan.done ⊎ Member h (b.collector.tuple ∷ []) → Was b g h
    go (inl y) = was_done y
    go (inr y) = was_mid (subst (λ (hs : List ℕ). Member h hs) (sym m.mid_is) y)

pub was_kept : (b : Box) (g : Ghosts) → Move b g → (h : ℕ) → Member h (settled_now b g) → Kept b g.plan h
was_kept b g m h x = go (was b g m h x)
  where
    go : Was b g h → Kept b g.plan h
    go (was_done y) = settled y
    go (was_mid y) = moving y

pub settles_unmarked : (b c : Box) (g : Ghosts) → Inv b g → Move b g → Settles b c → (h : ℕ) → Member h (settled_now b g) → marked h c ≡ false
settles_unmarked b c g v m w h x = mark_same b c w h ∙ go (was b g m h x)
  where
    go : Was b g h → marked h b ≡ false
    go (was_done y) = v.marks.done_unmarked h y
    go (was_mid y) = v.marks.mid_unmarked h y
