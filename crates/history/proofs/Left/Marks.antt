-- The steps left fall with each transition from Rest and of marking, whatever ghosts the invariant holds with after it: the tuples
-- ahead are those before it, and the lists of tuples that wait for a scan are the chains that the transition leaves. Each is stated
-- over any box c that has the columns and numbers that the transition leaves. Assumes nothing.
use Prim.Native.Nat.{ℕ, ◌≤◌, ◌<◌}
use mathlib.Core.Bool.{Bool, true, false, false≢true}
use mathlib.Core.List.{List, [], ◌∷◌}
use mathlib.Core.Logic.{◌≢◌, ◌⊎◌, inl, inr}
use mathlib.Core.Path.{◌≡◌, sym, ap, ◌∙◌, subst}
use native.Mathlib.Omega.{arith}
use lib.ListN.{length, get_or, set}
use lib.Seq.{get_or-set_same, get_or-set_other}
use Rattle.rules.specs.Parts.{Box}
use Rattle.rules.specs.Box.{size_of, link, marked}
use Rattle.history.specs.Agreement.{Member}
use Rattle.history.proofs.Invariant.Statement.{Ghosts, Inv, Laid, Chain, listed}
use Rattle.history.proofs.Lists.Handles.{parts}
use Rattle.history.proofs.Lists.Chain.{chain_push, chain_set_other, chain_head}
use Rattle.history.proofs.Lists.Laid.{laid_from}
use Rattle.history.proofs.Left.Count.{left, SameSizes, SameMarks}
use Rattle.history.proofs.Left.Falls.{SameAhead, SameMarking, SameLists, SamePlace, OneOn, Shaded, falls_rest, falls_takes_next, falls_shades_root, falls_begins_sweep, falls_scans_data, falls_scans_pointer, falls_scan_ends, falls_takes_current, falls_adds_marked, falls_adds_unmarked}
use Rattle.history.proofs.Invariant.Fixed.{same_columns, ahead_carried, base_unswept, base_sweep, nexts_entry, currents_entry, nexts_listed, currents_listed, nexts_fixed, currents_fixed}
use Rattle.history.proofs.Invariant.Stages.{ahead_entry}

-- ---- what a transition leaves

-- memory and the directory's addresses and sizes stay
pub record SameHeap (b c : Box) : Type 0 where
  pub addresses_are : c.directory.addresses ≡ b.directory.addresses
  pub sizes_are : c.directory.sizes ≡ b.directory.sizes
  pub words_are : c.memory.words ≡ b.memory.words
  pub flags_are : c.memory.flags ≡ b.memory.flags
  pub top_is : c.top ≡ b.top

-- and so do the marks and links
pub record SameEntries (b c : Box) : Type 0 where
  pub heap : SameHeap b c
  pub marks_are : c.directory.marks ≡ b.directory.marks
  pub links_are : c.directory.links ≡ b.directory.links

-- and the heads of the two lists
pub record SameHeads (b c : Box) : Type 0 where
  pub next_is : c.collector.next ≡ b.collector.next
  pub current_is : c.collector.current ≡ b.collector.current

-- h is marked, and perhaps becomes the head of the next list
pub data Listing (b c : Box) (h : ℕ) : Type 0 where
  unlisted : c.directory.links ≡ b.directory.links → c.collector.next ≡ b.collector.next → Listing b c h
  listed_first : c.directory.links ≡ set b.directory.links h b.collector.next → c.collector.next ≡ h → Listing b c h

pub record ShadedBox (b c : Box) (h : ℕ) : Type 0 where
  pub heap : SameHeap b c
  pub marks_are : c.directory.marks ≡ set b.directory.marks h true
  pub listing : Listing b c h
  pub current_is : c.collector.current ≡ b.collector.current

pub same_sizes : (b c : Box) → SameHeap b c → SameSizes b c
same_sizes b c s h = ap (λ (l : List ℕ). get_or l h 0) s.sizes_are

pub same_marks : (b c : Box) → SameEntries b c → SameMarks b c
same_marks b c s h = ap (λ (l : List Bool). get_or l h false) s.marks_are

-- ---- the tuples ahead stay

unswept_laid : (b : Box) (g : Ghosts) → Inv b g → b.collector.phase ≤ 3 → Laid b 0 g.plan.ahead b.top
unswept_laid b g v l = laid_from b g.plan.base 0 g.plan.ahead b.top (base_unswept b g v l) v.layout.ahead_laid

-- they begin at word 0 in c
same_ahead_at : (b : Box) (g : Ghosts) (c : Box) (g' : Ghosts) → Inv b g → Inv c g' → SameHeap b c → b.collector.phase ≤ 3 → g'.plan.base ≡ 0 → SameAhead b g c g'
same_ahead_at b g c g' v w s l e =
    record {
      sizes = same_sizes b c s;
      ahead = ahead_carried b c g' 0 g.plan.ahead (unswept_laid b g v l) (same_columns b c 0 g.plan.ahead s.addresses_are s.sizes_are s.words_are s.flags_are s.top_is) w e;
    }

same_ahead : (b : Box) (g : Ghosts) (c : Box) (g' : Ghosts) → Inv b g → Inv c g' → SameHeap b c → b.collector.phase ≤ 3 → c.collector.phase ≤ 3 → SameAhead b g c g'
same_ahead b g c g' v w s l k = same_ahead_at b g c g' v w s l (base_unswept c g' w k)

same_marking : (b : Box) (g : Ghosts) (c : Box) (g' : Ghosts) → Inv b g → Inv c g' → SameEntries b c → b.collector.phase ≤ 3 → c.collector.phase ≤ 3 → SameMarking b g c g'
same_marking b g c g' v w s l k = record { same = same_ahead b g c g' v w s.heap l k; marks = same_marks b c s }

-- ---- the lists stay

same_nexts : (b : Box) (g : Ghosts) (c : Box) (g' : Ghosts) → Inv b g → Inv c g' → c.directory.links ≡ b.directory.links → c.collector.next ≡ b.collector.next
    → g'.scans.nexts ≡ g.scans.nexts
same_nexts b g c g' v w e f = nexts_fixed c g' g.scans.nexts w (nexts_entry b g v) (rw (e, f) v.marks.nexts_chain)

same_currents : (b : Box) (g : Ghosts) (c : Box) (g' : Ghosts) → Inv b g → Inv c g' → c.directory.links ≡ b.directory.links
    → c.collector.current ≡ b.collector.current → g'.scans.currents ≡ g.scans.currents
same_currents b g c g' v w e f = currents_fixed c g' g.scans.currents w (currents_entry b g v) (rw (e, f) v.marks.currents_chain)

pub same_lists : (b : Box) (g : Ghosts) (c : Box) (g' : Ghosts) → Inv b g → Inv c g' → SameEntries b c → SameHeads b c → SameLists g g'
same_lists b g c g' v w s h = record { nexts = same_nexts b g c g' v w s.links_are h.next_is; currents = same_currents b g c g' v w s.links_are h.current_is }

-- ---- 0

pub left_rests : (b : Box) (g : Ghosts) (c : Box) (g' : Ghosts) → Inv b g → Inv c g' → b.collector.phase ≡ 0 → c.collector.phase ≡ 1
    → SameHeap b c → c.collector.next ≡ 0 → c.collector.current ≡ 0 → left c g' < left b g
left_rests b g c g' v w p q s n m =
    falls_rest b g c g' p q (same_ahead b g c g' v w s (omega arith) (omega arith)) (nexts_fixed c g' [] w (λ h x. absurd x) n) (currents_fixed c g' [] w (λ h x. absurd x) m)

-- ---- 1

pub left_takes_next : (b : Box) (g : Ghosts) (c : Box) (g' : Ghosts) → Inv b g → Inv c g' → b.collector.phase ≡ 1 → c.collector.phase ≡ 2 → SameEntries b c
    → b.collector.next ≢ 0 → c.collector.next ≡ 0 → c.collector.current ≡ link b.collector.next b → c.collector.size ≡ size_of b.collector.next b
    → c.collector.index ≡ 1 → left c g' < left b g
left_takes_next b g c g' v w p q s some none behind z i =
    let t : (tl : List ℕ) × (g.scans.nexts ≡ b.collector.next ∷ tl) × Chain b.directory.links (link b.collector.next b) tl = chain_head b.directory.links b.collector.next g.scans.nexts v.marks.nexts_chain some in
    let taken : g'.scans.currents ≡ t.0 = currents_fixed c g' t.0 w (λ h m. nexts_entry b g v h (subst (λ (l : List ℕ). Member h l) (sym t.1) (inr m))) (rw (s.links_are, behind) t.2) in
    falls_takes_next b g c g' b.collector.next p q (same_marking b g c g' v w s (omega arith) (omega arith)) z i
    (t.1 ∙ ap (λ (l : List ℕ). b.collector.next ∷ l) (sym taken))
    (nexts_fixed c g' [] w (λ h x. absurd x) none)

-- an unmarked tuple ahead is marked
shaded : (b : Box) (g : Ghosts) (c : Box) (g' : Ghosts) (h : ℕ) → Inv b g → Inv c g' → b.collector.phase ≤ 3 → c.collector.phase ≤ 3 → ShadedBox b c h
    → Member h g.plan.ahead → marked h b ≡ false → Shaded b g c g' h
shaded b g c g' h v w l k s m f =
    record {
      same = same_ahead b g c g' v w s.heap l k;
      distinct = (parts g.plan.done g.plan.mid g.plan.ahead g.free v.handles.distinct).ahead_distinct;
      member = m;
      before = f;
      then = ap (λ (t : List Bool). get_or t h false) s.marks_are ∙ get_or-set_same b.directory.marks h true false within_marks;
      others = λ x n. ap (λ (t : List Bool). get_or t x false) s.marks_are ∙ get_or-set_other b.directory.marks h x true false n;
      nexts = by_listing s.listing;
      currents = by_links s.listing;
    }
  where
    entry : (1 ≤ h) × (h < b.h)
    entry = ahead_entry b g.plan g.free h v.handles m

    within_marks : h < length b.directory.marks
    within_marks = omega (arith, entry.1, v.shape.marks_length)

    within_links : h < length b.directory.links
    within_links = omega (arith, entry.1, v.shape.links_length)

    waits_not : ¬ Member h (listed g.scans)
    waits_not n = false≢true (sym f ∙ v.marks.listed_marked h n)

    pushed : (x : ℕ) → Member x (h ∷ g.scans.nexts) → 1 ≤ x
    pushed x (inl e) = subst (λ (n : ℕ). 1 ≤ n) (sym e) entry.0
    pushed x (inr n) = nexts_entry b g v x n

    by_listing : Listing b c h → (g'.scans.nexts ≡ g.scans.nexts) ⊎ (g'.scans.nexts ≡ h ∷ g.scans.nexts)
    by_listing (unlisted e n) = inl (same_nexts b g c g' v w e n)
    by_listing (listed_first e n) =
        inr
        (nexts_fixed c g' (h ∷ g.scans.nexts) w pushed
        (subst (λ (l : List ℕ). Chain l c.collector.next (h ∷ g.scans.nexts)) (sym e)
        (subst (λ (k : ℕ). Chain (set b.directory.links h b.collector.next) k (h ∷ g.scans.nexts)) (sym n)
        (chain_push b.directory.links b.collector.next g.scans.nexts h v.marks.nexts_chain (λ x. waits_not (nexts_listed g.scans h x)) within_links))))

    by_links : Listing b c h → g'.scans.currents ≡ g.scans.currents
    by_links (unlisted e n) = same_currents b g c g' v w e s.current_is
    by_links (listed_first e n) =
        currents_fixed c g' g.scans.currents w (currents_entry b g v)
        (rw (e, s.current_is) (chain_set_other b.directory.links b.collector.current g.scans.currents h b.collector.next (λ x. waits_not (currents_listed g.scans h x)) v.marks.currents_chain))

pub left_shades_root : (b : Box) (g : Ghosts) (c : Box) (g' : Ghosts) (h : ℕ) → Inv b g → Inv c g' → b.collector.phase ≡ 1 → c.collector.phase ≡ 1 → ShadedBox b c h
    → Member h g.plan.ahead → marked h b ≡ false → left c g' < left b g
left_shades_root b g c g' h v w p q s m f = falls_shades_root b g c g' h p q (shaded b g c g' h v w (omega arith) (omega arith) s m f)

pub left_begins_sweep : (b : Box) (g : Ghosts) (c : Box) (g' : Ghosts) → Inv b g → Inv c g' → b.collector.phase ≡ 1 → c.collector.phase ≡ 4 → SameHeap b c
    → c.collector.src ≡ 0 → left c g' < left b g
left_begins_sweep b g c g' v w p q s z = falls_begins_sweep b g c g' p q (same_ahead_at b g c g' v w s (omega arith) (base_sweep c g' w q ∙ z))

-- ---- 2

pub left_scans_data : (b : Box) (g : Ghosts) (c : Box) (g' : Ghosts) → Inv b g → Inv c g' → b.collector.phase ≡ 2 → c.collector.phase ≡ 2 → SameEntries b c → SameHeads b c
    → OneOn b c → left c g' < left b g
left_scans_data b g c g' v w p q s h o =
    falls_scans_data b g c g' p q (same_marking b g c g' v w s (omega arith) (omega arith)) (same_lists b g c g' v w s h) o

pub left_scans_pointer : (b : Box) (g : Ghosts) (c : Box) (g' : Ghosts) → Inv b g → Inv c g' → b.collector.phase ≡ 2 → c.collector.phase ≡ 3 → SameEntries b c → SameHeads b c
    → OneOn b c → left c g' < left b g
left_scans_pointer b g c g' v w p q s h o =
    falls_scans_pointer b g c g' p q (same_marking b g c g' v w s (omega arith) (omega arith)) (same_lists b g c g' v w s h) o

pub left_scan_ends : (b : Box) (g : Ghosts) (c : Box) (g' : Ghosts) → Inv b g → Inv c g' → b.collector.phase ≡ 2 → c.collector.phase ≡ 1 → SameEntries b c → SameHeads b c
    → left c g' < left b g
left_scan_ends b g c g' v w p q s h = falls_scan_ends b g c g' p q (same_marking b g c g' v w s (omega arith) (omega arith)) (same_lists b g c g' v w s h)

pub left_takes_current : (b : Box) (g : Ghosts) (c : Box) (g' : Ghosts) → Inv b g → Inv c g' → b.collector.phase ≡ 2 → c.collector.phase ≡ 2 → SameEntries b c
    → b.collector.current ≢ 0 → c.collector.next ≡ b.collector.next → c.collector.current ≡ link b.collector.current b
    → c.collector.size ≡ size_of b.collector.current b → c.collector.index ≡ 1
    → left c g' < left b g
left_takes_current b g c g' v w p q s some n behind z i =
    let t : (tl : List ℕ) × (g.scans.currents ≡ b.collector.current ∷ tl) × Chain b.directory.links (link b.collector.current b) tl = chain_head b.directory.links b.collector.current g.scans.currents v.marks.currents_chain some in
    let taken : g'.scans.currents ≡ t.0 = currents_fixed c g' t.0 w (λ h m. currents_entry b g v h (subst (λ (l : List ℕ). Member h l) (sym t.1) (inr m))) (rw (s.links_are, behind) t.2) in
    falls_takes_current b g c g' b.collector.current p q (same_marking b g c g' v w s (omega arith) (omega arith)) z i
    (t.1 ∙ ap (λ (l : List ℕ). b.collector.current ∷ l) (sym taken))
    (same_nexts b g c g' v w s.links_are n)

-- ---- 3

pub left_adds_marked : (b : Box) (g : Ghosts) (c : Box) (g' : Ghosts) → Inv b g → Inv c g' → b.collector.phase ≡ 3 → c.collector.phase ≡ 2 → SameEntries b c → SameHeads b c
    → SamePlace b c → left c g' < left b g
left_adds_marked b g c g' v w p q s h o =
    falls_adds_marked b g c g' p q (same_marking b g c g' v w s (omega arith) (omega arith)) (same_lists b g c g' v w s h) o

pub left_adds_unmarked : (b : Box) (g : Ghosts) (c : Box) (g' : Ghosts) (h : ℕ) → Inv b g → Inv c g' → b.collector.phase ≡ 3 → c.collector.phase ≡ 2 → ShadedBox b c h
    → Member h g.plan.ahead → marked h b ≡ false → SamePlace b c → left c g' < left b g
left_adds_unmarked b g c g' h v w p q s m f o = falls_adds_unmarked b g c g' h p q (shaded b g c g' h v w (omega arith) (omega arith) s m f) o
