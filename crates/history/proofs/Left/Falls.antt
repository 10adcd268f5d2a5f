-- The count of the steps left falls with every transition of the collector that ends no cycle, from box b to box c: over any boxes
-- and ghosts that are related as the transition says in what the count reads. Each opens the count at the two phases and compares the
-- sums. Assumes nothing.
use Prim.Native.Nat.{ℕ, ◌+◌, ◌*◌, ◌≤◌, ◌<◌}
use mathlib.Core.Bool.{true, false}
use mathlib.Core.List.{List, [], ◌∷◌}
use mathlib.Core.Logic.{◌≢◌, ◌⊎◌, inl, inr}
use mathlib.Core.Path.{◌≡◌, sym, ap, ◌∙◌}
use native.Mathlib.Omega.{arith}
use Rattle.rules.specs.Parts.{Box}
use Rattle.rules.specs.Box.{size_of, marked}
use Rattle.history.specs.Agreement.{Member, Distinct}
use Rattle.history.proofs.Invariant.Statement.{Ghosts}
use Rattle.history.proofs.Lists.Sums.{unmarked_total, total_add, unmarked_total_le, unmarked_total_mark}
use Rattle.history.proofs.Left.Count.{marking_left, left, left_rest, left_next, left_scan, left_add, left_sweep, left_read, left_clear, left_write, left_zero, SameSizes, SameMarks, total_same, total_first, total_empty, unmarked_same}

-- ---- what the count reads, from b and g to c and g'

-- the tuples ahead stay
pub record SameAhead (b : Box) (g : Ghosts) (c : Box) (g' : Ghosts) : Type 0 where
  pub sizes : SameSizes b c
  pub ahead : g'.plan.ahead ≡ g.plan.ahead

-- their first is gone
pub record FirstGone (b : Box) (g : Ghosts) (c : Box) (g' : Ghosts) (h : ℕ) : Type 0 where
  pub sizes : SameSizes b c
  pub ahead : g.plan.ahead ≡ h ∷ g'.plan.ahead

-- marking goes on with other lists
pub record SameMarking (b : Box) (g : Ghosts) (c : Box) (g' : Ghosts) : Type 0 where
  pub same : SameAhead b g c g'
  pub marks : SameMarks b c

pub record SameLists (g g' : Ghosts) : Type 0 where
  pub nexts : g'.scans.nexts ≡ g.scans.nexts
  pub currents : g'.scans.currents ≡ g.scans.currents

-- the same place in the same tuple, or one word on
pub record SamePlace (b c : Box) : Type 0 where
  pub size : c.collector.size ≡ b.collector.size
  pub index : c.collector.index ≡ b.collector.index

pub record OneOn (b c : Box) : Type 0 where
  pub size : c.collector.size ≡ b.collector.size
  pub index : c.collector.index ≡ b.collector.index + 1
  pub within : b.collector.index ≤ b.collector.size

-- a tuple ahead is marked, and perhaps listed
pub record Shaded (b : Box) (g : Ghosts) (c : Box) (g' : Ghosts) (h : ℕ) : Type 0 where
  pub same : SameAhead b g c g'
  pub distinct : Distinct g.plan.ahead
  pub member : Member h g.plan.ahead
  pub before : marked h b ≡ false
  pub then : marked h c ≡ true
  pub others : (x : ℕ) → x ≢ h → marked x c ≡ marked x b
  pub nexts : (g'.scans.nexts ≡ g.scans.nexts) ⊎ (g'.scans.nexts ≡ h ∷ g.scans.nexts)
  pub currents : g'.scans.currents ≡ g.scans.currents

-- ---- 0

pub falls_rest : (b : Box) (g : Ghosts) (c : Box) (g' : Ghosts) → b.collector.phase ≡ 0 → c.collector.phase ≡ 1
    → SameAhead b g c g' → g'.scans.nexts ≡ [] → g'.scans.currents ≡ [] → left c g' < left b g
unfolding marking_left
falls_rest b g c g' p q s n m =
    omega (
      arith,
      left_rest b g p,
      left_next c g' q,
      total_add 3 5 2 3 b g.plan.ahead,
      total_same 3 5 b c g.plan.ahead g'.plan.ahead s.sizes s.ahead,
      total_same 2 3 b c g.plan.ahead g'.plan.ahead s.sizes s.ahead,
      unmarked_total_le 2 3 c g'.plan.ahead,
      total_empty 2 2 c g'.scans.nexts n,
      total_empty 2 2 c g'.scans.currents m,
    )

-- ---- 1

pub marking_same : (b : Box) (g : Ghosts) (c : Box) (g' : Ghosts) → SameMarking b g c g' → SameLists g g' → marking_left c g' ≡ marking_left b g
unfolding marking_left
marking_same b g c g' s l =
    omega (
      arith,
      total_same 3 5 b c g.plan.ahead g'.plan.ahead s.same.sizes s.same.ahead,
      unmarked_same 2 3 b c g.plan.ahead g'.plan.ahead s.same.sizes s.marks s.same.ahead,
      total_same 2 2 b c g.scans.nexts g'.scans.nexts s.same.sizes l.nexts,
      total_same 2 2 b c g.scans.currents g'.scans.currents s.same.sizes l.currents,
    )

-- the first of the next list is taken to scan, and the rest becomes current
pub falls_takes_next : (b : Box) (g : Ghosts) (c : Box) (g' : Ghosts) (h : ℕ) → b.collector.phase ≡ 1 → c.collector.phase ≡ 2 → SameMarking b g c g'
    → c.collector.size ≡ size_of h b → c.collector.index ≡ 1 → g.scans.nexts ≡ h ∷ g'.scans.currents → g'.scans.nexts ≡ [] → left c g' < left b g
unfolding marking_left
falls_takes_next b g c g' h p q s z i l n =
    omega (
      arith,
      left_next b g p,
      left_scan c g' q,
      total_same 3 5 b c g.plan.ahead g'.plan.ahead s.same.sizes s.same.ahead,
      unmarked_same 2 3 b c g.plan.ahead g'.plan.ahead s.same.sizes s.marks s.same.ahead,
      total_empty 2 2 c g'.scans.nexts n,
      total_first 2 2 b c h g.scans.nexts g'.scans.currents s.same.sizes l,
    )

-- a tuple that is marked was to be marked and scanned, and is at most to be scanned
marking_shaded : (b : Box) (g : Ghosts) (c : Box) (g' : Ghosts) (h : ℕ) → Shaded b g c g' h → marking_left c g' < marking_left b g
unfolding marking_left
marking_shaded b g c g' h s = by_list s.nexts
  where
    unmarked_before : unmarked_total 2 3 c g'.plan.ahead + (2 * size_of h b + 3) ≡ unmarked_total 2 3 b g.plan.ahead
    unmarked_before =
        ap (λ (l : List ℕ). unmarked_total 2 3 c l + (2 * size_of h b + 3)) s.same.ahead ∙
        unmarked_total_mark 2 3 b c g.plan.ahead h s.distinct s.member s.before s.then (λ x m. s.same.sizes x) (λ x m. s.others x)

    by_list : (g'.scans.nexts ≡ g.scans.nexts) ⊎ (g'.scans.nexts ≡ h ∷ g.scans.nexts) → marking_left c g' < marking_left b g
    by_list (inl e) =
        omega (
          arith,
          unmarked_before,
          total_same 3 5 b c g.plan.ahead g'.plan.ahead s.same.sizes s.same.ahead,
          total_same 2 2 b c g.scans.nexts g'.scans.nexts s.same.sizes e,
          total_same 2 2 b c g.scans.currents g'.scans.currents s.same.sizes s.currents,
        )
    by_list (inr e) =
        omega (
          arith,
          unmarked_before,
          total_same 3 5 b c g.plan.ahead g'.plan.ahead s.same.sizes s.same.ahead,
          total_first 2 2 c b h g'.scans.nexts g.scans.nexts (λ x. sym (s.same.sizes x)) e,
          s.same.sizes h,
          total_same 2 2 b c g.scans.currents g'.scans.currents s.same.sizes s.currents,
        )

pub falls_shades_root : (b : Box) (g : Ghosts) (c : Box) (g' : Ghosts) (h : ℕ) → b.collector.phase ≡ 1 → c.collector.phase ≡ 1
    → Shaded b g c g' h → left c g' < left b g
falls_shades_root b g c g' h p q s = omega (arith, left_next b g p, left_next c g' q, marking_shaded b g c g' h s)

pub falls_begins_sweep : (b : Box) (g : Ghosts) (c : Box) (g' : Ghosts) → b.collector.phase ≡ 1 → c.collector.phase ≡ 4
    → SameAhead b g c g' → left c g' < left b g
unfolding marking_left
falls_begins_sweep b g c g' p q s =
    omega (
      arith,
      left_next b g p,
      left_sweep c g' q,
      total_same 3 5 b c g.plan.ahead g'.plan.ahead s.sizes s.ahead,
    )

-- ---- 2

-- a word is passed over
pub falls_scans_data : (b : Box) (g : Ghosts) (c : Box) (g' : Ghosts) → b.collector.phase ≡ 2 → c.collector.phase ≡ 2
    → SameMarking b g c g' → SameLists g g' → OneOn b c → left c g' < left b g
falls_scans_data b g c g' p q s l o = omega (arith, left_scan b g p, left_scan c g' q, marking_same b g c g' s l)

-- a word names a tuple
pub falls_scans_pointer : (b : Box) (g : Ghosts) (c : Box) (g' : Ghosts) → b.collector.phase ≡ 2 → c.collector.phase ≡ 3
    → SameMarking b g c g' → SameLists g g' → OneOn b c → left c g' < left b g
falls_scans_pointer b g c g' p q s l o = omega (arith, left_scan b g p, left_add c g' q, marking_same b g c g' s l)

pub falls_scan_ends : (b : Box) (g : Ghosts) (c : Box) (g' : Ghosts) → b.collector.phase ≡ 2 → c.collector.phase ≡ 1
    → SameMarking b g c g' → SameLists g g' → left c g' < left b g
falls_scan_ends b g c g' p q s l = omega (arith, left_scan b g p, left_next c g' q, marking_same b g c g' s l)

-- the first of the current list is taken to scan
pub falls_takes_current : (b : Box) (g : Ghosts) (c : Box) (g' : Ghosts) (h : ℕ) → b.collector.phase ≡ 2 → c.collector.phase ≡ 2 → SameMarking b g c g'
    → c.collector.size ≡ size_of h b → c.collector.index ≡ 1 → g.scans.currents ≡ h ∷ g'.scans.currents → g'.scans.nexts ≡ g.scans.nexts
    → left c g' < left b g
unfolding marking_left
falls_takes_current b g c g' h p q s z i l n =
    omega (
      arith,
      left_scan b g p,
      left_scan c g' q,
      total_same 3 5 b c g.plan.ahead g'.plan.ahead s.same.sizes s.same.ahead,
      unmarked_same 2 3 b c g.plan.ahead g'.plan.ahead s.same.sizes s.marks s.same.ahead,
      total_same 2 2 b c g.scans.nexts g'.scans.nexts s.same.sizes n,
      total_first 2 2 b c h g.scans.currents g'.scans.currents s.same.sizes l,
    )

-- ---- 3

pub falls_adds_marked : (b : Box) (g : Ghosts) (c : Box) (g' : Ghosts) → b.collector.phase ≡ 3 → c.collector.phase ≡ 2
    → SameMarking b g c g' → SameLists g g' → SamePlace b c → left c g' < left b g
falls_adds_marked b g c g' p q s l o = omega (arith, left_add b g p, left_scan c g' q, marking_same b g c g' s l)

pub falls_adds_unmarked : (b : Box) (g : Ghosts) (c : Box) (g' : Ghosts) (h : ℕ) → b.collector.phase ≡ 3 → c.collector.phase ≡ 2
    → Shaded b g c g' h → SamePlace b c → left c g' < left b g
falls_adds_unmarked b g c g' h p q s o = omega (arith, left_add b g p, left_scan c g' q, marking_shaded b g c g' h s)

-- ---- 4

-- a tuple is kept in place or released, and the sweep goes on behind it
pub falls_sweeps_on : (b : Box) (g : Ghosts) (c : Box) (g' : Ghosts) (h : ℕ) → b.collector.phase ≡ 4 → c.collector.phase ≡ 4
    → FirstGone b g c g' h → left c g' < left b g
falls_sweeps_on b g c g' h p q f =
    omega (arith, left_sweep b g p, left_sweep c g' q, total_first 3 5 b c h g.plan.ahead g'.plan.ahead f.sizes f.ahead)

pub falls_starts_move : (b : Box) (g : Ghosts) (c : Box) (g' : Ghosts) (h : ℕ) → b.collector.phase ≡ 4 → c.collector.phase ≡ 5
    → FirstGone b g c g' h → c.collector.size ≡ size_of h b → left c g' < left b g
falls_starts_move b g c g' h p q f z =
    omega (arith, left_sweep b g p, left_read c g' q, total_first 3 5 b c h g.plan.ahead g'.plan.ahead f.sizes f.ahead)

pub falls_starts_zero : (b : Box) (g : Ghosts) (c : Box) (g' : Ghosts) (h : ℕ) → b.collector.phase ≡ 4 → c.collector.phase ≡ 8
    → FirstGone b g c g' h → c.collector.size ≡ size_of h b → left c g' < left b g
falls_starts_zero b g c g' h p q f z =
    omega (arith, left_sweep b g p, left_zero c g' q, total_first 3 5 b c h g.plan.ahead g'.plan.ahead f.sizes f.ahead)

-- ---- 5

pub falls_copies_high : (b : Box) (g : Ghosts) (c : Box) (g' : Ghosts) → b.collector.phase ≡ 5 → c.collector.phase ≡ 6
    → SameAhead b g c g' → SamePlace b c → left c g' < left b g
falls_copies_high b g c g' p q s o =
    omega (arith, left_read b g p, left_clear c g' q, total_same 3 5 b c g.plan.ahead g'.plan.ahead s.sizes s.ahead)

pub falls_copies_low : (b : Box) (g : Ghosts) (c : Box) (g' : Ghosts) → b.collector.phase ≡ 5 → c.collector.phase ≡ 7
    → SameAhead b g c g' → SamePlace b c → left c g' < left b g
falls_copies_low b g c g' p q s o =
    omega (arith, left_read b g p, left_write c g' q, total_same 3 5 b c g.plan.ahead g'.plan.ahead s.sizes s.ahead)

-- the tuple has been moved, and the sweep goes on behind where it was
pub falls_moves_on : (b : Box) (g : Ghosts) (c : Box) (g' : Ghosts) → b.collector.phase ≡ 5 → c.collector.phase ≡ 4
    → SameAhead b g c g' → left c g' < left b g
falls_moves_on b g c g' p q s =
    omega (arith, left_read b g p, left_sweep c g' q, total_same 3 5 b c g.plan.ahead g'.plan.ahead s.sizes s.ahead)

-- ---- 6 and 7

pub falls_clears : (b : Box) (g : Ghosts) (c : Box) (g' : Ghosts) → b.collector.phase ≡ 6 → c.collector.phase ≡ 7
    → SameAhead b g c g' → SamePlace b c → b.collector.index ≤ b.collector.size → left c g' < left b g
falls_clears b g c g' p q s o i =
    omega (arith, left_clear b g p, left_write c g' q, total_same 3 5 b c g.plan.ahead g'.plan.ahead s.sizes s.ahead)

pub falls_writes : (b : Box) (g : Ghosts) (c : Box) (g' : Ghosts) → b.collector.phase ≡ 7 → c.collector.phase ≡ 5
    → SameAhead b g c g' → OneOn b c → left c g' < left b g
falls_writes b g c g' p q s o =
    omega (arith, left_write b g p, left_read c g' q, total_same 3 5 b c g.plan.ahead g'.plan.ahead s.sizes s.ahead)

-- ---- 8

pub falls_zeroes : (b : Box) (g : Ghosts) (c : Box) (g' : Ghosts) → b.collector.phase ≡ 8 → c.collector.phase ≡ 8
    → SameAhead b g c g' → OneOn b c → left c g' < left b g
falls_zeroes b g c g' p q s o =
    omega (arith, left_zero b g p, left_zero c g' q, total_same 3 5 b c g.plan.ahead g'.plan.ahead s.sizes s.ahead)

pub falls_zero_on : (b : Box) (g : Ghosts) (c : Box) (g' : Ghosts) → b.collector.phase ≡ 8 → c.collector.phase ≡ 4
    → SameAhead b g c g' → left c g' < left b g
falls_zero_on b g c g' p q s =
    omega (arith, left_zero b g p, left_sweep c g' q, total_same 3 5 b c g.plan.ahead g'.plan.ahead s.sizes s.ahead)
