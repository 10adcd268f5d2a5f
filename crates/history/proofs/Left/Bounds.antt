-- How many steps are left in a cycle of a grown box: at least one, and at most 8 top + 2. The tuples ahead lie end to end up to top,
-- and each takes at most 8 steps for each of its words; of marking, a tuple has either to be marked or, once listed, to be scanned,
-- since the listed tuples are distinct, marked and ahead. Assumes nothing.
use Prim.Native.Nat.{ℕ, ◌+◌, ◌*◌, ◌≤◌}
use mathlib.Core.List.{List, [], ◌++◌}
use mathlib.Core.Path.{◌≡◌, ap}
use native.Mathlib.Omega.{arith}
use Rattle.rules.specs.Parts.{Box}
use Rattle.history.proofs.Invariant.Statement.{Ghosts, Inv, listed, rooms, Scan, Stage, at_rest, finding, scanning, adding, sweeping, reading, clearing, writing, zeroing}
use Rattle.history.proofs.Lists.Laid.{laid_rooms}
use Rattle.history.proofs.Lists.Sums.{total, unmarked_total, total_none, total_cons, total_append, total_add, total_le, total_rooms, total_marked_members}
use Rattle.history.proofs.Left.Count.{marking_left, left, left_rest, left_next, left_scan, left_add, left_sweep, left_read, left_clear, left_write, left_zero}

-- ---- at least one

pub left_positive : (b : Box) (g : Ghosts) → Inv b g → 1 ≤ left b g
unfolding marking_left
left_positive b g v = by_stage v.stage
  where
    by_stage : Stage b g → 1 ≤ left b g
    by_stage (at_rest p u l n) = omega (arith, left_rest b g p)
    by_stage (finding p u m n) = omega (arith, left_next b g p)
    by_stage (scanning p u s c k) = omega (arith, left_scan b g p)
    by_stage (adding p u s c t k) = omega (arith, left_add b g p)
    by_stage (sweeping p l m w a z hs e) =
        omega (arith, left_sweep b g p, ap (λ (ks : List ℕ). total 3 5 b ks) e, total_cons 3 5 b b.collector.tuple hs)
    by_stage (reading p m i z) = omega (arith, left_read b g p)
    by_stage (clearing p m i z) = omega (arith, left_clear b g p)
    by_stage (writing p m i z) = omega (arith, left_write b g p)
    by_stage (zeroing p l m w a d i z) = omega (arith, left_zero b g p)

-- ---- at most 8 top + 2

-- what lies ahead takes the words from base to top
ahead_rooms : (b : Box) (g : Ghosts) → Inv b g → g.plan.base + rooms b g.plan.ahead ≡ b.top
ahead_rooms b g v = laid_rooms b g.plan.base g.plan.ahead b.top v.layout.ahead_laid

-- the tuples to be marked and those listed
listed_total : (b : Box) (g : Ghosts) → Inv b g
    → total 2 2 b g.scans.gray + (total 2 2 b g.scans.nexts + total 2 2 b g.scans.currents) + unmarked_total 2 3 b g.plan.ahead ≤ total 2 3 b g.plan.ahead
listed_total b g v =
    omega (
      arith,
      total_append 2 2 b g.scans.gray (g.scans.nexts ++ g.scans.currents),
      total_append 2 2 b g.scans.nexts g.scans.currents,
      total_le 2 2 2 3 b (listed g.scans) (omega arith) (omega arith),
      total_marked_members 2 3 b (listed g.scans) g.plan.ahead v.marks.listed_distinct v.marks.listed_ahead v.marks.listed_marked,
    )

marking_bound : (b : Box) (g : Ghosts) → Inv b g → marking_left b g + total 2 2 b g.scans.gray ≤ 8 * b.top + 1
unfolding marking_left
marking_bound b g v =
    omega (
      arith,
      listed_total b g v,
      total_add 3 5 2 3 b g.plan.ahead,
      total_rooms 5 8 8 b g.plan.ahead (omega arith) (omega arith),
      ahead_rooms b g v,
    )

-- the tuple under the scan
gray_total : (b : Box) (g : Ghosts) (s : ℕ) → Scan b g s → total 2 2 b g.scans.gray ≡ 2 * b.collector.size + 2
gray_total b g s c =
    omega (arith, ap (λ (ks : List ℕ). total 2 2 b ks) c.gray_is, total_cons 2 2 b s [], total_none 2 2 b, c.size_is)

-- the tuples ahead, while they are swept
sweep_bound : (b : Box) (g : Ghosts) → Inv b g → total 3 5 b g.plan.ahead + 8 * g.plan.base ≤ 8 * b.top
sweep_bound b g v = omega (arith, total_rooms 3 5 8 b g.plan.ahead (omega arith) (omega arith), ahead_rooms b g v)

pub left_bound : (b : Box) (g : Ghosts) → Inv b g → left b g ≤ 8 * b.top + 2
left_bound b g v = by_stage v.stage
  where
    by_stage : Stage b g → left b g ≤ 8 * b.top + 2
    by_stage (at_rest p u l n) =
        omega (arith, left_rest b g p, total_rooms 5 8 8 b g.plan.ahead (omega arith) (omega arith), ahead_rooms b g v)
    by_stage (finding p u m n) = omega (arith, left_next b g p, marking_bound b g v)
    by_stage (scanning p u s c k) = omega (arith, left_scan b g p, marking_bound b g v, gray_total b g s c)
    by_stage (adding p u s c t k) = omega (arith, left_add b g p, marking_bound b g v, gray_total b g s c)
    by_stage (sweeping p l m w a z hs e) = omega (arith, left_sweep b g p, sweep_bound b g v)
    by_stage (reading p m i z) = omega (arith, left_read b g p, sweep_bound b g v)
    by_stage (clearing p m i z) = omega (arith, left_clear b g p, sweep_bound b g v)
    by_stage (writing p m i z) = omega (arith, left_write b g p, sweep_bound b g v)
    by_stage (zeroing p l m w a d i z) = omega (arith, left_zero b g p, sweep_bound b g v)

-- and so at most 8 M + 2
pub left_bound_m : (b : Box) (g : Ghosts) → Inv b g → left b g ≤ 8 * b.m + 2
left_bound_m b g v = omega (arith, left_bound b g v, v.layout.top_fits)
