-- The steps left fall with each transition of the sweep that ends no cycle, whatever ghosts the invariant holds with after it: the
-- tuples ahead are those before it, or all of them but the first, since the transition changes no word that lies behind the tuple
-- it works on. Each is stated over any box c that has the columns and numbers that the transition leaves. Assumes nothing.
use Prim.Native.Nat.{ℕ, ◌+◌, ◌≤◌, ◌<◌}
use mathlib.Core.List.{List, ◌∷◌}
use mathlib.Core.Path.{◌≡◌, sym, ap, ◌∙◌, subst}
use native.Mathlib.Omega.{arith}
use Rattle.rules.specs.Parts.{Box}
use Rattle.rules.specs.Box.{size_of}
use Rattle.rules.specs.Collector.{after}
use Rattle.history.proofs.Invariant.Statement.{Ghosts, Inv, Laid}
use Rattle.history.proofs.Lists.Laid.{laid_from}
use Rattle.history.proofs.Left.Count.{left}
use Rattle.history.proofs.Left.Falls.{SameAhead, FirstGone, SamePlace, OneOn, falls_sweeps_on, falls_starts_move, falls_starts_zero, falls_copies_high, falls_copies_low, falls_moves_on, falls_clears, falls_writes, falls_zeroes, falls_zero_on}
use Rattle.history.proofs.Left.Marks.{SameHeap}
use Rattle.history.proofs.Invariant.Fixed.{SameLaid, same_columns, ahead_carried, base_sweep, base_behind}
use Rattle.history.proofs.Invariant.Stages.{Sweeps, sweeps_of, at_clear}

-- ---- what the stage says

-- in phase 4, the tuple at src is the first ahead
pub record SweptFirst (b : Box) (g : Ghosts) : Type 0 where
  pub behind : List ℕ
  pub ahead_is : g.plan.ahead ≡ b.collector.tuple ∷ behind
  pub behind_laid : Laid b (b.collector.src + size_of b.collector.tuple b + 1) behind b.top

pub swept_first : (b : Box) (g : Ghosts) → Inv b g → b.collector.phase ≡ 4 → SweptFirst b g
swept_first b g v f =
    let s : Sweeps b g = sweeps_of b g v.stage f in
    let l : Laid b b.collector.src g.plan.ahead b.top = laid_from b g.plan.base b.collector.src g.plan.ahead b.top s.base_is v.layout.ahead_laid in
    record { behind = s.behind; ahead_is = s.ahead_is; behind_laid = (subst (λ (hs : List ℕ). Laid b b.collector.src hs b.top) s.ahead_is l).2 }

-- ---- the tuples ahead

-- all but the first
first_gone : (b : Box) (g : Ghosts) (c : Box) (g' : Ghosts) → Inv b g → Inv c g' → SameHeap b c → b.collector.phase ≡ 4
    → g'.plan.base ≡ b.collector.src + size_of b.collector.tuple b + 1 → FirstGone b g c g' b.collector.tuple
first_gone b g c g' v w s p e =
    let f : SweptFirst b g = swept_first b g v p in
    let columns : SameLaid b c (b.collector.src + size_of b.collector.tuple b + 1) f.behind = same_columns b c (b.collector.src + size_of b.collector.tuple b + 1) f.behind s.addresses_are s.sizes_are s.words_are s.flags_are s.top_is in
    let rest : g'.plan.ahead ≡ f.behind = ahead_carried b c g' (b.collector.src + size_of b.collector.tuple b + 1) f.behind f.behind_laid columns w e in
    record { sizes = columns.sizes; ahead = f.ahead_is ∙ ap (λ (l : List ℕ). b.collector.tuple ∷ l) (sym rest) }

-- all of them, behind the tuple that is moved or zeroed
same_behind : (b : Box) (g : Ghosts) (c : Box) (g' : Ghosts) → Inv b g → Inv c g' → SameLaid b c (after b) g.plan.ahead → 5 ≤ b.collector.phase
    → g'.plan.base ≡ after b → SameAhead b g c g'
same_behind b g c g' v w s l e =
    record {
      sizes = s.sizes;
      ahead = ahead_carried b c g' (after b) g.plan.ahead (laid_from b g.plan.base (after b) g.plan.ahead b.top (base_behind b g v l) v.layout.ahead_laid) s w e;
    }

-- the place of the tuple stays
after_same : (b c : Box) (g' : Ghosts) → Inv c g' → 5 ≤ c.collector.phase → c.collector.src ≡ b.collector.src → c.collector.size ≡ b.collector.size → g'.plan.base ≡ after b
after_same b c g' w l e f = omega (arith, base_behind c g' w l)

heap_behind : (b : Box) (g : Ghosts) (c : Box) → SameHeap b c → SameLaid b c (after b) g.plan.ahead
heap_behind b g c s = same_columns b c (after b) g.plan.ahead s.addresses_are s.sizes_are s.words_are s.flags_are s.top_is

-- ---- 4

-- a tuple is kept in place or released, and the sweep goes on behind it
pub left_sweeps_on : (b : Box) (g : Ghosts) (c : Box) (g' : Ghosts) → Inv b g → Inv c g' → b.collector.phase ≡ 4 → c.collector.phase ≡ 4 → SameHeap b c
    → c.collector.src ≡ b.collector.src + size_of b.collector.tuple b + 1 → left c g' < left b g
left_sweeps_on b g c g' v w p q s e = falls_sweeps_on b g c g' b.collector.tuple p q (first_gone b g c g' v w s p (base_sweep c g' w q ∙ e))

pub left_starts_move : (b : Box) (g : Ghosts) (c : Box) (g' : Ghosts) → Inv b g → Inv c g' → b.collector.phase ≡ 4 → c.collector.phase ≡ 5 → SameHeap b c
    → c.collector.src ≡ b.collector.src → c.collector.size ≡ size_of b.collector.tuple b → left c g' < left b g
left_starts_move b g c g' v w p q s e z =
    falls_starts_move b g c g' b.collector.tuple p q (first_gone b g c g' v w s p (omega (arith, base_behind c g' w (omega arith)))) z

pub left_starts_zero : (b : Box) (g : Ghosts) (c : Box) (g' : Ghosts) → Inv b g → Inv c g' → b.collector.phase ≡ 4 → c.collector.phase ≡ 8 → SameHeap b c
    → c.collector.src ≡ b.collector.src → c.collector.size ≡ size_of b.collector.tuple b → left c g' < left b g
left_starts_zero b g c g' v w p q s e z =
    falls_starts_zero b g c g' b.collector.tuple p q (first_gone b g c g' v w s p (omega (arith, base_behind c g' w (omega arith)))) z

-- ---- 5

pub left_copies_high : (b : Box) (g : Ghosts) (c : Box) (g' : Ghosts) → Inv b g → Inv c g' → b.collector.phase ≡ 5 → c.collector.phase ≡ 6 → SameHeap b c
    → c.collector.src ≡ b.collector.src → SamePlace b c → left c g' < left b g
left_copies_high b g c g' v w p q s e o =
    falls_copies_high b g c g' p q (same_behind b g c g' v w (heap_behind b g c s) (omega arith) (after_same b c g' w (omega arith) e o.size)) o

pub left_copies_low : (b : Box) (g : Ghosts) (c : Box) (g' : Ghosts) → Inv b g → Inv c g' → b.collector.phase ≡ 5 → c.collector.phase ≡ 7 → SameHeap b c
    → c.collector.src ≡ b.collector.src → SamePlace b c → left c g' < left b g
left_copies_low b g c g' v w p q s e o =
    falls_copies_low b g c g' p q (same_behind b g c g' v w (heap_behind b g c s) (omega arith) (after_same b c g' w (omega arith) e o.size)) o

pub left_moves_on : (b : Box) (g : Ghosts) (c : Box) (g' : Ghosts) → Inv b g → Inv c g' → b.collector.phase ≡ 5 → c.collector.phase ≡ 4
    → SameLaid b c (after b) g.plan.ahead → c.collector.src ≡ after b → left c g' < left b g
left_moves_on b g c g' v w p q s e = falls_moves_on b g c g' p q (same_behind b g c g' v w s (omega arith) (base_sweep c g' w q ∙ e))

-- ---- 6 and 7

pub left_clears : (b : Box) (g : Ghosts) (c : Box) (g' : Ghosts) → Inv b g → Inv c g' → b.collector.phase ≡ 6 → c.collector.phase ≡ 7
    → SameLaid b c (after b) g.plan.ahead → c.collector.src ≡ b.collector.src → SamePlace b c → left c g' < left b g
left_clears b g c g' v w p q s e o =
    falls_clears b g c g' p q (same_behind b g c g' v w s (omega arith) (after_same b c g' w (omega arith) e o.size)) o (at_clear b g v.stage p).index_most

pub left_writes : (b : Box) (g : Ghosts) (c : Box) (g' : Ghosts) → Inv b g → Inv c g' → b.collector.phase ≡ 7 → c.collector.phase ≡ 5
    → SameLaid b c (after b) g.plan.ahead → c.collector.src ≡ b.collector.src → OneOn b c → left c g' < left b g
left_writes b g c g' v w p q s e o =
    falls_writes b g c g' p q (same_behind b g c g' v w s (omega arith) (after_same b c g' w (omega arith) e o.size)) o

-- ---- 8

pub left_zeroes : (b : Box) (g : Ghosts) (c : Box) (g' : Ghosts) → Inv b g → Inv c g' → b.collector.phase ≡ 8 → c.collector.phase ≡ 8
    → SameLaid b c (after b) g.plan.ahead → c.collector.src ≡ b.collector.src → OneOn b c → left c g' < left b g
left_zeroes b g c g' v w p q s e o =
    falls_zeroes b g c g' p q (same_behind b g c g' v w s (omega arith) (after_same b c g' w (omega arith) e o.size)) o

pub left_zero_on : (b : Box) (g : Ghosts) (c : Box) (g' : Ghosts) → Inv b g → Inv c g' → b.collector.phase ≡ 8 → c.collector.phase ≡ 4 → SameHeap b c
    → c.collector.src ≡ after b → left c g' < left b g
left_zero_on b g c g' v w p q s e = falls_zero_on b g c g' p q (same_behind b g c g' v w (heap_behind b g c s) (omega arith) (base_sweep c g' w q ∙ e))
