-- The steps left are the same where nothing that the count reads has changed, whatever ghosts the invariant holds with: so a
-- request put on hold leaves them as they were. The ghosts that the count reads are fixed by what stays, and then each phase's
-- count is the same. Assumes nothing.
use Prim.Native.Nat.{ℕ, zero, suc, ◌≤◌}
use mathlib.Core.Path.{◌≡◌, refl, ap, ◌∙◌}
use native.Mathlib.Omega.{arith}
use Rattle.rules.specs.Parts.{Box}
use Rattle.rules.specs.Request.{put_on_hold}
use Rattle.history.proofs.Invariant.Statement.{Ghosts, Inv, Stage, at_rest, finding, scanning, adding, sweeping, reading, clearing, writing, zeroing}
use Rattle.history.proofs.Left.Count.{left, left_in, total_same}
use Rattle.history.proofs.Left.Falls.{SameMarking, SameLists, SamePlace, marking_same}
use Rattle.history.proofs.Left.Marks.{SameEntries, SameHeads, same_sizes, same_marks, same_lists}
use Rattle.history.proofs.Invariant.Fixed.{same_columns, ahead_carried, base_unswept, base_sweep, base_behind}

-- the count at any phase
left_in_same : (p : ℕ) (b : Box) (g : Ghosts) (c : Box) (g' : Ghosts) → SameMarking b g c g' → SameLists g g' → SamePlace b c → left_in p c g' ≡ left_in p b g
unfolding left_in
left_in_same zero b g c g' s l o = omega (arith, total_same 5 8 b c g.plan.ahead g'.plan.ahead s.same.sizes s.same.ahead)
left_in_same (suc zero) b g c g' s l o = marking_same b g c g' s l
left_in_same (suc (suc zero)) b g c g' s l o = omega (arith, marking_same b g c g' s l)
left_in_same (suc (suc (suc zero))) b g c g' s l o = omega (arith, marking_same b g c g' s l)
left_in_same (suc (suc (suc (suc zero)))) b g c g' s l o = omega (arith, total_same 3 5 b c g.plan.ahead g'.plan.ahead s.same.sizes s.same.ahead)
left_in_same (suc (suc (suc (suc (suc zero))))) b g c g' s l o = omega (arith, total_same 3 5 b c g.plan.ahead g'.plan.ahead s.same.sizes s.same.ahead)
left_in_same (suc (suc (suc (suc (suc (suc zero)))))) b g c g' s l o = omega (arith, total_same 3 5 b c g.plan.ahead g'.plan.ahead s.same.sizes s.same.ahead)
left_in_same (suc (suc (suc (suc (suc (suc (suc zero))))))) b g c g' s l o = omega (arith, total_same 3 5 b c g.plan.ahead g'.plan.ahead s.same.sizes s.same.ahead)
left_in_same (suc (suc (suc (suc (suc (suc (suc (suc zero)))))))) b g c g' s l o = omega (arith, total_same 3 5 b c g.plan.ahead g'.plan.ahead s.same.sizes s.same.ahead)
left_in_same (suc (suc (suc (suc (suc (suc (suc (suc (suc p))))))))) b g c g' s l o = refl

-- where the tuples ahead begin
base_same : (b : Box) (g : Ghosts) (c : Box) (g' : Ghosts) → Inv b g → Inv c g' → c.collector.phase ≡ b.collector.phase
    → c.collector.src ≡ b.collector.src → c.collector.size ≡ b.collector.size
    → g'.plan.base ≡ g.plan.base
base_same b g c g' v w p e z = by_stage v.stage
  where
    early : b.collector.phase ≤ 3 → g'.plan.base ≡ g.plan.base
    early l = omega (arith, base_unswept b g v l, base_unswept c g' w (omega arith))

    late : 5 ≤ b.collector.phase → g'.plan.base ≡ g.plan.base
    late l = omega (arith, base_behind b g v l, base_behind c g' w (omega arith))

    by_stage : Stage b g → g'.plan.base ≡ g.plan.base
    by_stage (at_rest q u k n) = early (omega arith)
    by_stage (finding q u m n) = early (omega arith)
    by_stage (scanning q u s x k) = early (omega arith)
    by_stage (adding q u s x t k) = early (omega arith)
    by_stage (sweeping q k m n a y hs f) = omega (arith, base_sweep b g v q, base_sweep c g' w (p ∙ q))
    by_stage (reading q m i y) = late (omega arith)
    by_stage (clearing q m i y) = late (omega arith)
    by_stage (writing q m i y) = late (omega arith)
    by_stage (zeroing q k m n a d i y) = late (omega arith)

pub left_same : (b : Box) (g : Ghosts) (c : Box) (g' : Ghosts) → Inv b g → Inv c g' → SameEntries b c → SameHeads b c → SamePlace b c
    → c.collector.phase ≡ b.collector.phase → c.collector.src ≡ b.collector.src → left c g' ≡ left b g
unfolding left
left_same b g c g' v w s h o p e =
    let columns = same_columns b c g.plan.base g.plan.ahead s.heap.addresses_are s.heap.sizes_are s.heap.words_are s.heap.flags_are s.heap.top_is in
    let ahead : g'.plan.ahead ≡ g.plan.ahead = ahead_carried b c g' g.plan.base g.plan.ahead v.layout.ahead_laid columns w (base_same b g c g' v w p e o.size) in
    ap (λ (n : ℕ). left_in n c g') p ∙
    left_in_same b.collector.phase b g c g' (record {
      same = record { sizes = same_sizes b c s.heap; ahead = ahead };
      marks = same_marks b c s;
    }) (same_lists b g c g' v w s h) o

-- a request is put on hold
pub left_held : (r n tag : ℕ) (b : Box) (g g' : Ghosts) → Inv b g → Inv (put_on_hold r n tag b) g' → left (put_on_hold r n tag b) g' ≡ left b g
unfolding put_on_hold
left_held r n tag b g g' v w = left_same b g (put_on_hold r n tag b) g' v w (search) (search) (search) refl refl
