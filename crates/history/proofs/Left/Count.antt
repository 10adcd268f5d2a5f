-- The steps left in a cycle, counted by phase over the tuples ahead and the tuples that wait for a scan; and what the count does
-- from one box to the next, over what it reads of them. Each law opens the count at the two phases and compares the sums; the rest is
-- linear arithmetic. Assumes nothing.
use Prim.Native.Nat.{ℕ, zero, suc, ◌+◌, ◌*◌, ◌-◌}
use mathlib.Core.List.{List, [], ◌∷◌}
use mathlib.Core.Path.{◌≡◌, ap, ◌∙◌}
use native.Mathlib.Omega.{arith}
use Rattle.rules.specs.Parts.{Box}
use Rattle.rules.specs.Box.{size_of, marked}
use Rattle.history.proofs.Invariant.Statement.{Ghosts}
use Rattle.history.proofs.Lists.Sums.{total, unmarked_total, total_none, total_cons, total_frame, unmarked_total_frame}

-- ---- the count

-- the words from index up to the end of the tuple under the scan, being moved or being zeroed
abbrev pub words_left : Box → ℕ
words_left b = b.collector.size + 1 - b.collector.index

-- marking: each tuple ahead is swept, each unmarked one may be marked and scanned, and each listed one is scanned
unfoldable pub marking_left : Box → Ghosts → ℕ
marking_left b g =
    1 + total 3 5 b g.plan.ahead + unmarked_total 2 3 b g.plan.ahead +
    (total 2 2 b g.scans.nexts + total 2 2 b g.scans.currents)

unfoldable pub left_in : ℕ → Box → Ghosts → ℕ
left_in zero b g = 2 + total 5 8 b g.plan.ahead
left_in (suc zero) b g = marking_left b g
left_in (suc (suc zero)) b g = marking_left b g + (2 * words_left b + 1)
left_in (suc (suc (suc zero))) b g = marking_left b g + (2 * words_left b + 2)
left_in (suc (suc (suc (suc zero)))) b g = total 3 5 b g.plan.ahead
left_in (suc (suc (suc (suc (suc zero))))) b g = total 3 5 b g.plan.ahead + (3 * words_left b + 1)
left_in (suc (suc (suc (suc (suc (suc zero)))))) b g = total 3 5 b g.plan.ahead + 3 * words_left b
left_in (suc (suc (suc (suc (suc (suc (suc zero))))))) b g = total 3 5 b g.plan.ahead + (3 * words_left b - 1)
left_in (suc (suc (suc (suc (suc (suc (suc (suc zero)))))))) b g = total 3 5 b g.plan.ahead + (words_left b + 1)
left_in (suc (suc (suc (suc (suc (suc (suc (suc (suc p))))))))) b g = 0

unfoldable pub left : Box → Ghosts → ℕ
left b g = left_in b.collector.phase b g

-- ---- the count at a phase

pub left_rest : (b : Box) (g : Ghosts) → b.collector.phase ≡ 0 → left b g ≡ 2 + total 5 8 b g.plan.ahead
unfolding left left_in
left_rest b g e = ap (λ (p : ℕ). left_in p b g) e

pub left_next : (b : Box) (g : Ghosts) → b.collector.phase ≡ 1 → left b g ≡ marking_left b g
unfolding left left_in
left_next b g e = ap (λ (p : ℕ). left_in p b g) e

pub left_scan : (b : Box) (g : Ghosts) → b.collector.phase ≡ 2 → left b g ≡ marking_left b g + (2 * words_left b + 1)
unfolding left left_in
left_scan b g e = ap (λ (p : ℕ). left_in p b g) e

pub left_add : (b : Box) (g : Ghosts) → b.collector.phase ≡ 3 → left b g ≡ marking_left b g + (2 * words_left b + 2)
unfolding left left_in
left_add b g e = ap (λ (p : ℕ). left_in p b g) e

pub left_sweep : (b : Box) (g : Ghosts) → b.collector.phase ≡ 4 → left b g ≡ total 3 5 b g.plan.ahead
unfolding left left_in
left_sweep b g e = ap (λ (p : ℕ). left_in p b g) e

pub left_read : (b : Box) (g : Ghosts) → b.collector.phase ≡ 5 → left b g ≡ total 3 5 b g.plan.ahead + (3 * words_left b + 1)
unfolding left left_in
left_read b g e = ap (λ (p : ℕ). left_in p b g) e

pub left_clear : (b : Box) (g : Ghosts) → b.collector.phase ≡ 6 → left b g ≡ total 3 5 b g.plan.ahead + 3 * words_left b
unfolding left left_in
left_clear b g e = ap (λ (p : ℕ). left_in p b g) e

pub left_write : (b : Box) (g : Ghosts) → b.collector.phase ≡ 7 → left b g ≡ total 3 5 b g.plan.ahead + (3 * words_left b - 1)
unfolding left left_in
left_write b g e = ap (λ (p : ℕ). left_in p b g) e

pub left_zero : (b : Box) (g : Ghosts) → b.collector.phase ≡ 8 → left b g ≡ total 3 5 b g.plan.ahead + (words_left b + 1)
unfolding left left_in
left_zero b g e = ap (λ (p : ℕ). left_in p b g) e

-- ---- the sums from one box to the next

-- no transition of the collector changes a size
abbrev pub SameSizes : Box → Box → Type 0
SameSizes b c = (h : ℕ) → size_of h c ≡ size_of h b

abbrev pub SameMarks : Box → Box → Type 0
SameMarks b c = (h : ℕ) → marked h c ≡ marked h b

-- the sum over the same list
pub total_same : (k n : ℕ) (b c : Box) (hs hs' : List ℕ) → SameSizes b c → hs' ≡ hs → total k n c hs' ≡ total k n b hs
total_same k n b c hs hs' sizes e = ap (λ (l : List ℕ). total k n c l) e ∙ total_frame k n b c hs (λ h m. sizes h)

-- the sum over a list that has its first member more
pub total_first : (k n : ℕ) (b c : Box) (h : ℕ) (hs hs' : List ℕ) → SameSizes b c → hs ≡ h ∷ hs' → k * size_of h b + n + total k n c hs' ≡ total k n b hs
total_first k n b c h hs hs' sizes e =
    let over : total k n b hs ≡ k * size_of h b + n + total k n b hs' = ap (λ (l : List ℕ). total k n b l) e ∙ total_cons k n b h hs' in
    let rest : total k n c hs' ≡ total k n b hs' = total_frame k n b c hs' (λ x m. sizes x) in
    omega arith

-- the sum over no list
pub total_empty : (k n : ℕ) (c : Box) (hs : List ℕ) → hs ≡ [] → total k n c hs ≡ 0
total_empty k n c hs e = ap (λ (l : List ℕ). total k n c l) e ∙ total_none k n c

pub unmarked_same : (k n : ℕ) (b c : Box) (hs hs' : List ℕ) → SameSizes b c → SameMarks b c → hs' ≡ hs → unmarked_total k n c hs' ≡ unmarked_total k n b hs
unmarked_same k n b c hs hs' sizes marks e = ap (λ (l : List ℕ). unmarked_total k n c l) e ∙ unmarked_total_frame k n b c hs (λ h m. sizes h) (λ h m. marks h)
