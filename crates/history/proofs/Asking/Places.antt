-- Where the words of kept tuples are: each is in the copy register or at an address of memory, and no two are at one place. The settled
-- lie below low, the part already moved from low on, the part not yet moved from src + index up to base, and those ahead from base
-- to top; within a region the layout keeps tuples apart. Assumes nothing.
use Prim.Native.Nat.{ℕ, ◌+◌, ◌≤◌, ◌<◌}
use mathlib.Core.Bool.{false, cond, ◌&&◌, and-false}
use mathlib.Core.List.{List, [], ◌∷◌}
use mathlib.Core.Logic.{◌≢◌, ◌⊎◌, inl, inr}
use mathlib.Core.Path.{◌≡◌, refl, sym, ap, ◌∙◌, subst}
use borrow.Author.Tests.{lt-leb, ne_eqb}
use native.Mathlib.Omega.{arith}
use native.Mathlib.Decide.{ℕ_discrete, dec_le, dec_lt}
use lib.Dec.{leb, ltb, eqb}
use Rattle.rules.specs.Parts.{Box}
use Rattle.rules.specs.Box.{word_at, address, size_of}
use Rattle.rules.specs.Place.{Place, copy_place, at, being_moved, place, read}
use Rattle.rules.specs.Answers.{Moving}
use Rattle.rules.proofs.View.Places.{place_copied, place_moved, place_home}
use Rattle.history.specs.Agreement.{Member}
use Rattle.history.proofs.Invariant.Statement.{Ghosts, Inv, word, rooms, Laid, Kept, settled, moving, unswept, surviving, Layout, Move, Stage, at_rest, finding, scanning, adding, sweeping, reading, clearing, writing, zeroing}
use Rattle.history.proofs.Lists.Handles.{Parts, parts}
use Rattle.history.proofs.Lists.Laid.{laid_le, laid_rooms, laid_bounds, laid_apart, rooms_one, marked_rooms_le}

-- ---- the rule's own test, whether a tuple is being moved

not_moved_other : (h : ℕ) (b : Box) → h ≢ b.collector.tuple → being_moved h b ≡ false
unfolding being_moved
not_moved_other h b n = simp (ne_eqb h b.collector.tuple n)

not_moved_early : (h : ℕ) (b : Box) → b.collector.phase < 5 → being_moved h b ≡ false
unfolding being_moved
not_moved_early h b l = simp (lt-leb 5 b.collector.phase l, and-false)

not_moved_late : (h : ℕ) (b : Box) → 7 < b.collector.phase → being_moved h b ≡ false
unfolding being_moved
not_moved_late h b l = simp (lt-leb b.collector.phase 7 l, and-false)

-- ---- what the stage says of the numbers

pub data Motion (b : Box) (g : Ghosts) : Type 0 where
  early : b.collector.phase < 5 → g.plan.mid ≡ [] → Motion b g
  late : 7 < b.collector.phase → g.plan.mid ≡ [] → Motion b g
  in_motion : Move b g → 5 ≤ b.collector.phase → b.collector.phase ≤ 7 → g.zeroed ≤ b.collector.src + b.collector.index + 1
      → (b.collector.phase ≤ 5 → g.zeroed ≤ b.collector.src + b.collector.index) → Motion b g

pub motion : (b : Box) (g : Ghosts) → Stage b g → Motion b g
motion b g (at_rest e u l m) = early (omega arith) u.no_mid
motion b g (finding e u c y) = early (omega arith) u.no_mid
motion b g (scanning e u s c w) = early (omega arith) u.no_mid
motion b g (adding e u s c m w) = early (omega arith) u.no_mid
motion b g (sweeping e u n l a z hs y) = early (omega arith) n
motion b g (reading e m l z) = in_motion m (omega arith) (omega arith) (omega arith) (λ p. omega arith)
motion b g (clearing e m l z) = in_motion m (omega arith) (omega arith) (omega arith) (λ p. omega arith)
motion b g (writing e m l z) = in_motion m (omega arith) (omega arith) (omega arith) (λ p. omega arith)
motion b g (zeroing e u n l a d i z) = late (omega arith) n

-- what was cleared lies below those ahead
pub zeroed_base : (b : Box) (g : Ghosts) → Stage b g → g.zeroed ≤ g.plan.base
zeroed_base b g (at_rest e u l m) = omega arith
zeroed_base b g (finding e u c y) = omega arith
zeroed_base b g (scanning e u s c w) = omega arith
zeroed_base b g (adding e u s c m w) = omega arith
zeroed_base b g (sweeping e u n l a z hs y) = omega arith
zeroed_base b g (reading e m l z) = omega arith
zeroed_base b g (clearing e m l z) = omega arith
zeroed_base b g (writing e m l z) = omega arith
zeroed_base b g (zeroing e u n l a d i z) = omega arith

-- what is settled and what is being moved count in live, and live is at most top
pub low_live : (b : Box) (g : Ghosts) → Inv b g → g.plan.low + rooms b g.plan.mid ≤ b.collector.live
low_live b g v = omega (arith, v.marks.live_is)

pub live_top : (b : Box) (g : Ghosts) → Inv b g → b.collector.live ≤ b.top
live_top b g v =
    omega (
      arith,
      v.marks.live_is,
      v.layout.low_base,
      laid_rooms b g.plan.base g.plan.ahead b.top v.layout.ahead_laid,
      marked_rooms_le b g.plan.ahead,
    )

pub base_top : (b : Box) (g : Ghosts) → Inv b g → g.plan.base ≤ b.top
base_top b g v = laid_le b g.plan.base g.plan.ahead b.top v.layout.ahead_laid

-- ---- the spots

pub data Spot (b : Box) (g : Ghosts) (h i a : ℕ) : Type 0 where
  done_spot : Member h g.plan.done → a ≡ address h b + i → i ≤ size_of h b → a < g.plan.low → Spot b g h i a
  ahead_spot : Member h g.plan.ahead → a ≡ address h b + i → i ≤ size_of h b → g.plan.base ≤ a → a < b.top → Spot b g h i a
  moved_spot : Move b g → h ≡ b.collector.tuple → a ≡ b.collector.dest + i → i < b.collector.index → i ≤ b.collector.size → Spot b g h i a
  unmoved_spot : Move b g → h ≡ b.collector.tuple → a ≡ b.collector.src + i → b.collector.index ≤ i → i ≤ b.collector.size → g.zeroed ≤ a → Spot b g h i a

-- one word of laid tuples at one address
laid_same : (b : Box) (s : ℕ) (hs : List ℕ) (e : ℕ) → Laid b s hs e → (h i k j a : ℕ) → Member h hs → Member k hs → a ≡ address h b + i
    → i ≤ size_of h b → a ≡ address k b + j → j ≤ size_of k b → (h ≡ k) × (i ≡ j)
laid_same b s hs e l h i k j a x y p u q v = cases (ℕ_discrete h k)
  where
    cross : (address h b + size_of h b + 1 ≤ address k b) ⊎ (address k b + size_of k b + 1 ≤ address h b) → ⊥
    cross (inl d) = omega arith
    cross (inr d) = omega arith

    cases : Dec (h ≡ k) → (h ≡ k) × (i ≡ j)
    cases (yes d) = let f : address h b ≡ address k b = ap (λ (n : ℕ). address n b) d in (d, omega arith)
    cases (no n) = absurd (cross (laid_apart b s hs e l h k x y n))

pub same_spot : (b : Box) (g : Ghosts) → Layout b g.plan → (h i k j a : ℕ) → Spot b g h i a → Spot b g k j a → (h ≡ k) × (i ≡ j)
same_spot b g l h i k j a (done_spot x p u d) (done_spot y q v e) = laid_same b 0 g.plan.done g.plan.low l.done_laid h i k j a x y p u q v
same_spot b g l h i k j a (done_spot x p u d) (ahead_spot y q v e f) = absurd (omega (arith, l.low_base))
same_spot b g l h i k j a (done_spot x p u d) (moved_spot m n q v e) = absurd (omega arith)
same_spot b g l h i k j a (done_spot x p u d) (unmoved_spot m n q v e z) = absurd (omega arith)
same_spot b g l h i k j a (ahead_spot x p u d f) (done_spot y q v e) = absurd (omega (arith, l.low_base))
same_spot b g l h i k j a (ahead_spot x p u d f) (ahead_spot y q v e t) = laid_same b g.plan.base g.plan.ahead b.top l.ahead_laid h i k j a x y p u q v
same_spot b g l h i k j a (ahead_spot x p u d f) (moved_spot m n q v e) = absurd (omega arith)
same_spot b g l h i k j a (ahead_spot x p u d f) (unmoved_spot m n q v e z) = absurd (omega arith)
same_spot b g l h i k j a (moved_spot m n q v e) (done_spot x p u d) = absurd (omega arith)
same_spot b g l h i k j a (moved_spot m n q v e) (ahead_spot x p u d f) = absurd (omega arith)
same_spot b g l h i k j a (moved_spot m n q v e) (moved_spot m' n' q' v' e') = (n ∙ sym n', omega arith)
same_spot b g l h i k j a (moved_spot m n q v e) (unmoved_spot m' n' q' v' e' z) = absurd (omega arith)
same_spot b g l h i k j a (unmoved_spot m n q v e z) (done_spot x p u d) = absurd (omega arith)
same_spot b g l h i k j a (unmoved_spot m n q v e z) (ahead_spot x p u d f) = absurd (omega arith)
same_spot b g l h i k j a (unmoved_spot m n q v e z) (moved_spot m' n' q' v' e') = absurd (omega arith)
same_spot b g l h i k j a (unmoved_spot m n q v e z) (unmoved_spot m' n' q' v' e' z') = (n ∙ sym n', omega arith)

-- ---- where a kept tuple's word is

pub data Found (b : Box) (g : Ghosts) (h i : ℕ) : Type 0 where
  in_copy : place h i b ≡ copy_place → h ≡ b.collector.tuple → i ≡ b.collector.index → Found b g h i
  in_words : (a : ℕ) → place h i b ≡ at a → Spot b g h i a → Found b g h i

-- a member of a list of one
pub member_one : (h k : ℕ) (hs : List ℕ) → hs ≡ k ∷ [] → Member h hs → h ≡ k
member_one h k hs e m = only (subst (λ (ks : List ℕ). Member h ks) e m)
  where
    only : (h ≡ k) ⊎ ⊥ → h ≡ k
    only (inl d) = d
    only (inr d) = absurd d

pub member_none : (h : ℕ) (hs : List ℕ) → hs ≡ [] → ¬ Member h hs
member_none h hs e m = subst (λ (ks : List ℕ). Member h ks) e m

-- a tuple that is not the one being moved is at its address
pub not_moving : (b : Box) (g : Ghosts) → Stage b g → (h : ℕ) → ¬ Member h g.plan.mid → ¬ Moving h b
not_moving b g s h n x = cases (motion b g s)
  where
    cases : Motion b g → ⊥
    cases (early l e) = omega arith
    cases (late l e) = omega arith
    cases (in_motion m l u z f) = n (subst (λ (ks : List ℕ). Member h ks) (sym m.mid_is) (inl x.0))

pub not_moved : (b : Box) (g : Ghosts) → Stage b g → (h : ℕ) → ¬ Member h g.plan.mid → being_moved h b ≡ false
not_moved b g s h n = cases (motion b g s)
  where
    cases : Motion b g → being_moved h b ≡ false
    cases (early l e) = not_moved_early h b l
    cases (late l e) = not_moved_late h b l
    cases (in_motion m l u z f) = not_moved_other h b (λ e. n (subst (λ (ks : List ℕ). Member h ks) (sym m.mid_is) (inl e)))

pub still_place : (b : Box) (g : Ghosts) → Stage b g → (h i : ℕ) → ¬ Member h g.plan.mid → place h i b ≡ at (address h b + i)
still_place b g s h i n = place_home h i b (λ x. not_moving b g s h n x.0) (λ x. not_moving b g s h n x.0)

pub plan_parts : (b : Box) (g : Ghosts) → Inv b g → Parts g.plan.done g.plan.mid g.plan.ahead g.free
plan_parts b g v = parts g.plan.done g.plan.mid g.plan.ahead g.free v.handles.distinct

find_done : (b : Box) (g : Ghosts) → Inv b g → (h i : ℕ) → Member h g.plan.done → i ≤ size_of h b → Found b g h i
find_done b g v h i x l =
    let t = laid_bounds b 0 g.plan.done g.plan.low v.layout.done_laid h x in
    in_words (address h b + i) (still_place b g v.stage h i ((plan_parts b g v).done_mid h x)) (done_spot x refl l (omega arith))

find_ahead : (b : Box) (g : Ghosts) → Inv b g → (h i : ℕ) → Member h g.plan.ahead → i ≤ size_of h b → Found b g h i
find_ahead b g v h i x l =
    let t = laid_bounds b g.plan.base g.plan.ahead b.top v.layout.ahead_laid h x in
    in_words (address h b + i) (still_place b g v.stage h i (λ y. (plan_parts b g v).mid_ahead h y x)) (ahead_spot x refl l (omega arith) (omega arith))

find_mid : (b : Box) (g : Ghosts) → Inv b g → (h i : ℕ) → Member h g.plan.mid → i ≤ size_of h b → Found b g h i
find_mid b g v h i x l = cases (motion b g v.stage)
  where
    index_fits : Move b g → h ≡ b.collector.tuple → i ≤ b.collector.size
    index_fits m e = let s : size_of h b ≡ size_of b.collector.tuple b = ap (λ (n : ℕ). size_of n b) e in omega (arith, m.size_is)

    unmoved : (m : Move b g) → h ≡ b.collector.tuple → place h i b ≡ at (address h b + i) → b.collector.index ≤ i → g.zeroed ≤ b.collector.src + i → Found b g h i
    unmoved m e p t z =
        let a : address h b ≡ b.collector.src = ap (λ (n : ℕ). address n b) e ∙ m.src_is in
        in_words (b.collector.src + i) (p ∙ ap (λ (n : ℕ). at (n + i)) a) (unmoved_spot m e refl t (index_fits m e) z)

    at_index : (m : Move b g) → h ≡ b.collector.tuple → 5 ≤ b.collector.phase → b.collector.phase ≤ 7 → i ≡ b.collector.index
        → (b.collector.phase ≤ 5 → g.zeroed ≤ b.collector.src + b.collector.index) → Dec (b.collector.phase ≤ 5) → Found b g h i
    at_index m e p q t f (yes r) =
        let z = f r in
        unmoved m e (place_home h i b (λ x. omega arith) (λ x. omega arith)) (omega arith) (omega arith)
    at_index m e p q t f (no r) = in_copy (place_copied h i b ((e, p, q), omega arith, t)) e t

    behind : (m : Move b g) → h ≡ b.collector.tuple → 5 ≤ b.collector.phase → b.collector.phase ≤ 7
        → g.zeroed ≤ b.collector.src + b.collector.index + 1 → (b.collector.phase ≤ 5 → g.zeroed ≤ b.collector.src + b.collector.index)
        → b.collector.index ≤ i → Dec (i ≡ b.collector.index) → Found b g h i
    behind m e p q z f t (yes d) = at_index m e p q d f (dec_le b.collector.phase 5)
    behind m e p q z f t (no n) = unmoved m e (place_home h i b (λ x. omega arith) (λ x. omega arith)) t (omega arith)

    by_index : (m : Move b g) → h ≡ b.collector.tuple → 5 ≤ b.collector.phase → b.collector.phase ≤ 7
        → g.zeroed ≤ b.collector.src + b.collector.index + 1 → (b.collector.phase ≤ 5 → g.zeroed ≤ b.collector.src + b.collector.index)
        → Dec (i < b.collector.index) → Found b g h i
    by_index m e p q z f (yes t) = in_words (b.collector.dest + i) (place_moved h i b ((e, p, q), t)) (moved_spot m e refl t (index_fits m e))
    by_index m e p q z f (no n) = behind m e p q z f (omega arith) (ℕ_discrete i b.collector.index)

    cases : Motion b g → Found b g h i
    cases (early p e) = absurd (member_none h g.plan.mid e x)
    cases (late p e) = absurd (member_none h g.plan.mid e x)
    cases (in_motion m p q z f) = by_index m (member_one h b.collector.tuple g.plan.mid m.mid_is x) p q z f (dec_lt i b.collector.index)

pub find : (b : Box) (g : Ghosts) → Inv b g → (h i : ℕ) → Kept b g.plan h → i ≤ size_of h b → Found b g h i
find b g v h i (settled x) l = find_done b g v h i x l
find b g v h i (moving x) l = find_mid b g v h i x l
find b g v h i (unswept x p) l = find_ahead b g v h i x l
find b g v h i (surviving x t) l = find_ahead b g v h i x l

-- ---- a spot lies below top, and not where the sweep has cleared

pub spot_top : (b : Box) (g : Ghosts) → Inv b g → (h i a : ℕ) → Spot b g h i a → a < b.top
spot_top b g v h i a (done_spot x p l u) = omega (arith, v.layout.low_base, base_top b g v)
spot_top b g v h i a (ahead_spot x p l u t) = t
spot_top b g v h i a (moved_spot m e p l u) = omega (arith, base_top b g v)
spot_top b g v h i a (unmoved_spot m e p l u z) = omega (arith, base_top b g v)

pub spot_uncleared : (b : Box) (g : Ghosts) → Inv b g → (h i a : ℕ) → Spot b g h i a → b.collector.live ≤ a → a < g.zeroed → ⊥
spot_uncleared b g v h i a (done_spot x p l u) q r = omega (arith, low_live b g v)
spot_uncleared b g v h i a (ahead_spot x p l u t) q r = omega (arith, zeroed_base b g v.stage)
spot_uncleared b g v h i a (moved_spot m e p l u) q r =
    let s : rooms b g.plan.mid ≡ size_of b.collector.tuple b + 1 = ap (rooms b) m.mid_is ∙ rooms_one b b.collector.tuple in
    omega (arith, low_live b g v)
spot_uncleared b g v h i a (unmoved_spot m e p l u z) q r = omega arith

-- ---- what keeps a kept tuple's word

-- the place goes by these numbers, and by the tuple's address
pub place_by : (h i : ℕ) (b c : Box) → c.collector.phase ≡ b.collector.phase → c.collector.tuple ≡ b.collector.tuple
    → c.collector.index ≡ b.collector.index → c.collector.dest ≡ b.collector.dest → address h c ≡ address h b → place h i c ≡ place h i b
unfolding place being_moved
place_by h i b c p t x d a =
    λ j.
    cond (eqb h (t j) && leb 5 (p j) && leb (p j) 7 && leb 6 (p j) && eqb i (x j)) copy_place
    (cond (eqb h (t j) && leb 5 (p j) && leb (p j) 7 && ltb i (x j)) (at (d j + i)) (at (a j + i)))

-- its place, and what is there
pub word_by : (b : Box) (g : Ghosts) (c : Box) → Inv b g → (h i : ℕ) → Kept b g.plan h → i ≤ size_of h b → place h i c ≡ place h i b
    → c.collector.copy ≡ b.collector.copy → ((a : ℕ) → Spot b g h i a → word_at a c ≡ word_at a b) → word h i c ≡ word h i b
unfolding word read
word_by b g c v h i k l p r w = ap (λ (q : Place). read q c) p ∙ cases (find b g v h i k l)
  where
    cases : Found b g h i → read (place h i b) c ≡ read (place h i b) b
    cases (in_copy e x y) = subst (λ (q : Place). read q c ≡ read q b) (sym e) r
    cases (in_words a e s) = subst (λ (q : Place). read q c ≡ read q b) (sym e) (w a s)
