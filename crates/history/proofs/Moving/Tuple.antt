-- The tuple on its way, in phases 5, 6 and 7: where it lies and how far it goes, and that every other kept tuple lies below
-- dest or behind the words that the moved tuple came from. From the layout, the sum in live, and that every handle stands once.
-- Last, that no rule of these phases finds a number out of bounds. Assumes nothing.
use Prim.Native.Nat.{ℕ, ◌+◌, ◌≤◌, ◌<◌}
use mathlib.Core.List.{List, [], ◌∷◌}
use mathlib.Core.Logic.{◌≢◌, inl, inr}
use mathlib.Core.Path.{◌≡◌, refl, sym, ap, ◌∙◌, subst}
use native.Mathlib.Decide.{dec_lt, ℕ_discrete}
use native.Mathlib.Omega.{arith}
use Rattle.rules.specs.Parts.{Box}
use Rattle.rules.specs.Box.{address, size_of}
use Rattle.history.specs.Agreement.{Member}
use Rattle.history.proofs.Invariant.Statement.{Ghosts, Inv, Move, Kept, rooms, marked_rooms, settled, moving, unswept, surviving}
use Rattle.history.proofs.Lists.Handles.{Parts, parts, among_mid, among_member, member_equal}
use Rattle.history.proofs.Lists.Laid.{laid_le, laid_bounds, rooms_one}
use Rattle.history.proofs.Invariant.Stages.{at_read, AtClear, at_clear, AtWrite, at_write}

-- ---- the tuple on its way

pub mid_member : (b : Box) (g : Ghosts) → Move b g → Member b.collector.tuple g.plan.mid
mid_member b g m = subst (λ (hs : List ℕ). Member b.collector.tuple hs) (sym m.mid_is) (inl refl)

one_member : (h k : ℕ) → Member h (k ∷ []) → h ≡ k
one_member h k (inl e) = e
one_member h k (inr x) = absurd x

pub mid_only : (b : Box) (g : Ghosts) → Move b g → (h : ℕ) → Member h g.plan.mid → h ≡ b.collector.tuple
mid_only b g m h x = one_member h b.collector.tuple (subst (λ (hs : List ℕ). Member h hs) m.mid_is x)

pub mid_rooms : (b : Box) (g : Ghosts) → Move b g → rooms b g.plan.mid ≡ b.collector.size + 1
mid_rooms b g m = ap (rooms b) m.mid_is ∙ rooms_one b b.collector.tuple ∙ ap (λ (n : ℕ). n + 1) m.size_is

-- it is an entry; it fits below top where it came from, and below live where it goes
pub record Bounds (b : Box) (g : Ghosts) : Type 0 where
  pub least : 1 ≤ b.collector.tuple
  pub most : b.collector.tuple < b.h
  pub source_fits : b.collector.src + b.collector.size + 1 ≤ b.top
  pub top_fits : b.top ≤ b.m
  pub lower : b.collector.dest < b.collector.src
  pub live_sum : b.collector.live ≡ b.collector.dest + b.collector.size + 1 + marked_rooms b g.plan.ahead

pub bounds : (b : Box) (g : Ghosts) → Inv b g → Move b g → Bounds b g
bounds b g i m =
    let e : (1 ≤ b.collector.tuple) × (b.collector.tuple < b.h) = i.handles.entries b.collector.tuple (among_member b.collector.tuple g.plan.done g.plan.mid g.plan.ahead g.free (among_mid (mid_member b g m))) in
    record {
      least = e.0;
      most = e.1;
      source_fits = omega (arith, m.base_is, laid_le b g.plan.base g.plan.ahead b.top i.layout.ahead_laid);
      top_fits = i.layout.top_fits;
      lower = m.downward;
      live_sum = omega (arith, i.marks.live_is, m.low_is, mid_rooms b g m);
    }

-- ---- where a kept tuple lies: it is the one moved, or lies below dest, or behind the words that one came from

pub data Lies (b : Box) (h : ℕ) : Type 0 where
  moved : h ≡ b.collector.tuple → Lies b h
  below : h ≢ b.collector.tuple → address h b + size_of h b + 1 ≤ b.collector.dest → Lies b h
  above : h ≢ b.collector.tuple → b.collector.src + b.collector.size + 1 ≤ address h b → Lies b h

lists_apart : (b : Box) (g : Ghosts) → Inv b g → Parts g.plan.done g.plan.mid g.plan.ahead g.free
lists_apart b g i = parts g.plan.done g.plan.mid g.plan.ahead g.free i.handles.distinct

pub done_other : (b : Box) (g : Ghosts) → Inv b g → Move b g → (h : ℕ) → Member h g.plan.done → h ≢ b.collector.tuple
done_other b g i m h x e = (lists_apart b g i).done_mid h x (member_equal h b.collector.tuple g.plan.mid e (mid_member b g m))

pub ahead_other : (b : Box) (g : Ghosts) → Inv b g → Move b g → (h : ℕ) → Member h g.plan.ahead → h ≢ b.collector.tuple
ahead_other b g i m h x e = (lists_apart b g i).mid_ahead h (member_equal h b.collector.tuple g.plan.mid e (mid_member b g m)) x

pub done_below : (b : Box) (g : Ghosts) → Inv b g → Move b g → (h : ℕ) → Member h g.plan.done → address h b + size_of h b + 1 ≤ b.collector.dest
done_below b g i m h x = omega (arith, m.low_is, (laid_bounds b 0 g.plan.done g.plan.low i.layout.done_laid h x).1)

pub ahead_above : (b : Box) (g : Ghosts) → Inv b g → Move b g → (h : ℕ) → Member h g.plan.ahead → b.collector.src + b.collector.size + 1 ≤ address h b
ahead_above b g i m h x = omega (arith, m.base_is, (laid_bounds b g.plan.base g.plan.ahead b.top i.layout.ahead_laid h x).0)

pub lies : (b : Box) (g : Ghosts) → Inv b g → Move b g → (h : ℕ) → Kept b g.plan h → Lies b h
lies b g i m h (settled x) = below (done_other b g i m h x) (done_below b g i m h x)
lies b g i m h (moving x) = moved (mid_only b g m h x)
lies b g i m h (unswept x l) = above (ahead_other b g i m h x) (ahead_above b g i m h x)
lies b g i m h (surviving x t) = above (ahead_other b g i m h x) (ahead_above b g i m h x)

-- ---- where index i stands to the index of the move
pub data Turn (i n : ℕ) : Type 0 where
  earlier : i < n → Turn i n
  now : i ≡ n → Turn i n
  later : n < i → Turn i n

pub turn : (i n : ℕ) → Turn i n
turn i n = go (dec_lt i n) (ℕ_discrete i n)
  where
    go : Dec (i < n) → Dec (i ≡ n) → Turn i n
    go (yes l) d = earlier l
    go (no f) (yes e) = now e
    go (no f) (no e) = later (omega arith)

-- ---- no rule of these phases finds a number out of bounds

pub read_fits : (b : Box) (g : Ghosts) → Inv b g → b.collector.phase ≡ 5 → b.collector.index ≤ b.collector.size → b.collector.src + b.collector.index < b.m
read_fits b g i p l = let f : Bounds b g = bounds b g i (at_read b g i.stage p).move in omega arith

pub record Finishes (b : Box) : Type 0 where
  pub least : 1 ≤ b.collector.tuple
  pub most : b.collector.tuple < b.h
  pub dest_fits : b.collector.dest + b.collector.size + 1 ≤ b.m
  pub after_fits : b.collector.src + b.collector.size + 1 ≤ b.m
  pub after_inside : b.collector.src + b.collector.size + 1 ≢ b.top → b.collector.src + b.collector.size + 1 < b.m

pub finish_fits : (b : Box) (g : Ghosts) → Inv b g → b.collector.phase ≡ 5 → b.collector.size < b.collector.index → Finishes b
finish_fits b g i p l =
    let f : Bounds b g = bounds b g i (at_read b g i.stage p).move in
    record { least = f.least; most = f.most; dest_fits = omega arith; after_fits = omega arith; after_inside = λ n. omega arith }

pub clear_fits : (b : Box) (g : Ghosts) → Inv b g → b.collector.phase ≡ 6 → b.collector.src + b.collector.index < b.m
clear_fits b g i p =
    let s : AtClear b g = at_clear b g i.stage p in
    let f : Bounds b g = bounds b g i s.move in
    omega arith

pub write_fits : (b : Box) (g : Ghosts) → Inv b g → b.collector.phase ≡ 7 → b.collector.dest + b.collector.index < b.m
write_fits b g i p =
    let s : AtWrite b g = at_write b g i.stage p in
    let f : Bounds b g = bounds b g i s.move in
    omega arith
