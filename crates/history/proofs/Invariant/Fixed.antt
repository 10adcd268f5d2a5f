-- The invariant fixes the ghosts that it speaks of: where the tuples ahead begin, by the phase; which they are, since the word where each
-- begins names it; and the tuples that wait for a scan, since they are the chains of the two lists. Each by induction on the two
-- lists or by the stage. Assumes nothing.
use Prim.Native.Nat.{ℕ, ◌+◌, ◌≤◌}
use mathlib.Core.Bool.{false}
use mathlib.Core.List.{List, [], ◌∷◌, ◌++◌}
use mathlib.Core.Logic.{inl, inr}
use mathlib.Core.Path.{◌≡◌, refl, sym, ap, ap₂, ◌∙◌, subst}
use native.Mathlib.Omega.{arith}
use lib.ListN.{get_or}
use Rattle.rules.specs.Parts.{Box}
use Rattle.rules.specs.Box.{word_at, address, size_of}
use Rattle.rules.specs.Collector.{after}
use Rattle.history.specs.Agreement.{Member}
use Rattle.history.proofs.Invariant.Statement.{Scans, Ghosts, Inv, Chain, Laid, listed, Stage, at_rest, finding, scanning, adding, sweeping, reading, clearing, writing, zeroing}
use Rattle.history.proofs.Lists.Handles.{member_left, member_right}
use Rattle.history.proofs.Lists.Laid.{laid_le, laid_from, laid_to, laid_words}
use Rattle.history.proofs.Invariant.Stages.{unswept_of, ahead_entry, sweeps_of}

-- ---- two lists that lie alike, and two chains from one head

pub laid_unique : (b : Box) (a : ℕ) (xs ys : List ℕ) (e : ℕ) → Laid b a xs e → Laid b a ys e → xs ≡ ys
laid_unique b a [] [] e l k = refl
laid_unique b a [] (y ∷ ys) e l k = absurd (past (laid_le b (a + size_of y b + 1) ys e k.2))
  where
    past : a + size_of y b + 1 ≤ e → ⊥
    past q = omega (arith, l)
laid_unique b a (x ∷ xs) [] e l k = absurd (past (laid_le b (a + size_of x b + 1) xs e l.2))
  where
    past : a + size_of x b + 1 ≤ e → ⊥
    past q = omega (arith, k)
laid_unique b a (x ∷ xs) (y ∷ ys) e l k =
    let named : x ≡ y = sym l.1.1 ∙ k.1.1 in
    let behind : Laid b (a + size_of x b + 1) ys e = subst (λ (z : ℕ). Laid b (a + size_of z b + 1) ys e) (sym named) k.2 in
    ap₂ (λ (z : ℕ) (zs : List ℕ). z ∷ zs) named (laid_unique b (a + size_of x b + 1) xs ys e l.2 behind)

pub chain_unique : (links : List ℕ) (head : ℕ) (xs ys : List ℕ) → ((h : ℕ) → Member h xs → 1 ≤ h) → ((h : ℕ) → Member h ys → 1 ≤ h)
    → Chain links head xs → Chain links head ys → xs ≡ ys
chain_unique links head [] [] f g c d = refl
chain_unique links head [] (y ∷ ys) f g c d = absurd (nil (g y (inl refl)) d.0)
  where
    nil : 1 ≤ y → head ≡ y → ⊥
    nil l e = omega (arith, c)
chain_unique links head (x ∷ xs) [] f g c d = absurd (nil (f x (inl refl)) c.0)
  where
    nil : 1 ≤ x → head ≡ x → ⊥
    nil l e = omega (arith, d)
chain_unique links head (x ∷ xs) (y ∷ ys) f g c d =
    let named : x ≡ y = sym c.0 ∙ d.0 in
    let behind : Chain links (get_or links x 0) ys = subst (λ (z : ℕ). Chain links (get_or links z 0) ys) (sym named) d.1 in
    ap₂ (λ (z : ℕ) (zs : List ℕ). z ∷ zs) named (chain_unique links (get_or links x 0) xs ys (λ h m. f h (inr m)) (λ h m. g h (inr m)) c.1 behind)

-- ---- where the tuples ahead begin

pub base_unswept : (b : Box) (g : Ghosts) → Inv b g → b.collector.phase ≤ 3 → g.plan.base ≡ 0
base_unswept b g v l = (unswept_of b g v.stage l).base_zero

pub base_sweep : (b : Box) (g : Ghosts) → Inv b g → b.collector.phase ≡ 4 → g.plan.base ≡ b.collector.src
base_sweep b g v f = (sweeps_of b g v.stage f).base_is

pub base_behind : (b : Box) (g : Ghosts) → Inv b g → 5 ≤ b.collector.phase → g.plan.base ≡ after b
base_behind b g v l = by_stage v.stage
  where
    by_stage : Stage b g → g.plan.base ≡ after b
    by_stage (at_rest p u k n) = absurd (omega arith)
    by_stage (finding p u m n) = absurd (omega arith)
    by_stage (scanning p u s c k) = absurd (omega arith)
    by_stage (adding p u s c t k) = absurd (omega arith)
    by_stage (sweeping p k m w a z hs e) = absurd (omega arith)
    by_stage (reading p m i z) = m.base_is
    by_stage (clearing p m i z) = m.base_is
    by_stage (writing p m i z) = m.base_is
    by_stage (zeroing p k m w a d i z) = a

-- ---- the tuples ahead

pub ahead_fixed : (c : Box) (g : Ghosts) (a : ℕ) (hs : List ℕ) → Inv c g → g.plan.base ≡ a → Laid c a hs c.top → g.plan.ahead ≡ hs
ahead_fixed c g a hs v e l =
    laid_unique c g.plan.base g.plan.ahead hs c.top v.layout.ahead_laid (laid_from c a g.plan.base hs c.top (sym e) l)

-- c is b where tuples that lie from a to top are read
pub record SameLaid (b c : Box) (a : ℕ) (hs : List ℕ) : Type 0 where
  pub addresses : (h : ℕ) → Member h hs → address h c ≡ address h b
  pub sizes : (h : ℕ) → size_of h c ≡ size_of h b
  pub words : (x : ℕ) → a ≤ x → word_at x c ≡ word_at x b
  pub top : c.top ≡ b.top

-- the columns that it reads are the same
pub same_columns : (b c : Box) (a : ℕ) (hs : List ℕ) → c.directory.addresses ≡ b.directory.addresses → c.directory.sizes ≡ b.directory.sizes → c.memory.words ≡ b.memory.words
    → c.memory.flags ≡ b.memory.flags → c.top ≡ b.top
    → SameLaid b c a hs
same_columns b c a hs ad sz wd fl t =
    record {
      addresses = λ h m. ap (λ (l : List ℕ). get_or l h 0) ad;
      sizes = λ h. ap (λ (l : List ℕ). get_or l h 0) sz;
      words = λ x u. λ i. record { bits = get_or (wd i) x 0; flag = get_or (fl i) x false };
      top = t;
    }

-- the tuples of b that lie from where those ahead begin in c are those ahead in c
pub ahead_carried : (b c : Box) (g : Ghosts) (a : ℕ) (hs : List ℕ) → Laid b a hs b.top → SameLaid b c a hs → Inv c g → g.plan.base ≡ a → g.plan.ahead ≡ hs
ahead_carried b c g a hs l s v e =
    ahead_fixed c g a hs v e
    (laid_to c a hs b.top c.top (sym s.top)
    (laid_words b c a hs b.top s.addresses (λ h m. s.sizes h) (λ x u w. s.words x u) l))

-- ---- handles that can be looked up

pub nexts_listed : (s : Scans) (h : ℕ) → Member h s.nexts → Member h (listed s)
nexts_listed s h m = member_right h s.gray (s.nexts ++ s.currents) (member_left h s.nexts s.currents m)

pub currents_listed : (s : Scans) (h : ℕ) → Member h s.currents → Member h (listed s)
currents_listed s h m = member_right h s.gray (s.nexts ++ s.currents) (member_right h s.nexts s.currents m)

pub nexts_entry : (b : Box) (g : Ghosts) → Inv b g → (h : ℕ) → Member h g.scans.nexts → 1 ≤ h
nexts_entry b g v h m = (ahead_entry b g.plan g.free h v.handles (v.marks.listed_ahead h (nexts_listed g.scans h m))).0

pub currents_entry : (b : Box) (g : Ghosts) → Inv b g → (h : ℕ) → Member h g.scans.currents → 1 ≤ h
currents_entry b g v h m = (ahead_entry b g.plan g.free h v.handles (v.marks.listed_ahead h (currents_listed g.scans h m))).0

-- ---- the tuples that wait for a scan

pub nexts_fixed : (c : Box) (g : Ghosts) (hs : List ℕ) → Inv c g → ((h : ℕ) → Member h hs → 1 ≤ h) → Chain c.directory.links c.collector.next hs → g.scans.nexts ≡ hs
nexts_fixed c g hs v f d = chain_unique c.directory.links c.collector.next g.scans.nexts hs (nexts_entry c g v) f v.marks.nexts_chain d

pub currents_fixed : (c : Box) (g : Ghosts) (hs : List ℕ) → Inv c g → ((h : ℕ) → Member h hs → 1 ≤ h) → Chain c.directory.links c.collector.current hs → g.scans.currents ≡ hs
currents_fixed c g hs v f d = chain_unique c.directory.links c.collector.current g.scans.currents hs (currents_entry c g v) f v.marks.currents_chain d
