-- The collector's transitions mark and keep only what the cycle may keep. By phase: marking shades what a register or a word of a
-- spared tuple names; the sweep begins with the marked tuples, and keeps no other after that. Assumes nothing.
use Prim.Native.Nat.{ℕ, ◌+◌, ◌-◌, ◌≤◌}
use mathlib.Core.Bool.{Bool, true, false, cond}
use mathlib.Core.List.{List, [], ◌++◌}
use mathlib.Core.Logic.{◌≢◌, ◌⊎◌, inl, inr}
use mathlib.Core.Path.{◌≡◌, refl, sym, ◌∙◌, ap₂, subst}
use native.Mathlib.Decide.{ℕ_discrete}
use native.Mathlib.Omega.{arith}
use lib.Seq.{get_or-set_other}
use Rattle.rules.specs.Parts.{Word, Box}
use Rattle.rules.specs.Box.{handle_of, names_tuple, size_of, word_at, marked, deep}
use Rattle.rules.specs.Place.{list_next, mark_live, shade}
use Rattle.history.specs.Machine.{History}
use Rattle.history.specs.Agreement.{Member}
use Rattle.history.proofs.Invariant.Statement.{Plan, Ghosts, Inv, listed, word, Kept, settled, moving, unswept, surviving, Scan}
use Rattle.history.proofs.Invariant.Frame.{Calm}
use Rattle.history.proofs.Invariant.Words.{word_early}
use Rattle.history.proofs.Relation.Statement.{Related}
use Rattle.history.proofs.Spared.Tracked.{Spared, Tracked, tracked_on, tracked_start, word_spared}
use Rattle.history.proofs.Invariant.Stages.{unswept_of, kept_ahead, rests_of, Scanning, scanning_of}

module _ (b : Box) (g : Ghosts) (v : Inv b g) (c : Box) (q : Plan) (s : Calm b g.plan c q) where
  -- a tuple ahead after a transition of the marking was ahead before it
  was_ahead : b.collector.phase ≤ 3 → c.collector.phase ≤ 3 → (h : ℕ) → Member h q.ahead → Member h g.plan.ahead
  was_ahead l u h x = kept_ahead b g h (unswept_of b g v.stage l) (s.kept_to h (unswept x u))

  -- the Rest step
  pub tracked_rests : (m : History) (number : ℕ → ℕ) → b.collector.phase ≡ 0 → c.collector.phase ≡ 1 → ((h : ℕ) → marked h c ≡ marked h b) → Tracked c q m number m
  tracked_rests m number e f k = tracked_start c q m number f (λ h x. k h ∙ (rests_of b g v.stage e).unmarked h (was_ahead (omega arith) (omega arith) h x))

  module _ (m : History) (number : ℕ → ℕ) (started : History) (t : Tracked b g.plan m number started) where
    -- a transition of the marking: what it marks newly is spared, and so is what it is to add
    pub tracked_marks : b.collector.phase ≤ 3 → c.collector.phase ≤ 3 → ((h : ℕ) → marked h c ≡ true → (marked h b ≡ true) ⊎ Spared started (number h))
        → (c.collector.phase ≡ 3 → Spared started (number c.collector.tuple)) → Tracked c q m number started
    tracked_marks l u f a = tracked_on b c g.plan q m number started t (λ w h x k. go h (was_ahead l u h x) (f h k)) a (λ w. absurd (omega arith))
      where
        go : (h : ℕ) → Member h g.plan.ahead → (marked h b ≡ true) ⊎ Spared started (number h) → Spared started (number h)
        go h x (inl k) = t.marked_spared l h x k
        go h x (inr y) = y

    -- the sweep begins: what is kept is marked
    pub tracked_sweep : b.collector.phase ≤ 3 → c.collector.phase ≡ 4 → ((h : ℕ) → marked h c ≡ marked h b) → q.done ≡ [] → q.mid ≡ [] → Tracked c q m number started
    tracked_sweep l e k d f = tracked_on b c g.plan q m number started t (λ w. absurd (omega arith)) (λ w. absurd (omega arith)) (λ w. keep)
      where
        keep : (h : ℕ) → Kept c q h → Spared started (number h)
        keep h (settled x) = absurd (subst (λ (y : List ℕ). Member h y) d x)
        keep h (moving x) = absurd (subst (λ (y : List ℕ). Member h y) f x)
        keep h (unswept x w) = absurd (omega arith)
        keep h (surviving x w) = t.marked_spared l h (kept_ahead b g h (unswept_of b g v.stage l) (s.kept_to h (surviving x w))) (sym (k h) ∙ w)

    -- the sweep goes on
    pub tracked_swept : 4 ≤ b.collector.phase → 4 ≤ c.collector.phase → Tracked c q m number started
    tracked_swept l u = tracked_on b c g.plan q m number started t (λ w. absurd (omega arith)) (λ w. absurd (omega arith)) (λ w h x. t.kept_spared l h (s.kept_to h x))

    -- the cycle ends after a sweep
    pub ended_spared : 4 ≤ b.collector.phase → (h : ℕ) → Kept c q h → Spared started (number h)
    ended_spared l h x = t.kept_spared l h (s.kept_to h x)

-- ---- shading

-- a shade marks one tuple at most
pub shade_mark_other : (h : ℕ) (b : Box) (x : ℕ) → x ≢ h → marked x (shade h b) ≡ marked x b
unfolding shade mark_live list_next
shade_mark_other h b x n = go (marked h b) (deep h b)
  where
    go : (s t : Bool) → marked x (cond s b (cond t (list_next h (mark_live h b)) (mark_live h b))) ≡ marked x b
    go true t = refl
    go false true = get_or-set_other b.directory.marks h x true false n
    go false false = get_or-set_other b.directory.marks h x true false n

-- what is marked after it was marked before it or is the tuple shaded
pub shade_marked_only : (h : ℕ) (b : Box) (P : ℕ → Type 0) → P h → (x : ℕ) → marked x (shade h b) ≡ true → (marked x b ≡ true) ⊎ P x
shade_marked_only h b P y x e = go (ℕ_discrete x h)
  where
    go : Dec (x ≡ h) → (marked x b ≡ true) ⊎ P x
    go (yes q) = inr (subst P (sym q) y)
    go (no n) = inl (sym (shade_mark_other h b x n) ∙ e)

-- ---- the scan

-- what a scanned word names is spared
pub scanned_spared : (b : Box) (g : Ghosts) (m : History) (given : List ℕ) (number : ℕ → ℕ) (started : History) → Inv b g
    → Related b g.plan m given number → Tracked b g.plan m number started
    → b.collector.phase ≡ 2 → b.collector.index ≤ b.collector.size → names_tuple (word_at (b.collector.src + b.collector.index) b) ≡ true
    → Spared started (number (handle_of (word_at (b.collector.src + b.collector.index) b)))
scanned_spared b g m given number started v r t e l n = let s : Scanning b g = scanning_of b g v.stage e in found s.scanned s.scan_is
  where
    found : (s : ℕ) → Scan b g s → Spared started (number (handle_of (word_at (b.collector.src + b.collector.index) b)))
    found s c =
        let x : Member s (listed g.scans) = subst (λ (y : List ℕ). Member s (y ++ (g.scans.nexts ++ g.scans.currents))) (sym c.gray_is) (inl refl) in
        let a : Member s g.plan.ahead = v.marks.listed_ahead s x in
        let k : Kept b g.plan s = unswept a (omega arith) in
        let p : Spared started (number s) = t.marked_spared (omega arith) s a (v.marks.listed_marked s x) in
        let z : size_of s b ≡ b.collector.size = c.size_is in
        let o : 1 ≤ b.collector.index = c.index_least in
        let i : b.collector.index - 1 + 1 ≡ b.collector.index = omega arith in
        let w : word s (b.collector.index - 1 + 1) b ≡ word_at (b.collector.src + b.collector.index) b = word_early s (b.collector.index - 1 + 1) b (omega arith) ∙ ap₂ (λ (y u : ℕ). word_at (y + u) b) c.src_is i in
        subst (λ (y : Word). Spared started (number (handle_of y))) w (word_spared b g.plan m given number r v.contents started t s k p (b.collector.index - 1) (omega arith) (subst (λ (y : Word). names_tuple y ≡ true) (sym w) n))
