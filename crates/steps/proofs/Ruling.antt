-- One step on the lent parts: the rule of the phase, and the tuple that a granted request still needs. What every rule keeps carries
-- the tests that are made once over the whole of a run. Assumes nothing.
use Prim.Native.Nat.{ℕ, zero, suc}
use mathlib.Core.Bool.{Bool, true, false, cond}
use mathlib.Core.Path.{◌≡◌, sym, ap, ◌∙◌}
use lib.Dec.{eqb}
use Rattle.rules.specs.Parts.{Box}
use Rattle.rules.specs.Box.{Reply, reply, sound}
use Rattle.rules.specs.Collector.{granted, rule_of, step}
use Rattle.rules.specs.Run.{Ran, ran, counted}
use Rattle.rules.proofs.Kept.{outline, rule_keeps, step_sound}
use Rattle.collector.specs.Decide.{with_grant}
use Rattle.collector.proofs.Granting.{ungranted}
use Rattle.lent.specs.declared.unit.MemoryUnit.{MemoryUnit}
use Rattle.lent.specs.Lent.{box_of, HasColumns, SameReferences}
use Rattle.lent.proofs.Columns.{sound_columns, columns_kept}
use Rattle.phases.proofs.Landing.{grant_outline}
use Rattle.steps.specs.Stretch.{stretch}

module _ (b : Box) where
  -- the rule's reply t and n, where the held request is not granted
  pub step_plain : (t : Box) (n : ℕ) → (n ≡ 32 → ⊥) → sound b ≡ true → with_grant (reply t n) ≡ rule_of b.collector.phase b → reply t n ≡ step b
  unfolding step
  step_plain t n z e q = sym (ungranted t n z) ∙ simp (e, q)

  -- and where it is, with its tuple made
  pub step_granted : (t a : Box) (n : ℕ) → n ≡ 32 → sound b ≡ true → with_grant (reply t n) ≡ rule_of b.collector.phase b → a ≡ granted t → reply a n ≡ step b
  unfolding step with_grant
  step_granted t a n z e q p = simp (e, ← q, z, p)

  pub step_refused : sound b ≡ false → reply b 9 ≡ step b
  unfolding step
  step_refused t = simp t

-- ---- what a rule leaves has the sizes and lengths of what it found

ruled_outline : (p : ℕ) (b x : Box) (a : ℕ) → with_grant (reply x a) ≡ rule_of p b → outline x ≡ outline b
ruled_outline p b x a e = sym (grant_outline x a) ∙ ap (λ (r : Reply). outline r.box) e ∙ (rule_keeps b p).outline_same

pub ruled_columns : (u v : MemoryUnit) (p a : ℕ) → with_grant (reply (box_of v) a) ≡ rule_of p (box_of u) → sound (box_of u) ≡ true → HasColumns v
ruled_columns u v p a e s = columns_kept u v (ruled_outline p (box_of u) (box_of v) a e) (sound_columns u s)

-- ---- a step keeps a box sound, and a stretch does

pub stepped_sound : (b x : Box) (a : ℕ) → reply x a ≡ step b → sound b ≡ true → sound x ≡ true
stepped_sound b x a e s = ap (λ (r : Reply). sound r.box) e ∙ step_sound b s

stretch_sound : (n : ℕ) (b : Box) → sound b ≡ true → sound (stretch n b).box ≡ true
unfolding stretch
stretch_sound zero b s = s
stretch_sound (suc n) b s = go (eqb (step b).answer 30) (stretch_sound n (step b).box (step_sound b s))
  where
    go : (t : Bool) → sound (stretch n (step b).box).box ≡ true → sound (cond t (counted (stretch n (step b).box)) (ran (step b).box (step b).answer (cond (eqb (step b).answer 9) 0 1))).box ≡ true
    go true h = h
    go false h = step_sound b s

pub went_sound : (n : ℕ) (b x : Box) (a k : ℕ) → ran x a k ≡ stretch n b → sound b ≡ true → sound x ≡ true
went_sound n b x a k e s = ap (λ (r : Ran). sound r.box) e ∙ stretch_sound n b s

-- ---- one call after another leaves the caller's parts

pub same_after : (u v w : MemoryUnit) → SameReferences u v → SameReferences v w → SameReferences u w
same_after u v w p q = (q.0 ∙ p.0, q.1 ∙ p.1, q.2 ∙ p.2, q.3 ∙ p.3, q.4 ∙ p.4, q.5 ∙ p.5, q.6 ∙ p.6, q.7 ∙ p.7, q.8 ∙ p.8, q.9 ∙ p.9)
