-- A step and a run leave what the held request asks for, so the hold may be lent to be read alone. By what each rule keeps. Assumes nothing.
use Prim.Native.Nat.{ℕ, zero, suc}
use mathlib.Core.Path.{◌≡◌, refl, sym, ap, ◌∙◌}
use lib.ListN.{get_or}
use Rattle.rules.specs.Parts.{Box}
use Rattle.rules.specs.Box.{Reply, reply}
use Rattle.rules.specs.Collector.{step}
use Rattle.rules.specs.Run.{Ran, ran, run, after_steps}
use Rattle.rules.proofs.Kept.{Outline, outline, step_keeps}
use Rattle.rules.proofs.Runs.{run_counts}
use Rattle.lent.specs.declared.unit.MemoryUnit.{MemoryUnit}
use Rattle.lent.specs.Lent.{state_of, box_of}
use Rattle.steps.specs.Held.{box_held}

steps_keep : (n : ℕ) (b : Box) → outline (after_steps n b) ≡ outline b
unfolding after_steps
steps_keep zero b = refl
steps_keep (suc n) b = steps_keep n (step b).box ∙ (step_keeps b).outline_same

pub run_keeps : (n : ℕ) (b : Box) → outline (run n b).box ≡ outline b
run_keeps n b = sym (ap outline (run_counts n b)) ∙ steps_keep (run n b).steps b

module _ (u v : MemoryUnit) where
  -- two holds that ask for the same make the same box
  same_hold : outline (box_of v) ≡ outline (box_of u) → box_held u v ≡ box_of v
  unfolding state_of
  same_hold o =
      let p : get_or u.hold.now 0 0 ≡ get_or v.hold.now 0 0 = sym (ap (λ (y : Outline). y.register) o) in
      let q : get_or u.hold.now 1 0 ≡ get_or v.hold.now 1 0 = sym (ap (λ (y : Outline). y.size) o) in
      let r : get_or u.hold.now 2 0 ≡ get_or v.hold.now 2 0 = sym (ap (λ (y : Outline). y.tag) o) in
      rw (p, q, r)

  pub step_held : (a : ℕ) → reply (box_of v) a ≡ step (box_of u) → reply (box_held u v) a ≡ step (box_of u)
  step_held a e = ap (λ (b : Box). reply b a) (same_hold (ap (λ (r : Reply). outline r.box) e ∙ (step_keeps _).outline_same)) ∙ e

  pub run_held : (n a k : ℕ) → ran (box_of v) a k ≡ run n (box_of u) → ran (box_held u v) a k ≡ run n (box_of u)
  run_held n a k e = ap (λ (b : Box). ran b a k) (same_hold (ap (λ (r : Ran). outline r.box) e ∙ run_keeps n _)) ∙ e
