-- `steps` meets its contract: what each step gives, by its answer. Assumes nothing.
use mathlib.Core.Path.{◌∙◌}
use native.Mathlib.Omega.{arith}
use Rattle.std.proofs.Common.{rules}
use Rattle.lent.specs.Lent.{box_of}
use Rattle.steps.proofs.Ruling.{stepped_sound, same_after}
use Rattle.steps.proofs.Runs.{stretch_on, stretch_refused, stretch_stops, stretch_spent}
use Rattle.steps.proofs.stepping.steps.Goals as goal

pub returns-then-eq-clause-went : goal.returns-then-eq-clause-went
returns-then-eq-clause-went c = let v = c.loop-done in stretch_refused c.args.most v.done (box_of v.unit) _ _ (omega arith) c.stepped-answer.ensures.answered (search rules) ∙ v.invariant.2

pub returns-then-ne-clause-went : goal.returns-then-ne-clause-went
returns-then-ne-clause-went c = let v = c.loop-done in stretch_stops c.args.most v.done (box_of v.unit) _ _ (omega arith) c.stepped-answer.ensures.answered (search rules) (search rules) ∙ v.invariant.2

pub loop-done-preserved : goal.loop-done-preserved
loop-done-preserved c =
    let v = c.loop-done in
    let e = c.stepped-answer.ensures in
    (stepped_sound (box_of v.unit) _ _ e.answered v.invariant.0, same_after c.args.unit.now v.unit c.stepped-answer.new.unit v.invariant.1 e.same_references, stretch_on c.args.most v.done (box_of v.unit) _ _ (omega arith) e.answered (search rules) ∙ v.invariant.2)

pub returns-clause-went : goal.returns-clause-went
returns-clause-went c = let v = c.loop-done in stretch_spent c.args.most v.done (box_of v.unit) (omega arith) ∙ v.invariant.2
