-- `run` meets its contract: what each stretch gives, by its last answer; and a run leaves the hold's numbers. Assumes nothing.
use mathlib.Core.Path.{◌∙◌}
use native.Mathlib.Omega.{arith}
use Rattle.lent.specs.Lent.{box_of}
use Rattle.steps.proofs.Ruling.{went_sound, same_after}
use Rattle.steps.proofs.Held.{run_held}
use Rattle.steps.proofs.Runs.{run_fits, run_on_after, run_ends, run_nears, run_spent}
use Rattle.steps.proofs.running.run.Goals as goal

pub overflow_add-done : goal.overflow_add-done
overflow_add-done c = let v = c.loop-done in let h = run_fits c.args.budget v.done (box_of v.unit) _ _ _ (omega arith) c.steps-went.ensures.went in record { fits = omega (arith, h) }

pub returns-then-answer-ne11-clause-ran : goal.returns-then-answer-ne11-clause-ran
returns-then-answer-ne11-clause-ran c = let v = c.loop-done in run_ends c.args.budget v.done (box_of v.unit) _ _ _ (omega arith) c.steps-went.ensures.went _ c.outcome-answer.ensures (λ z. omega (arith, z)) ∙ v.invariant.3

pub returns-then-answer-ne11-clause-held : goal.returns-then-answer-ne11-clause-held
returns-then-answer-ne11-clause-held c = let v = c.loop-done in run_held c.args.unit.now c.steps-went.new.unit _ _ _ (run_ends c.args.budget v.done (box_of v.unit) _ _ _ (omega arith) c.steps-went.ensures.went _ c.outcome-answer.ensures (λ z. omega (arith, z)) ∙ v.invariant.3)

pub returns-clause-held : goal.returns-clause-held
returns-clause-held c = let v = c.loop-done in run_held c.args.unit.now v.unit _ _ _ (run_spent c.args.budget v.done (box_of v.unit) (omega arith) ∙ v.invariant.3)

pub loop-done-smaller : goal.loop-done-smaller
loop-done-smaller c = let v = c.loop-done in let h = run_nears c.args.budget v.done (box_of v.unit) _ _ _ (omega arith) c.steps-went.ensures.went _ c.outcome-answer.ensures (omega arith) in omega (arith, h)

pub loop-done-preserved : goal.loop-done-preserved
loop-done-preserved c =
    let v = c.loop-done in
    let e = c.steps-went.ensures in
    (run_fits c.args.budget v.done (box_of v.unit) _ _ _ (omega arith) e.went, went_sound _ (box_of v.unit) _ _ _ e.went v.invariant.1, same_after c.args.unit.now v.unit c.steps-went.new.unit v.invariant.2 e.same_references, run_on_after c.args.budget v.done (box_of v.unit) _ _ _ (omega arith) e.went _ c.outcome-answer.ensures (omega arith) ∙ v.invariant.3)
