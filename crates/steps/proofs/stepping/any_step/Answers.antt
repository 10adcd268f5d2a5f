-- `any_step` meets its contract: one step is a stretch of one. Assumes nothing.
use Rattle.lent.specs.Lent.{box_of}
use Rattle.steps.proofs.Runs.{stretch_one}
use Rattle.steps.proofs.stepping.any_step.Goals as goal

pub returns-clause-answered : goal.returns-clause-answered
returns-clause-answered c = stretch_one (box_of c.args.unit.now) (box_of c.steps.new.unit) _ _ c.steps.ensures.went
