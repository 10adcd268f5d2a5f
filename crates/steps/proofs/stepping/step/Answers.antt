-- `step` meets its contract: a step leaves the hold's numbers. Assumes nothing.
use Rattle.steps.proofs.Held.{step_held}
use Rattle.steps.proofs.stepping.step.Goals as goal

pub returns-clause-held : goal.returns-clause-held
returns-clause-held c = step_held c.args.unit.now c.one_step.new.unit c.one_step.result c.one_step.ensures.answered
