-- `stepped` meets its contract: the rule, and the tuple of a request that it grants. Assumes nothing.
use Rattle.std.proofs.Common.{rules}
use Rattle.collector.specs.Answer.{number_of}
use Rattle.lent.specs.Lent.{state_in, box_of}
use Rattle.steps.proofs.Ruling.{step_plain, step_granted, ruled_columns}
use Rattle.steps.proofs.stepping.stepped.Goals as goal

pub grant-requires-clause-columns : goal.grant-requires-clause-columns
grant-requires-clause-columns c = ruled_columns c.args.unit.now c.rule-answer.new.unit (state_in c.args.unit.now).phase (number_of c.rule-answer.result) c.rule-answer.ensures.ruled c.requires

pub returns-then-eq-clause-answered : goal.returns-then-eq-clause-answered
returns-then-eq-clause-answered c = step_granted (box_of c.args.unit.now) (box_of c.rule-answer.new.unit) _ _ (search rules) c.requires c.rule-answer.ensures.ruled c.grant.ensures.granted

pub returns-else-eq-clause-answered : goal.returns-else-eq-clause-answered
returns-else-eq-clause-answered c = step_plain (box_of c.args.unit.now) (box_of c.rule-answer.new.unit) _ (search rules) c.requires c.rule-answer.ensures.ruled
