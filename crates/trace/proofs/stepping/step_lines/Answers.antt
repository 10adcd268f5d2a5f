-- One more step is done, and its answer is one more line, for which there is room. Assumes nothing.
use mathlib.Core.Path.{◌≡◌, refl, ◌∙◌}
use native.Mathlib.Omega.{arith}
use Rattle.lent.specs.Lent.{box_of}
use Rattle.trace.proofs.StepLines.{same_then, none_stepped, stepped_small, stepped_sound, stepped_room, stepped_more}
use Rattle.trace.proofs.stepping.step_lines.Goals as goal

pub loop-init : goal.loop-init
loop-init c = ((refl, refl, refl, refl, refl, refl, refl, refl, refl, refl), none_stepped c.args.out.now (box_of c.args.unit.now) c.args.at)

pub one_step-answer-requires : goal.one_step-answer-requires
one_step-answer-requires c = stepped_sound c.loop.counter c.args.out.now c.loop.out (box_of c.args.unit.now) (box_of c.loop.unit) c.args.at c.loop.end c.loop.invariant.1 ∙ c.requires.0

pub put_answer-end-requires : goal.put_answer-end-requires
put_answer-end-requires c = (stepped_small (box_of c.loop.unit) (box_of c.one_step-answer.new.unit) c.one_step-answer.result c.one_step-answer.ensures.answered, stepped_room c.loop.counter c.args.out.now c.loop.out (box_of c.args.unit.now) (box_of c.loop.unit) c.args.at c.loop.end c.loop.invariant.1 c.args.many c.loop-test.true c.requires.1)

pub loop-preserved : goal.loop-preserved
loop-preserved c = (same_then c.args.unit.now c.loop.unit c.one_step-answer.new.unit c.loop.invariant.0 c.one_step-answer.ensures.same_references, stepped_more c.loop.counter c.args.out.now c.loop.out (box_of c.args.unit.now) (box_of c.loop.unit) c.args.at c.loop.end c.loop.invariant.1 c.put_answer-end.new.out (box_of c.one_step-answer.new.unit) c.one_step-answer.result c.put_answer-end.result c.one_step-answer.ensures.answered c.put_answer-end.ensures)

pub returns-clause-stepped : goal.returns-clause-stepped
returns-clause-stepped c = let all : c.loop.counter ≡ c.args.many = omega (arith, c.loop-test.false, c.loop.auto.counter-end) in rw all at c.loop.invariant.1
