-- So many steps as were counted are done, their answers lines of the output. Assumes nothing.
use Rattle.lent.specs.Lent.{box_of, SameReferences}
use Rattle.trace.specs.Stepped.{Stepped}
use Rattle.trace.proofs.stepping.step_lines.Given as goal

abbrev pub invariant-loop : goal.invariant-loop
invariant-loop l = SameReferences l.initial.unit l.unit × Stepped l.counter l.initial.out l.out (box_of l.initial.unit) (box_of l.unit) l.at l.end
