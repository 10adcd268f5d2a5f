-- `take_steps` meets its contract: as many steps as are left and there is room for, which come to as many turns. Assumes nothing.
use native.Mathlib.Omega.{arith}
use Rattle.lent.specs.Lent.{box_of}
use Rattle.turns.proofs.StepLaws.{turn_steps}
use Rattle.turns.proofs.playing.take_steps.Goals as goal

pub returns-clause-turned : goal.returns-clause-turned
returns-clause-turned c = let a = c.args in let f = a.from in let r = c.requires in let m = c.at_most-many in λ last bs h. turn_steps m.result last bs a.out.now c.step_lines-behind.new.out (box_of a.unit.now) (box_of c.step_lines-behind.new.unit) f.place f.used f.written c.step_lines-behind.result h (omega (arith, m.ensures.1, r.0)) r.1 (m.ensures.2 r.2 (omega (arith, r.0))) m.ensures.0 c.step_lines-behind.ensures.stepped
