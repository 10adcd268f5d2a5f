-- `run` meets its contract. The loop's invariant: the box is sound, and the steps done and what the budget left gives are together what
-- the whole budget gives. The measure is what is left. Assumes nothing.
use Prim.Native.Nat.{◌-◌, ◌≤◌}
use mathlib.Core.Bool.{true}
use mathlib.Core.Path.{◌≡◌}
use Rattle.rules.specs.Box.{sound}
use Rattle.rules.specs.Run.{run_on, run}
use Rattle.lent.specs.Lent.{box_of, SameReferences}
use Rattle.steps.proofs.Runs.{later}
use Rattle.steps.proofs.running.run.Given as goal

abbrev pub invariant-loop-done : goal.invariant-loop-done
invariant-loop-done l = (l.done ≤ l.budget) × (sound (box_of l.unit) ≡ true) × SameReferences l.initial.unit l.unit × (later l.done (run_on (l.budget - l.done) (box_of l.unit)) ≡ run l.budget (box_of l.initial.unit))

abbrev pub decreases-loop-done : goal.decreases-loop-done
decreases-loop-done l = l.budget - l.done
