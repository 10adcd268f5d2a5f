-- `steps` meets its contract. The loop's invariant: the box is sound, and the steps done and what the steps left give are together what
-- all give. Assumes nothing.
use Prim.Native.Nat.{◌-◌}
use mathlib.Core.Bool.{true}
use mathlib.Core.Path.{◌≡◌}
use Rattle.rules.specs.Box.{sound}
use Rattle.lent.specs.Lent.{box_of, SameReferences}
use Rattle.steps.specs.Stretch.{stretch}
use Rattle.steps.proofs.Runs.{later}
use Rattle.steps.proofs.stepping.steps.Given as goal

abbrev pub invariant-loop-done : goal.invariant-loop-done
invariant-loop-done l = (sound (box_of l.unit) ≡ true) × SameReferences l.initial.unit l.unit × (later l.done (stretch (l.most - l.done) (box_of l.unit)) ≡ stretch l.most (box_of l.initial.unit))
