-- `first_root` meets its contract. The loop's invariant: what a look at all registers finds is what a look from r on does. Assumes
-- nothing.
use Prim.Native.Nat.{◌-◌}
use mathlib.Core.Path.{◌≡◌}
use Rattle.rules.specs.Collector.{look_from}
use Rattle.lent.specs.Lent.{box_of}
use Rattle.phases.proofs.look.first_root.Given as goal

abbrev pub invariant-loop-r : goal.invariant-loop-r
invariant-loop-r l = look_from (8 - l.r) (box_of l.unit) ≡ look_from 8 (box_of l.unit)
