-- The loop's invariant: the groups stored and the groups left give the number's bytes together.
-- The measure is what is left of the number. Assumes nothing.
use Rattle.std.proofs.Common.{◌+◌, ◌-◌}
use Rattle.record.proofs.WritingNumbers.{Left}
use Rattle.record.proofs.writing.put_number.Given as goal

abbrev pub invariant-loop-left : goal.invariant-loop-left
invariant-loop-left l = Left l.n l.initial.bytes l.bytes l.at l.end l.left (l.at + 4 - l.end)

abbrev pub decreases-loop-left : goal.decreases-loop-left
decreases-loop-left l = l.left
