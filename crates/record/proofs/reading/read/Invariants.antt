-- The loop's invariant: the places fit, and what the call comes to from here is what it comes to from its start. The measure is how
-- many bytes are left. Assumes nothing.
use Rattle.std.proofs.Common.{◌-◌, ◌≡◌, length}
use Rattle.record.specs.Reading.{read}
use Rattle.record.specs.Turns.{at_last, last_of, Fit}
use Rattle.record.proofs.reading.read.Given as goal

abbrev pub invariant-loop-further : goal.invariant-loop-further
invariant-loop-further l = Fit l.bytes l.numbers l.place × (at_last l.bytes l.numbers l.place ≡ last_of l.fn.numbers 0 (read l.bytes))

abbrev pub decreases-loop-further : goal.decreases-loop-further
decreases-loop-further l = length l.bytes - l.place.at
