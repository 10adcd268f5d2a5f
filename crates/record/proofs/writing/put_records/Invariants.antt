-- The loop's invariant: what is stored and what the records left give are together what all records give.
-- The measure is how many numbers are left. Assumes nothing.
use Rattle.std.proofs.Common.{◌-◌, length}
use Rattle.record.proofs.WritingRecords.{Recorded}
use Rattle.record.proofs.writing.put_records.Given as goal

abbrev pub invariant-loop-next : goal.invariant-loop-next
invariant-loop-next l = Recorded l.numbers l.initial.bytes l.bytes l.at l.to l.next l.end l.records

abbrev pub decreases-loop-next : goal.decreases-loop-next
decreases-loop-next l = length l.numbers - l.next
