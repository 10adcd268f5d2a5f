-- The loop's invariant: what is stored and what the numbers left give are together what the fields give. Assumes nothing.
use Rattle.record.proofs.WritingEntries.{Partly}
use Rattle.record.proofs.writing.put_fields.Given as goal

abbrev pub invariant-loop-limit : goal.invariant-loop-limit
invariant-loop-limit l = Partly l.fields l.numbers l.initial.bytes l.bytes l.at l.to l.next l.end l.limit-index
