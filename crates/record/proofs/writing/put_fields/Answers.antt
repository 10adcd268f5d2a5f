-- `writing::put_fields` meets its contract: each turn stores a number or refuses it. Assumes nothing.
use Rattle.record.proofs.WritingEntries.{fields_turn, fields_missing, fields_above, fields_end}
use Rattle.record.proofs.writing.put_fields.Goals as goal

pub returns-then-numbers-next : goal.returns-then-numbers-next
returns-then-numbers-next c = fields_missing c.loop-limit.invariant c.loop-limit-test.true c.if-numbers-next.true

pub returns-then-limit-n : goal.returns-then-limit-n
returns-then-limit-n c = fields_above c.loop-limit.invariant c.loop-limit-test.true c.if-numbers-next.false c.if-limit-n.true

pub loop-limit-preserved : goal.loop-limit-preserved
loop-limit-preserved c = fields_turn c.loop-limit.invariant c.loop-limit-test.true c.if-numbers-next.false c.if-limit-n.false c.put_number-end.ensures

pub returns : goal.returns
returns c = fields_end c.loop-limit.invariant c.loop-limit-test.false
