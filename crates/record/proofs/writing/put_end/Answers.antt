-- `writing::put_end` meets its contract: the end is the bytes of kind 0 and of the count, where the count has 32 bits. Assumes nothing.
use Rattle.record.proofs.WritingRecords.{end_too_many, end_fits}
use Rattle.record.proofs.writing.put_end.Goals as goal

pub returns-then-records : goal.returns-then-records
returns-then-records c = end_too_many _ _ _ c.if-records.true

pub returns : goal.returns
returns c = end_fits c.if-records.false c.put_number-kind_end.ensures c.put_number.ensures
