-- `writing::put_entry` meets its contract: an entry is the number that names it, and its fields. Assumes nothing.
use Rattle.record.proofs.WritingEntries.{entry_unknown, entry_known}
use Rattle.record.proofs.writing.put_entry.Goals as goal

pub returns-in_default : goal.returns-in_default
returns-in_default c = rw c.in_default.is (entry_unknown _ _ _ _ _ _)

pub returns : goal.returns
returns c = rw c.in-Some.is (entry_known _ _ c.put_number-end.ensures c.put_fields.ensures)
