-- `writing::put_records` meets its contract: each turn stores a record or refuses it, and the end is behind them. Assumes nothing.
use mathlib.Core.Path.{◌∙◌}
use Rattle.std.proofs.lemmas.Result.{err_from_is_err_and}
use Rattle.record.proofs.WritingRecords.{records_turn, records_stop, records_end}
use Rattle.record.proofs.writing.put_records.Goals as goal

pub returns-in_err-took : goal.returns-in_err-took
returns-in_err-took c =
    let p = err_from_is_err_and c.from_residual.result c.from_residual.ensures.1 in
    rw (p.1, p.2) (records_stop c.loop-next.invariant c.loop-next-test.true c.fields_of_record-fields.ensures c.in_err-took.ensures)

pub loop-next-preserved : goal.loop-next-preserved
loop-next-preserved c = records_turn c.loop-next.invariant c.loop-next-test.true c.fields_of_record-fields.ensures c.in_ok-took.ensures

pub returns : goal.returns
returns c = c.put_end.ensures ∙ records_end c.loop-next.invariant c.loop-next-test.false
