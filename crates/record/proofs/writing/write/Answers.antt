-- `writing::write` meets its contract: the first pass stores nothing of the lent bytes and gives what refuses the list or how many bytes
-- there are; the second, for which the lent bytes are enough, stores them all. Assumes nothing.
use Rattle.std.proofs.lemmas.Result.{err_from_is_err_and}
use Rattle.record.proofs.WritingAll.{write_refused, write_short, write_put}
use Rattle.record.proofs.writing.write.Goals as goal

pub returns-in_err-count : goal.returns-in_err-count
returns-in_err-count c =
    let p = err_from_is_err_and c.from_residual.result c.from_residual.ensures.1 in
    rw (p.1, p.2) (write_refused _ _ _ _ c.in_err-count.ensures)

pub returns-then-bytes-count : goal.returns-then-bytes-count
returns-then-bytes-count c = write_short _ _ _ _ _ c.in_ok-count.ensures c.if-bytes-count.true

pub returns : goal.returns
returns c = write_put _ _ _ _ _ c.in_ok-count.ensures c.if-bytes-count.false _ _ c.put_all-2.ensures
