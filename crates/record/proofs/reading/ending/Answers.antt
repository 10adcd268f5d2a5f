-- `ending` meets its contract: bytes behind the end are refused. Assumes nothing.
use borrow.Author.Tests.{eq-eqb}
use lib.Seq.{drop-cons}
use Rattle.record.specs.Reading.{nothing_behind, ending}
use Rattle.record.proofs.reading.ending.Goals as goal

pub returns-then-next-bytes : goal.returns-then-next-bytes
unfolding ending nothing_behind
returns-then-next-bytes c =
    let a = c.args in
    rw (eq-eqb a.told a.count c.if-told-count.true, drop-cons a.bytes.now a.next 0 c.if-next-bytes.true)
