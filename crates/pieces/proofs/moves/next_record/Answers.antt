-- `next_record` meets its contract: a record read whole, or what the reader refuses. Assumes nothing.
use lib.ListN.{length, drop}
use Rattle.record.specs.Fields.{kinds, entry}
use Rattle.record.proofs.Entries.{is_whole, is_fault}
use Rattle.pieces.specs.Pieces.{next_record}
use Rattle.pieces.proofs.Choices.{place_here}
use Rattle.pieces.proofs.moves.next_record.Goals as goal

pub returns-in-Ok : goal.returns-in-Ok
unfolding next_record
returns-in-Ok c =
    let bs = c.args.input.now in
    let d = drop c.args.at bs in
    let w = is_whole (length bs) (entry kinds d) _ c.record_at.ensures c.in-Ok.e c.in-Ok.is in
    rw (w.is, next_record) (c.take_record.ensures (length bs) w.ns w.rest w.fields)

pub returns-in-Err : goal.returns-in-Err
unfolding next_record
returns-in-Err c =
    let bs = c.args.input.now in
    let d = drop c.args.at bs in
    rw (is_fault (length bs) (entry kinds d) _ c.record_at.ensures c.in-Err.fault c.in-Err.is, next_record) (c.refuse.ensures (length bs) d (place_here bs c.args.at c.requires))
