-- `read_one` meets its contract: a refused record, the end and a record are the three kinds of turn, and each leaves what the call comes
-- to as it was. A record's numbers have places, since each took a byte. Assumes nothing.
use mathlib.Core.Path.{◌∙◌, ap}
use native.Mathlib.Omega.{arith}
use Rattle.record.specs.Turns.{last}
use Rattle.record.proofs.Readings.{record_stands, turn_refused, turn_end, size_fits, turn_item}
use Rattle.record.proofs.reading.read_one.Goals as goal

pub returns-in-Err : goal.returns-in-Err
returns-in-Err c = let a = c.args in turn_refused a.bytes.now a.numbers.now a.place _ c.record_at.ensures _ c.in-Err.is _ c.number.ensures

pub returns-then-e-eq0 : goal.returns-then-e-eq0
returns-then-e-eq0 c =
    let a = c.args in
    ap (last a.numbers.now a.place.n) c.ending.ensures
    ∙ turn_end (record_stands a.bytes.now a.place.at _ c.record_at.ensures c.in-Ok.e c.in-Ok.is) a.numbers.now a.place.n a.place.count c.if-e-eq0.true

pub put-requires : goal.put-requires
put-requires c =
    let s = record_stands c.args.bytes.now c.args.place.at _ c.record_at.ensures c.in-Ok.e c.in-Ok.is in
    let f = size_fits s c.size_of-size.ensures in
    (omega (arith, f, c.requires.room, c.requires.few, c.requires.inside), f.0, f.1)

pub overflow_add-result : goal.overflow_add-result
overflow_add-result c =
    let s = record_stands c.args.bytes.now c.args.place.at _ c.record_at.ensures c.in-Ok.e c.in-Ok.is in
    omega (arith, size_fits s c.size_of-size.ensures)

pub returns : goal.returns
returns c =
    let a = c.args in
    let s = record_stands a.bytes.now a.place.at _ c.record_at.ensures c.in-Ok.e c.in-Ok.is in
    turn_item s c.size_of-size.ensures a.numbers.now a.place.n a.place.count c.requires c.if-e-eq0.false c.put.new.numbers c.put.auto.numbers c.put.ensures
