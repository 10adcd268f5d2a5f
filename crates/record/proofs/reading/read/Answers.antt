-- `read` meets its contract: the head and then record after record, and what the loop's invariant leaves at the end. Assumes nothing.
use mathlib.Core.Path.{◌∙◌}
use native.Mathlib.Omega.{arith}
use Rattle.record.proofs.Readings.{head_stands, too_few, head_refused, head_fits, head_starts, all_read}
use Rattle.record.proofs.reading.read.Goals as goal

pub returns-then-numbers-bytes : goal.returns-then-numbers-bytes
returns-then-numbers-bytes c = too_few _ _ c.if-numbers-bytes.true

pub returns-in-Err : goal.returns-in-Err
returns-in-Err c = head_refused c.args.bytes.now c.args.numbers.now c.if-numbers-bytes.false _ c.head_of.ensures _ c.in-Err.is _ c.number.ensures

pub put-requires : goal.put-requires
put-requires c = (omega (arith, head_fits (head_stands c.args.bytes.now _ c.head_of.ensures c.in-Ok.e c.in-Ok.is)), omega arith, omega arith)

pub loop-further-init : goal.loop-further-init
loop-further-init c =
    let a = c.args in
    let s = head_stands a.bytes.now _ c.head_of.ensures c.in-Ok.e c.in-Ok.is in
    let f = head_fits s in
    (record { room = omega arith; inside = f.1; few = f.0; fewer = omega arith }, head_starts s a.numbers.now c.put.new.numbers c.if-numbers-bytes.false c.put.ensures)

pub returns-in-Ended : goal.returns-in-Ended
returns-in-Ended c = all_read _ _ _ _ _ c.if-numbers-bytes.false (c.in-Ended.ensures ∙ c.loop-further.invariant.1)
