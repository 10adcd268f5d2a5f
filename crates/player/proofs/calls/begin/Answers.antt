-- `begin` meets its contract: no room for a line, a start that is refused, or an opening. Assumes nothing.
use native.Mathlib.Omega.{arith}
use lib.ListN.{length}
use Rattle.record.specs.Fields.{editions, entry}
use Rattle.record.proofs.Entries.{is_fault}
use Rattle.lent.specs.Lent.{box_of}
use Rattle.player.proofs.Starting.{starts_full, starts_refused, start_whole, opens_small, starts_open}
use Rattle.player.proofs.calls.begin.Goals as goal

pub returns-then-out-lt3-clause-begun : goal.returns-then-out-lt3-clause-begun
returns-then-out-lt3-clause-begun c = starts_full c.args.last c.args.input.now c.args.out.now (box_of c.args.unit.now) c.args.place c.requires c.if-out-lt3.true

pub returns-in-Err-clause-begun : goal.returns-in-Err-clause-begun
returns-in-Err-clause-begun c = let r = c.refuse_start.result in starts_refused c.args.last c.args.input.now c.args.out.now c.refuse_start.new.out (box_of c.args.unit.now) c.args.place r.place _ r.used r.written r.waits c.if-out-lt3.false (is_fault (length c.args.input.now) (entry editions c.args.input.now) _ c.head_of.ensures c.in-Err.fault c.in-Err.is) c.refuse_start.ensures

pub put_line-written-requires : goal.put_line-written-requires
put_line-written-requires c = (opens_small c.in-Ok.e.a c.in-Ok.e.b (box_of c.args.unit.now) (box_of c.open_first-answer.new.unit) c.open_first-answer.result c.open_first-answer.ensures.opens, omega (arith, c.if-out-lt3.false))

pub returns-clause-begun : goal.returns-clause-begun
returns-clause-begun c = starts_open c.args.last c.args.input.now c.args.out.now c.put_line-written.new.out (box_of c.args.unit.now) (box_of c.open_first-answer.new.unit) c.args.place c.place_after.result c.in-Ok.e.a c.in-Ok.e.b c.in-Ok.e.next c.open_first-answer.result c.put_line-written.result c.if-out-lt3.false (start_whole c.args.input.now _ c.head_of.ensures c.in-Ok.e c.in-Ok.is) c.open_first-answer.ensures.opens c.put_line-written.ensures c.place_after.ensures
