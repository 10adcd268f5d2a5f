-- `put` meets its contract: two, three or four stores are a run of stores, and `size` says how many. Assumes nothing.
use native.Mathlib.Omega.{arith}
use Rattle.record.proofs.Readings.{put_two, put_three, put_four}
use Rattle.record.proofs.reading.put.Goals as goal

pub returns-then-size-eq2 : goal.returns-then-size-eq2
returns-then-size-eq2 c = let a = c.args in put_two a.numbers.now a.n a.size a.e.kind a.e.a a.e.b a.e.c c.requires.0 c.if-size-eq2.true

pub returns-then-size-eq3 : goal.returns-then-size-eq3
returns-then-size-eq3 c = let a = c.args in put_three a.numbers.now a.n a.size a.e.kind a.e.a a.e.b a.e.c c.requires.0 c.if-size-eq3.true

pub returns : goal.returns
returns c = let a = c.args in put_four a.numbers.now a.n a.size a.e.kind a.e.a a.e.b a.e.c c.requires.0 (omega (arith, c.if-size-eq2.false, c.if-size-eq3.false))
