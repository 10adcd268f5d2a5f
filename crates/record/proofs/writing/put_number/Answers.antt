-- `writing::put_number` meets its contract: each turn stores a group, and the last group is behind them. Assumes nothing.
use native.Mathlib.Omega.{arith}
use Rattle.record.proofs.WritingNumbers.{start, turn, last}
use Rattle.record.proofs.writing.put_number.Goals as goal

pub loop-left-init : goal.loop-left-init
loop-left-init c = start _ _ _ (omega arith)

pub loop-left-preserved : goal.loop-left-preserved
loop-left-preserved c = turn c.loop-left-test.true c.put_byte.ensures c.loop-left.invariant

pub returns : goal.returns
returns c = last c.loop-left-test.false c.put_byte-2.ensures c.loop-left.invariant
