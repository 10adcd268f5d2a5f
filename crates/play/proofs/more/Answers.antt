-- What came stands behind the bytes at hand, and where nothing does they are the last.
use Rattle.std.proofs.Common.{arith}
use Rattle.play.proofs.Hands.{came_behind, none_came}
use Rattle.play.proofs.more.Goals as goal

pub returns-clause-came : goal.returns-clause-came
returns-clause-came g c = rw (came_behind c.args.r c.args.input.now c.read_behind.new.input c.in_ok-got.got c.requires.0 (omega arith)) c.in_ok-got.ensures.came

pub returns-clause-last : goal.returns-clause-last
returns-clause-last g c = none_came c.args.r c.args.input.now c.read_behind.new.input c.in_ok-got.got c.requires.0 (omega arith) c.in_ok-got.ensures.within
