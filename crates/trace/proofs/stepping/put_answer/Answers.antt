-- `put_answer` meets its contract: the stores of 30 are those of its two digits. Assumes nothing.
use mathlib.Core.Path.{refl}
use native.Mathlib.Omega.{arith}
use Rattle.pieces.proofs.Lines.{stored_two}
use Rattle.trace.proofs.stepping.put_answer.Goals as goal

pub returns-then-a-eq30 : goal.returns-then-a-eq30
returns-then-a-eq30 c = let a = c.args in rw c.if-a-eq30.true (stored_two a.out.now a.at 30 51 48 (omega arith) (omega arith) refl refl)
