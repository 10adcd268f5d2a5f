-- The bytes at hand stay within the input.
use Rattle.play.specs.Hand.{Within}
use Rattle.play.proofs.main.Given as goal

abbrev pub invariant-loop : goal.invariant-loop
invariant-loop l = Within l.r 65536
