-- `passed_over` equals its definition, where the word names an entry. Assumes nothing.
use mathlib.Core.Path.{sym, ◌∙◌}
use native.Mathlib.Omega.{arith}
use Rattle.collector.specs.Boxed.{word_of}
use Rattle.lent.specs.Lent.{state_of, box_of}
use Rattle.phases.proofs.Looking.{passes_marked}
use Rattle.phases.proofs.look.passed_over.Goals as goal

pub returns-then-handle-numbers : goal.returns-then-handle-numbers
unfolding state_of
returns-then-handle-numbers c = let a = c.args in passes_marked (word_of a.word) (box_of a.unit.now) c.handle-handle.result c.handle-handle.ensures.0 (sym c.names_tuple.ensures ∙ c.if-not-names_tuple.false) (omega (arith, c.if-handle-numbers.true))
