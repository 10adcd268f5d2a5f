-- `State::sweep_write` equals the definition `sweep_write`, by its two cases. Assumes nothing.
use Rattle.collector.specs.Boxed.{boxed}
use Rattle.collector.proofs.Moving.{write_done, write_refused}
use mathlib.Core.Path.{sym, ◌∙◌}
use Rattle.collector.proofs.state.State.sweep_write.Goals as goal

pub returns-then-reaches : goal.returns-then-reaches
returns-then-reaches c q ads ss ls ms ds = let a = c.args in write_done (boxed q a.words.now a.flags.now ads ss ls ms ds a.self) (sym c.reaches.ensures ∙ c.if-reaches.true)

pub returns : goal.returns
returns c q ads ss ls ms ds = let a = c.args in write_refused (boxed q a.words.now a.flags.now ads ss ls ms ds a.self) (sym c.reaches.ensures ∙ c.if-reaches.false)
