-- `State::sweep_clear` equals the definition `sweep_clear`, by its two cases. Assumes nothing.
use Rattle.collector.specs.Boxed.{boxed}
use Rattle.collector.proofs.Moving.{clear_done, clear_refused}
use mathlib.Core.Path.{sym, ◌∙◌}
use Rattle.collector.proofs.state.State.sweep_clear.Goals as goal

pub returns-then-reaches : goal.returns-then-reaches
returns-then-reaches c q ads ss ls ms ds = let a = c.args in clear_done (boxed q a.words.now a.flags.now ads ss ls ms ds a.self) (sym c.reaches.ensures ∙ c.if-reaches.true)

pub returns : goal.returns
returns c q ads ss ls ms ds = let a = c.args in clear_refused (boxed q a.words.now a.flags.now ads ss ls ms ds a.self) (sym c.reaches.ensures ∙ c.if-reaches.false)
