-- `State::copy_word` equals the definition `copy_word`, by its two cases. Assumes nothing.
use Rattle.collector.specs.Boxed.{boxed}
use Rattle.collector.proofs.Moving.{copy_below, copy_above}
use Rattle.collector.proofs.state.State.copy_word.Goals as goal

pub returns-then-a-self : goal.returns-then-a-self
returns-then-a-self c q ads ss ls ms ds = let a = c.args in copy_below (boxed q a.words.now a.flags.now ads ss ls ms ds a.self) a.a c.if-a-self.true

pub returns : goal.returns
returns c q ads ss ls ms ds = let a = c.args in copy_above (boxed q a.words.now a.flags.now ads ss ls ms ds a.self) a.a c.if-a-self.false
