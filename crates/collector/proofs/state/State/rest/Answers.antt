-- `State::rest` equals the definition `rest`, by its two cases. Assumes nothing.
use Rattle.collector.proofs.Marking.{rest_held, rest_free}
use Rattle.collector.proofs.state.State.rest.Goals as goal

pub returns-then-self : goal.returns-then-self
returns-then-self c q ws fs ads ss ls ms ds = rest_held _ c.if-self.true

pub returns-else-self : goal.returns-else-self
returns-else-self c q ws fs ads ss ls ms ds = rest_free _ c.if-self.false
