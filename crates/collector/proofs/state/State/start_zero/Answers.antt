-- `State::start_zero` equals the definition `start_zero`, by its two cases. Assumes nothing.
use Rattle.collector.proofs.Sweeping.{zero_live, zero_whole}
use Rattle.collector.proofs.state.State.start_zero.Goals as goal

pub returns-then-src-live : goal.returns-then-src-live
returns-then-src-live c q ws fs ads ss ls ms ds = zero_live _ c.if-src-live.true

pub returns : goal.returns
returns c q ws fs ads ss ls ms ds = zero_whole _ c.if-src-live.false
