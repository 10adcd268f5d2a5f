-- `State::no_room` meets its contract: each return is a case of the definition. Assumes nothing.
use Rattle.collector.proofs.Tuples.{no_handle, top_over, by_rest}
use Rattle.collector.proofs.state.State.no_room.Goals as goal

pub returns-then-free-eq0 : goal.returns-then-free-eq0
returns-then-free-eq0 c q ws fs ads ss ls ms ds = no_handle _ _ c.if-free-eq0.true

pub returns-then-m-top : goal.returns-then-m-top
returns-then-m-top c q ws fs ads ss ls ms ds = top_over _ _ c.if-free-eq0.false c.if-m-top.true

pub returns : goal.returns
returns c q ws fs ads ss ls ms ds = by_rest _ _ c.if-free-eq0.false c.if-m-top.false
