-- `State::can_make` meets its contract: each return is a case of the definition. Assumes nothing.
use Rattle.collector.proofs.Tuples.{make_nil, make_far, make_rest, make_over, make_by_rest}
use Rattle.collector.proofs.state.State.can_make.Goals as goal

pub returns-then-free-eq0 : goal.returns-then-free-eq0
returns-then-free-eq0 c q ws fs ads ss ls ms ds = make_nil _ _ c.if-free-eq0.true

pub returns-then-entries-free : goal.returns-then-entries-free
returns-then-entries-free c q ws fs ads ss ls ms ds = make_far _ _ c.if-entries-free.true

pub returns-then-phase-eq0 : goal.returns-then-phase-eq0
returns-then-phase-eq0 c q ws fs ads ss ls ms ds = make_rest _ _ c.if-free-eq0.false c.if-entries-free.false c.if-phase-eq0.true

pub returns-then-m-live : goal.returns-then-m-live
returns-then-m-live c q ws fs ads ss ls ms ds = make_over _ _ c.if-free-eq0.false c.if-entries-free.false c.if-phase-eq0.false c.if-m-live.true

pub returns : goal.returns
returns c q ws fs ads ss ls ms ds = make_by_rest _ _ c.if-free-eq0.false c.if-entries-free.false c.if-phase-eq0.false c.if-m-live.false
