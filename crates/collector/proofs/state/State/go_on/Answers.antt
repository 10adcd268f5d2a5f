-- `State::go_on` equals the definition `go_on`: the handle is the upper half of the word at a. Assumes nothing.
use Rattle.collector.specs.Boxed.{boxed}
use Rattle.collector.proofs.Sweeping.{goes_on}
use Rattle.collector.proofs.state.State.go_on.Goals as goal

pub returns : goal.returns
returns c q ads ss ls ms ds = let a = c.args in goes_on a.a c.handle.result (boxed q a.words.now a.flags.now ads ss ls ms ds a.self) c.handle.ensures.0
