-- `State::release` equals the definition `release`, by its cases. Assumes nothing.
use lib.ListN.{set}
use Rattle.rules.specs.Parts.{with_size}
use Rattle.collector.specs.Boxed.{boxed}
use Rattle.collector.proofs.Sweeping.{release_on, release_far, release_zero}
use Rattle.collector.proofs.state.State.release.Goals as goal

pub returns-then-last-self-2 : goal.returns-then-last-self-2
returns-then-last-self-2 c q ads ss ms ds = let a = c.args in release_on (boxed q a.words.now a.flags.now ads ss a.links.now ms ds a.self) (with_size a.size (boxed q a.words.now a.flags.now ads ss a.links.now ms ds a.self)) _ c.if-last-self.true c.if-last-self-2.true (c.go_on-self.ensures q ads ss (set a.links.now a.self.tuple a.self.free) ms ds)

pub returns-then-last-self : goal.returns-then-last-self
returns-then-last-self c q ads ss ms ds = let a = c.args in release_far (boxed q a.words.now a.flags.now ads ss a.links.now ms ds a.self) (with_size a.size (boxed q a.words.now a.flags.now ads ss a.links.now ms ds a.self)) c.if-last-self.true c.if-last-self-2.false

pub returns : goal.returns
returns c q ads ss ms ds = let a = c.args in release_zero (boxed q a.words.now a.flags.now ads ss a.links.now ms ds a.self) (with_size a.size (boxed q a.words.now a.flags.now ads ss a.links.now ms ds a.self)) _ c.if-last-self.false (c.start_zero-self.ensures q a.words.now a.flags.now ads ss (set a.links.now a.self.tuple a.self.free) ms ds)
