-- `State::zero_word` equals the definition `zero_word`, by computing it. Assumes nothing.
use Rattle.rules.specs.Collector.{zero_word}
use mathlib.Core.Path.{refl}
use Rattle.collector.proofs.state.State.zero_word.Goals as goal

pub returns : goal.returns
unfolding zero_word
returns c q ads ss ls ms ds = refl
