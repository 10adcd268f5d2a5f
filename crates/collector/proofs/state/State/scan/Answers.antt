-- `State::scan` equals the definition `scan`, by computing it. Assumes nothing.
use Rattle.rules.specs.Collector.{scan}
use mathlib.Core.Path.{refl}
use Rattle.collector.proofs.state.State.scan.Goals as goal

pub returns : goal.returns
unfolding scan
returns c q ws fs ms ds = refl
