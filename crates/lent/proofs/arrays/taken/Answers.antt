-- `taken` meets its contract: the definition computes. Assumes nothing.
use mathlib.Core.Path.{refl}
use Rattle.lent.specs.Lent.{state_of}
use Rattle.lent.proofs.arrays.taken.Goals as goal

pub returns : goal.returns
unfolding state_of
returns c = refl
