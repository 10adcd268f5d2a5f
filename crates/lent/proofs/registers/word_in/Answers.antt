-- `word_in` meets its contract: the law of a register that is read. Assumes nothing.
use mathlib.Core.Path.{refl}
use Rattle.lent.proofs.Reading.{read_is}
use Rattle.lent.proofs.registers.word_in.Goals as goal

pub returns : goal.returns
returns c = let a = c.args in read_is a.numbers.now a.switches.now a.r c.requires _ refl refl
