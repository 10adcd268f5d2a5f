-- `put_word` meets its contract: the laws of a register that is written. Assumes nothing.
use Rattle.collector.specs.Boxed.{word_of}
use Rattle.lent.proofs.Reading.{written_registers, written_state}
use Rattle.lent.proofs.registers.put_word.Goals as goal

pub returns : goal.returns
returns c = let a = c.args in record { registers = written_registers a.numbers.now a.switches.now a.r c.requires (word_of a.w); state = λ hd. written_state a.numbers.now a.switches.now a.r c.requires a.w.bits a.w.flag hd }
