-- `print` meets its contract: a silent deed prints nothing, and every other one its answer. Assumes nothing.
use Rattle.turns.proofs.Turning.{printed_line, printed_silent}
use Rattle.turns.proofs.playing.print.Goals as goal

pub returns-in-Silent : goal.returns-in-Silent
returns-in-Silent c = printed_silent c.args.out.now c.args.at c.args.a c.args.deed c.in-Silent.is

pub returns-in_default : goal.returns-in_default
returns-in_default c = printed_line c.args.out.now c.put_line.new.out c.args.at c.put_line.result c.args.a c.put_line.ensures c.args.deed c.in_default.not-Silent
