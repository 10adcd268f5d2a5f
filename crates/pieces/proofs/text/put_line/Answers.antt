-- `put_line` meets its contract: the stores are those of one digit or of two. Assumes nothing.
use Rattle.pieces.proofs.Lines.{stored_one, stored_two}
use Rattle.pieces.proofs.text.put_line.Goals as goal

pub returns-then-a-lt10 : goal.returns-then-a-lt10
returns-then-a-lt10 c = stored_one c.args.out.now c.args.at c.args.a c.digit.result c.if-a-lt10.true c.digit.ensures

pub returns : goal.returns
returns c = stored_two c.args.out.now c.args.at c.args.a c.digit-2.result c.digit-3.result c.if-a-lt10.false c.requires.0 c.digit-2.ensures c.digit-3.ensures
