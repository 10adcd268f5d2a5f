-- `say_refused` meets its contract, by what `put_line` ensures. Assumes nothing.
use Rattle.player.proofs.Starting.{says}
use Rattle.player.proofs.calls.say_refused.Goals as goal

pub returns : goal.returns
returns c = says c.args.a c.args.out.now c.put_line-written.new.out c.args.place c.put_line-written.result c.put_line-written.ensures
