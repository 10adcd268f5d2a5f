-- `put_number` meets its contract, by its two cases. Assumes nothing.
use borrow.Author.Tests.{eq-eqb, ne_eqb}
use Rattle.lent.specs.Lent.{put_at}
use Rattle.lent.proofs.arrays.put_number.Goals as goal

pub returns-then-old-new : goal.returns-then-old-new
unfolding put_at
returns-then-old-new c = simp (ne_eqb c.args.old c.args.new c.if-old-new.true)

pub returns-else-old-new : goal.returns-else-old-new
unfolding put_at
returns-else-old-new c = simp (eq-eqb c.args.old c.args.new c.if-old-new.false)
