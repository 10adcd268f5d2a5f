-- `put_switch` meets its contract, by its two cases. Assumes nothing.
use Rattle.lent.proofs.Fields.{flag_differs, flag_same}
use Rattle.lent.proofs.arrays.put_switch.Goals as goal

pub returns-then-old-new : goal.returns-then-old-new
returns-then-old-new c = let a = c.args in flag_differs a.switches.now a.i a.old a.new c.if-old-new.true

pub returns-else-old-new : goal.returns-else-old-new
returns-else-old-new c = let a = c.args in flag_same a.switches.now a.i a.old a.new c.if-old-new.false
